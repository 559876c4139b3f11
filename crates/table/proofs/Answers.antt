-- No two answers of code mean the same, so a promise about what an answer means fixes the answer: cite
-- `refusal_injective`, `checked_injective`, `given_injective`. Each is by cases on the variants; different variants
-- have different lengths of values, and equal ones have equal values part by part. Below are laws of steps in order
-- (`and_then`): a refusal comes from the first step that refuses (`first_refused`), and where the whole is accepted
-- every step is passed (`passed_both`, `test_passed`). They split on what the first step gave. Assumes nothing.
use Rattle.std.specs.Prelude.{Err, None, Ok, Option, Result, Some, ℕ}
use Rattle.dialect.specs.declared.Dialect.{Dialect}
use mathlib.Core.Path.{◌≡◌, refl, sym, ap, ◌∙◌}
use mathlib.Core.Bool.{Bool, true, false}
use mathlib.Core.List.{List, [], ◌∷◌, ◌++◌}
use Prim.Native.Nat.{ℕ}
use Rattle.fields.proofs.Basics.{never, clash}
use Rattle.fields.specs.Choice.{if'}
use Rattle.table.specs.Answer.{Answer, accepted, refused, passes, and_then, number_of, carried, refusal}
use Rattle.table.specs.Answer.{checked, node_in, extent_in, earlier_in, earlier_values, span_values}
use Rattle.table.specs.Check.{given}
use Rattle.table.specs.declared.Span.{Span}
use Rattle.table.specs.declared.Refusal.{Refusal}
use Rattle.table.specs.declared.Refusal.TheVariants.{Bare, Placed, Spanned}

pub span_injective : (s u : Span) → s.begin ≡ u.begin → s.end ≡ u.end → s.file ≡ u.file → s ≡ u
span_injective s u b e f = λ i. record { begin = b i; end = e i; file = f i }

-- what a refusal carries, by its variant
module _ (why : Refusal) {n k : ℕ} where
  pub number_spanned : {s : Span} {e : Option ℕ} → why ≡ Spanned n k s e → n ≡ number_of why
  number_spanned h = rw h refl

  pub node_placed : why ≡ Placed n k → Some k ≡ node_in why
  node_placed h = rw h refl

  pub node_spanned : {s : Span} {e : Option ℕ} → why ≡ Spanned n k s e → Some k ≡ node_in why
  node_spanned h = rw h refl

  pub extent_spanned : {s : Span} {e : Option ℕ} → why ≡ Spanned n k s e → Some s ≡ extent_in why
  extent_spanned h = rw h refl

  pub earlier_spanned : {s : Span} {e : Option ℕ} → why ≡ Spanned n k s e → e ≡ earlier_in why
  earlier_spanned h = rw h refl

-- no two places have the same values
earlier_injective : (p q : Option ℕ) → earlier_values p ≡ earlier_values q → p ≡ q
earlier_injective (Some i) (Some j) e = let same : i ≡ j = cc in ap Some same
earlier_injective (Some i) None e = never (cc)
earlier_injective None (Some j) e = never (cc)
earlier_injective None None e = refl

pub refusal_injective : (r s : Refusal) → refusal r ≡ refusal s → r ≡ s
refusal_injective (Bare n) (Bare m) e = cc
refusal_injective (Bare n) (Placed m l) e = never (cc)
refusal_injective (Bare n) (Spanned m l u g) e = never (cc)
refusal_injective (Placed n k) (Bare m) e = never (cc)
refusal_injective (Placed n k) (Placed m l) e = cc
refusal_injective (Placed n k) (Spanned m l u g) e = never (cc)
refusal_injective (Spanned n k s f) (Bare m) e = never (cc)
refusal_injective (Spanned n k s f) (Placed m l) e = never (cc)
refusal_injective (Spanned n k s f) (Spanned m l u g) e =
    let begins : s.begin ≡ u.begin = cc in
    let ends : s.end ≡ u.end = cc in
    let files : s.file ≡ u.file = cc in
    let spans : s ≡ u = span_injective s u begins ends files in
    let numbers : n ≡ m = cc in
    let nodes : k ≡ l = cc in
    let before : earlier_values f ≡ earlier_values g = cc in
    let places : f ≡ g = earlier_injective f g before in
    λ i. Spanned (numbers i) (nodes i) (spans i) (places i)

-- a refusal with a span that is known
pub refused_there_lem : (n k : ℕ) (vs : List ℕ) {s u : Span} {x : Answer} → x ≡ refused n (k ∷ span_values s ++ vs)
    → s ≡ u → x ≡ refused n (k ∷ span_values u ++ vs)
refused_there_lem n k vs x-is s-is = x-is ∙ ap (λ (u : Span). refused n (k ∷ span_values u ++ vs)) s-is

-- an answer that passes
pub passes_is : (a : Answer) → passes a ≡ true → (vs : List ℕ) × (a ≡ accepted vs)
passes_is (accepted vs) e = (vs, refl)
passes_is (refused n vs) e = clash e refl

-- a refusal is no acceptance
pub never_passed : {P : Type 0} {n : ℕ} {vs ws : List ℕ} → refused n vs ≡ accepted ws → P
never_passed e = never (cc)

pub never_accepted : {P : Type 0} (r : Refusal) {vs : List ℕ} → refusal r ≡ accepted vs → P
never_accepted r e = never (cc)

pub checked_injective : (r s : Result (Unit {0}) Refusal) → checked r ≡ checked s → r ≡ s
checked_injective (Ok _) (Ok _) e = refl
checked_injective (Ok _) (Err s) e = never_accepted s (sym e)
checked_injective (Err r) (Ok _) e = never_accepted r e
checked_injective (Err r) (Err s) e = ap Err (refusal_injective r s e)

-- no two things that a job in a dialect is given mean the same
pub given_injective : (r s : Result Dialect Refusal) → given r ≡ given s → r ≡ s
given_injective (Ok d) (Ok f) e = let same : d ≡ f = cc in ap Ok same
given_injective (Ok d) (Err s) e = never (cc)
given_injective (Err r) (Ok f) e = never (cc)
given_injective (Err r) (Err s) e =
    let numbers : number_of r ≡ number_of s = cc in
    let values : carried r ≡ carried s = cc in
    ap Err (refusal_injective r s (λ i. refused (numbers i) (values i)))

-- LAWS of a step x, where what follows it is accepted: a refusal is its own; and if the whole is accepted, it is passed
module _ (x : Answer) (vs : List ℕ) where
  pub first_refused : (why : Refusal) (next : Unit {0} → Answer) → refusal why ≡ and_then x (λ _. accepted vs)
      → refusal why ≡ and_then x next
  first_refused why next e = go x e
    where
      go : (y : Answer) → refusal why ≡ and_then y (λ _. accepted vs) → refusal why ≡ and_then y next
      go (accepted ws) e = never_accepted why e
      go (refused n ws) e = e

  pub first_accepted : {ws : List ℕ} (next : Unit {0} → Answer) → accepted ws ≡ and_then x (λ _. accepted vs)
      → and_then x next ≡ next tt
  first_accepted {ws} next e = go x e
    where
      go : (y : Answer) → accepted ws ≡ and_then y (λ _. accepted vs) → and_then y next ≡ next tt
      go (accepted us) e = refl
      go (refused n us) e = never (cc)

  pub same_values : {ws : List ℕ} → accepted ws ≡ and_then x (λ _. accepted vs) → ws ≡ vs
  same_values {ws} e = go x e
    where
      go : (y : Answer) → accepted ws ≡ and_then y (λ _. accepted vs) → ws ≡ vs
      go (accepted us) e = cc
      go (refused n us) e = never (cc)

-- LAW: what follows two steps follows the second
pub after_both : (x : Answer) (y z : Unit {0} → Answer)
    → and_then (and_then x y) z ≡ and_then x (λ _. and_then (y tt) z)
after_both (accepted vs) y z = refl
after_both (refused n vs) y z = refl

-- LAW: where two steps are passed, each is; a test that is passed comes out true
pub passed_both : (x : Answer) (next : Unit {0} → Answer) {ws : List ℕ} → and_then x next ≡ accepted ws
    → (us : List ℕ) × (x ≡ accepted us) × (next tt ≡ accepted ws)
passed_both (accepted us) next e = (us, refl, e)
passed_both (refused n us) next e = never_passed e

pub test_passed : (b : Bool) (n : ℕ) {us : List ℕ} → if' b (λ _. accepted []) (λ _. refused n []) ≡ accepted us
    → b ≡ true
test_passed true n e = refl
test_passed false n e = never_passed e
