-- Laws of the words that the C functions write, one for each arm of a `match`. A function matches the job's answer u;
-- in an arm it is the value v, and the arm writes the number and the words of v. Since u means the promised answer,
-- these are the number and words of that answer (`told`, and `told_with` for a job that also fills a buffer). A
-- refusal has the same words in every job. `front_laid` to `call_laid` say that words stored one by one are the list
-- of the definition; `held_fit` and `params_fit` that the values fit 32 bits. Cite `told`, `told_with` and
-- `read_told`. No induction but over a list of values. Assumes nothing.
use Rattle.std.specs.Prelude.{None, Ok, Option, Result, Some, ℕ}
use mathlib.Core.Path.{◌≡◌, refl, sym, ap, ◌∙◌}
use mathlib.Core.List.{List, [], ◌∷◌, ◌++◌}
use Prim.Native.Nat.{ℕ, ◌/◌, ◌^◌, ◌<◌, ◌≤◌}
use native.Mathlib.Omega.{arith}
use lib.ListN.{set}
use Rattle.fields.specs.Field.{field}
use Rattle.table.specs.Answer.{Answer, accepted, and_then, refusal}
use Rattle.table.specs.declared.Refusal.{Refusal}
use Rattle.table.specs.declared.Refusal.TheVariants.{Spanned}
use Rattle.table.specs.declared.Span.{Span}
use Rattle.parameters.specs.declared.Range.{Range}
use Rattle.parameters.specs.Params.{params_of, AllBelow}
use Rattle.parameters.proofs.Accepted.{accepted_small}
use Rattle.arguments.specs.Job.{place_values, call_values}
use Rattle.arguments.specs.declared.CallArgs.{CallArgs}
use Rattle.tablefile.specs.Reading.{header_at, content_at, number_held}
use Rattle.tablefile.specs.Loading.{verdict}
use Rattle.tablefile.specs.Lending.{into_check}
use Rattle.tablefile.specs.declared.Heading.{Heading}
use Rattle.tablefile.proofs.Fronts.{dialect_few}
use Rattle.tablefile.proofs.Lends.{into_fronted}
use Rattle.starlark_checks.specs.Words.{number, words, place_in, call_words, rescue_words, laid, Fit}
use Rattle.starlark_checks.specs.Words.{stated_word, front_values, edition_values, held_values, read_of, pass_words}

-- n is the number of the answer, and ys are the words xs after the words of the answer are written
abbrev pub Put : (Answer → List ℕ) → Answer → ℕ → List ℕ → List ℕ → Type 0
Put put a n xs ys = (n ≡ number a) × (ys ≡ laid (put a) 0 xs)

-- LAW: what is written for the value of an arm is written for the job's answer
pub told : {U : Type 0} (put : Answer → List ℕ) (means : U → Answer) (u v : U) (a : Answer) (n : ℕ) (xs ys : List ℕ)
    → means u ≡ a → u ≡ v → Put put (means v) n xs ys → Put put a n xs ys
told put means u v a n xs ys e q (i, w) =
    let k : means v ≡ a = rw q at e in
    (i ∙ ap number k, w ∙ ap (λ (b : Answer). laid (put b) 0 xs) k)

-- LAW: the same, with the promise of the job for a buffer
pub told_with : {U B : Type 0} (put : Answer → List ℕ) (means : U → Answer) (u v : U) (a : Answer) (n : ℕ)
    (xs ys : List ℕ) → (means u ≡ a) × B → u ≡ v → Put put (means v) n xs ys
    → (n ≡ number a) × ((ys ≡ laid (put a) 0 xs) × B)
told_with put means u v a n xs ys (e, b) q p = let k = told put means u v a n xs ys e q p in (k.0, (k.1, b))

-- LAW: a refusal has the same words in every job
pub refused_put : (r : Refusal) {n : ℕ} (xs : List ℕ) {ys : List ℕ} → Put words (refusal r) n xs ys
    → Put call_words (refusal r) n xs ys
refused_put r xs p = p

pub rescue_refused : (r : Refusal) {n : ℕ} (xs : List ℕ) {ys : List ℕ} → Put words (refusal r) n xs ys
    → Put rescue_words (refusal r) n xs ys
rescue_refused r xs p = p

pub pass_refused : (r : Refusal) {n : ℕ} (xs : List ℕ) {ys : List ℕ} → Put words (refusal r) n xs ys
    → Put pass_words (refusal r) n xs ys
pass_refused r xs p = p

-- reading a file: v is the answer of `tablefile::read_into`
module _ (file : List ℕ) (a b : ℕ) (v : Result (Unit {0}) Refusal) {B : Type 0}
    (p : (verdict v ≡ into_check file a b) × B) where
  -- LAW: the counts of an accepted file fit words
  pub held_fit : v ≡ Ok tt → Fit ((header_at file).nodes ∷ (header_at file).names ∷ [])
  held_fit e =
      let f = into_fronted file a b (sym p.0 ∙ ap verdict e) in
      (omega (arith, f.counts), (omega (arith, f.counts), tt))

  -- LAW: what is written for an arm is written for the answer
  pub read_told : (w : Result (Unit {0}) Refusal) (n : ℕ) (xs ys : List ℕ) → v ≡ w
      → Put words (and_then (verdict w) (λ _. accepted (held_values file))) n xs ys
      → (n ≡ number (read_of file a b)) × ((ys ≡ laid (words (read_of file a b)) 0 xs) × B)
  unfolding read_of
  read_told w n xs ys e put =
      let k : and_then (verdict w) (λ _. accepted (held_values file)) ≡ read_of file a b =
      ap (λ (x : Answer). and_then x (λ _. accepted (held_values file))) (sym (ap verdict e) ∙ p.0) in
      (put.0 ∙ ap number k, (put.1 ∙ ap (λ (x : Answer). laid (words x) 0 xs) k, p.1))

-- LAW: the values of the header fit words if its counts do
module _ (file : List ℕ) {h : Heading} (h-is : h ≡ header_at file) where
  pub dialect_fits : h.dialect / 9 < 2 ^ 32
  dialect_fits = rw h-is (omega (arith, dialect_few file))

  module _ (fit : Fit ((header_at file).nodes ∷ (header_at file).names ∷ [])) where
    pub nodes_fit : h.nodes < 2 ^ 32
    nodes_fit = rw h-is (omega (arith, fit.0))

    pub names_fit : h.names < 2 ^ 32
    names_fit = rw h-is (omega (arith, fit.1.0))

-- LAW: six words, written one after the other
pub front_laid : (file : List ℕ) {h : Heading} (xs : List ℕ) {d : List ℕ} {x y z : ℕ} → h ≡ header_at file
    → d ≡ (content_at file).dialect → x ≡ field 4 d 0 → y ≡ field 4 d 4 → z ≡ field 4 d 8
    → set (set (set (set (set (set xs 0 h.nodes) 1 h.names) 2 (h.dialect / 9)) 3 x) 4 y) 5 z
    ≡ laid (front_values file) 0 xs
front_laid file xs h-is d-is x-is y-is z-is = rw (x-is, y-is, z-is, d-is, h-is) refl

-- LAW: two words of an edition, written from place 6 on
pub edition_laid : (e : Option ℕ) (xs : List ℕ) {w n : ℕ} → w ≡ stated_word e → n ≡ number_held e
    → set (set xs 6 w) 7 n ≡ laid (edition_values e) 6 xs
edition_laid e xs w-is n_is = rw (w-is, n_is) refl

-- LAW: two more words after these
pub held_laid : (file : List ℕ) (xs : List ℕ) {ys zs : List ℕ} {e : Option ℕ} → ys ≡ laid (front_values file) 0 xs
    → e ≡ (content_at file).edition → zs ≡ laid (edition_values e) 6 ys
    → (0 ≡ number (accepted (held_values file))) × (zs ≡ laid (words (accepted (held_values file))) 0 xs)
held_laid file xs ys-is e-is zs-is = (refl, zs-is ∙ rw (e-is, ys-is) refl)

-- LAW: a refusal with a span has five words
module _ (r : Refusal) {n k : ℕ} {s : Span} {p : Option ℕ} (h : r ≡ Spanned n k s p) where
  pub spanned_number : n ≡ number (refusal r)
  spanned_number = rw h refl

  pub spanned_laid : (xs : List ℕ) {w : ℕ} → w ≡ place_in (place_values p)
      → set (set (set (set (set xs 0 k) 1 s.begin) 2 s.end) 3 w) 4 s.file ≡ laid (words (refusal r)) 0 xs
  spanned_laid xs w-is = rw (h, w-is) (go p)
    where
      go : (p : Option ℕ)
          → set (set (set (set (set xs 0 k) 1 s.begin) 2 s.end) 3 (place_in (place_values p))) 4 s.file
          ≡ laid (words (refusal (Spanned n k s p))) 0 xs
      go (Some i) = refl
      go None = refl

-- LAW: a range whose ends fit words
pub range_fit : (r s : Range) → r ≡ s → s.from ≤ 4294967295 → s.upto ≤ 4294967295 → Fit (r.from ∷ r.upto ∷ [])
range_fit r s e h k = rw e (h, (k, tt))

-- numbers that are small fit words
small_fit : (vs : List ℕ) → AllBelow 2100 vs → Fit vs
small_fit [] h = tt
small_fit (v ∷ vs) (h, hs) = (omega (arith, h), small_fit vs hs)

-- LAW: the values of an accepted parameter list fit words
pub params_fit : {U : Type 0} (means : U → Answer) (u v : U) (t names : List ℕ) (node room : ℕ) (vs : List ℕ)
    → means u ≡ params_of t names node room → u ≡ v → means v ≡ accepted vs → Fit vs
params_fit means u v t names node room vs e q m =
    let k : means v ≡ params_of t names node room = rw q at e in
    small_fit vs (accepted_small t names node room (sym k ∙ m))

-- the words of an accepted call
call_words_lem : (a : CallArgs) → call_words (accepted (call_values a)) ≡ a.num_pos ∷ a.num_named
    ∷ place_in (place_values a.star) ∷ place_in (place_values a.star_star) ∷ []
call_words_lem a = go a.star a.star_star
  where
    go : (p q : Option ℕ) → call_words (accepted (a.num_pos ∷ a.num_named ∷ place_values p ++ place_values q))
        ≡ a.num_pos ∷ a.num_named ∷ place_in (place_values p) ∷ place_in (place_values q) ∷ []
    go (Some i) (Some j) = refl
    go (Some i) None = refl
    go None (Some j) = refl
    go None None = refl

-- LAW: four words, written one after the other
pub call_laid : (a : CallArgs) (s k : ℕ) (xs : List ℕ) → s ≡ place_in (place_values a.star)
    → k ≡ place_in (place_values a.star_star)
    → set (set (set (set xs 0 a.num_pos) 1 a.num_named) 2 s) 3 k
    ≡ laid (call_words (accepted (call_values a))) 0 xs
call_laid a s k xs e f = rw (e, f) (ap (λ (ws : List ℕ). laid ws 0 xs) (sym (call_words_lem a)))
