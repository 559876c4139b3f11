-- The binding of two lists and the job, return by return. The three checks 80, 81 to 83 and 84 in order give `binding`
-- (`filled`). The parts of the table that code reads hold the lists that the definitions read (`words_bound`), and the
-- words fit the space and the list (`kept_fits`, `kept_lent`). The own rules of def and call come first: what passes
-- them is `Kept` (`rules_own`, by cases on both answers), and a refusal leaves the list (`lay_refused`,
-- `bind_refused`). `bind` cites `bind_refused` and `bind_bound`. Assumes nothing.
use Rattle.std.specs.Prelude.{Err, Ok, Result}
use Rattle.arguments.specs.declared.CallArgs.{CallArgs}
use mathlib.Core.Path.{◌≡◌, refl, sym, ap, ◌∙◌}
use mathlib.Core.Bool.{Bool, true, false}
use mathlib.Core.List.{List, [], ◌∷◌, ◌++◌}
use Prim.Native.Nat.{ℕ, ◌+◌, ◌-◌, ◌*◌, ◌/◌, ◌≤◌}
use native.Mathlib.Omega.{arith}
use lib.ListN.{length, take, drop, replicate, length-take, length-drop}
use Rattle.fields.proofs.Basics.{never}
use Rattle.forest.specs.Forest.{Node, node_of, span_of, kids_of, forest}
use Rattle.forest.proofs.Stretch.{length_kids, length_rest}
use Rattle.table.specs.Answer.{Answer, accepted, refused, and_then, refusal, checked}
use Rattle.table.specs.Check.{Within, stretch_of}
use Rattle.table.specs.declared.Refusal.{Refusal}
use Rattle.table.proofs.Answers.{never_accepted, never_passed}
use Rattle.deflist.specs.Written.{Param, params_in, written}
use Rattle.deflist.specs.Unpack as outcome
use Rattle.deflist.specs.Unpack.{unpack, first_state}
use Rattle.deflist.specs.Limited.{limited}
use Rattle.deflist.specs.declared.State.{State}
use Rattle.deflist.specs.declared.Flat.{Flat}
use Rattle.deflist.specs.declared.Counts.{Counts}
use Rattle.deflist.proofs.Theorems.{accepted_only, written_short}
use Rattle.deflist.proofs.Limited.{limited_accepted}
use Rattle.parameters.specs.Indices.{values_of, counted_of}
use Rattle.parameters.specs.Params.{unpacked, answer_of, list_of}
use Rattle.parameters.specs.declared.Counted.{Counted}
use Rattle.parameters.proofs.Promises.{values_injective}
use Rattle.arguments.specs.Written.{Argument, arguments_in}
use Rattle.arguments.specs.Call as calling
use Rattle.arguments.specs.Job.{outcome_answer, called}
use Rattle.bind.specs.FlatList.{FlatParam, flats_from, flats}
use Rattle.bind.specs.Binding.{along, star_check, empty_check, binding}
use Rattle.bind.specs.Job.{counting, no_words, lists_bound, arguments_at, entry_of, words_of, answered, answered_at}
use Rattle.bind.specs.Job.{bind_of, laid, list_after, bound}
use Rattle.bind.specs.Reading.{behind_callee, flats_in, stored, binding_at, continued, Kept, Roomy, IfKept}
use Rattle.bind.specs.Reading.{without, is_refused, both, OwnRules}
use Rattle.bind.specs.declared.Bound.{Bound}
use Rattle.bind.proofs.Lists.{args_behind, flats_short}
use Rattle.bind.proofs.Entry.{Entered, entered, def_stretch, call_stretch, table_short, params_say, call_say}
use Rattle.bind.proofs.Entry.{flats_long}

-- 80, then 81 to 83, then 84
module _ (c : Counted) (fs : List FlatParam) (ws vs : List ℕ) (qs : List Argument) where
  stops : (r : Result (Unit {0}) Refusal) (why : Refusal) → checked r ≡ refusal why → stored r vs ≡ refusal why
  unfolding stored
  stops (Ok _) why e = never (cc)
  stops (Err w) why e = e

  passes : (r : Result (Unit {0}) Refusal) → checked r ≡ accepted [] → stored r vs ≡ accepted vs
  unfolding stored
  passes (Ok _) e = refl
  passes (Err w) e = never (cc)

  fill_is : (a x e r : Result (Unit {0}) Refusal) → checked a ≡ star_check qs
      → stored x vs ≡ along c.flat c.indices fs 0 ws qs
      → checked e ≡ empty_check 0 fs vs → checked r ≡ and_then (checked a) (λ _. and_then (checked x) (λ _. checked e))
      → stored r vs ≡ binding c fs ws qs
  unfolding binding stored
  fill_is (Err w) x e r a-is x-is e-is r-is = stops r w r-is ∙ rw (← a-is) refl
  fill_is (Ok _) (Err w) e r a-is x-is e-is r-is = stops r w r-is ∙ rw (← a-is, ← x-is) refl
  fill_is (Ok _) (Ok _) (Err w) r a-is x-is e-is r-is = stops r w r-is ∙ rw (← a-is, ← x-is, ← e-is) refl
  fill_is (Ok _) (Ok _) (Ok _) r a-is x-is e-is r-is = passes r r-is ∙ rw (← a-is, ← x-is, ← e-is) refl

-- the same of code's answers, which say it for all names, indices and states
pub filled : (ns params args : List ℕ) (param first : ℕ) (c : Counted) (ws vs : List ℕ)
    (a x e y r : Result (Unit {0}) Refusal)
    → ((ns : List ℕ) → checked a ≡ star_check (arguments_in ns (forest first args)))
    → ((i : ℕ) → stored x vs ≡ along c.flat c.indices
    (flats_in c.indices.num_positional_only ns i params) 0 ws (arguments_in ns (forest first args)))
    → ((ns : List ℕ) (s : State) → checked e ≡ empty_check 0 (flats_from s (params_in ns (forest param params))) vs)
    → checked y ≡ and_then (checked x) (λ _. checked e)
    → checked r ≡ and_then (checked a) (λ _. checked y)
    → stored r vs ≡ binding c (flats_in c.indices.num_positional_only ns param params) ws
    (arguments_in ns (forest first args))
unfolding flats_in
filled ns params args param first c ws vs a x e y r a-is x-is e-is y-is r-is =
    fill_is c (flats_in c.indices.num_positional_only ns param params) ws vs (arguments_in ns (forest first args))
    a x e r (a-is ns) (x-is param) (e-is ns _) (rw y-is at r-is)

-- the parts of the table that are read lie within it
module _ {t ns : List ℕ} {call def : ℕ} {c : Counted} (k : Kept t ns call def c) {s u : List ℕ}
    (s-is : s ≡ stretch_of t def) (u-is : u ≡ stretch_of t call) where
  pub call_within_lem : Within call u
  call_within_lem = rw u-is k.call_within

  module _ {params args : List ℕ} {first : ℕ} (params_are : params ≡ kids_of s) (args_are : args ≡ behind_callee u)
      (first_is : first ≡ call + 1 + span_of (kids_of u) / 24) where
    pub args_within : 24 * first + length args ≤ 50424
    unfolding behind_callee
    args_within = omega (
      arith,
      call_within_lem,
      length_kids u,
      length_rest (kids_of u),
      ap length args_are,
    )

    pub params_within : 24 * (def + 1) + length params ≤ 50424
    params_within = omega (arith, k.def_within, ap length s-is, length_kids s, ap length params_are)

    -- and hold what is bound
    pub words_bound : (ws : List ℕ) {a : Answer}
        → a ≡ binding c (flats_in c.indices.num_positional_only ns (def + 1) params) ws
        (arguments_in ns (forest first args))
        → a ≡ binding_at c t ns call def ws
    unfolding arguments_at
    words_bound ws a-is =
        let flat : flats_in c.indices.num_positional_only ns (def + 1) params
        ≡ flats (list_of t ns def) = rw (params_are, s-is) k.same in
        let arguments : arguments_in ns (forest first args) ≡ arguments_at t ns call =
        rw (first_is, args_are, ← u-is) (args_behind ns call u) in
        a-is ∙ rw (flat, arguments) refl

-- the words of a binding fit the space, and the list
module _ {t ns : List ℕ} {call def : ℕ} {c : Counted} (k : Kept t ns call def c) (many : ℕ)
    (many_is : (ns : List ℕ) → many ≡ length (arguments_at t ns call)) where
  flat_few : c.flat ≤ length (list_of t ns def)
  flat_few = omega (arith, k.flat, flats_short (list_of t ns def))

  module _ (few : 24 * many ≤ length t) (space : List ℕ) (enough : 4200 ≤ length space) where
    pub kept_fits : c.flat + many ≤ length space
    unfolding list_of
    kept_fits = omega (arith, flat_few, k.short, k.def_within, written_short ns def (stretch_of t def))

    pub kept_lent : (n : ℕ) → Roomy t ns call def n → Kept t ns call def c
        × ((length (take (c.flat + many - 0) (drop 0 space)) ≡ c.flat + length (arguments_at t ns call))
        × (length (take (c.flat + many - 0) (drop 0 space)) ≤ n))
    kept_lent n r =
        let long : length (take (c.flat + many - 0) (drop 0 space)) ≡ c.flat + many = simp (length-take, length-drop)
        (omega (arith, kept_fits)) in
        (k, (omega (arith, many_is ns), omega (arith, flat_few, many_is ns, r.room)))

  -- and are as many as the answer says
  pub kept_answer : (r : Result Bound Refusal) (x : Result (Unit {0}) Refusal)
      → bound r ≡ answered (checked x) c.flat many
      → checked x ≡ without (continued (Ok c) t ns call def)
      → bound r ≡ answered_at (continued (Ok c) t ns call def) t ns call def
  kept_answer r x r-is x-is =
      r-is ∙ ap (λ (a : Answer). answered a c.flat many) x-is ∙ go (continued (Ok c) t ns call def)
    where
      go : (a : Answer) → answered (without a) c.flat many ≡ answered_at a t ns call def
      go (accepted ws) = λ i. accepted (k.flat i ∷ many_is ns i ∷ [])
      go (refused n vs) = refl

-- the words are laid at the front of the list, unless they are refused
module _ (t ns : List ℕ) (call def : ℕ) (c : Counted) (n : ℕ) (us vs list : List ℕ)
    (long : n ≡ c.flat + length (arguments_at t ns call)) (us-are : us ≡ replicate n 0)
    (x : Result (Unit {0}) Refusal) (x-is : stored x vs ≡ binding_at c t ns call def us) {b : Bool}
    (b_is : b ≡ is_refused x) where
  words_are : stored x vs ≡ continued (Ok c) t ns call def
  unfolding continued
  words_are = x-is ∙ rw (us-are, long) refl

  pub lay_refused : b ≡ true → (checked x ≡ without (continued (Ok c) t ns call def))
      × (list ≡ laid (continued (Ok c) t ns call def) list)
  unfolding stored
  lay_refused h = rw (← words_are) (go x (sym b_is ∙ h))
    where
      go : (x : Result (Unit {0}) Refusal) → is_refused x ≡ true
          → (checked x ≡ without (stored x vs)) × (list ≡ laid (stored x vs) list)
      go (Ok _) e = never (cc)
      go (Err w) e = (refl, refl)

  pub lay_written : b ≡ false → {list' : List ℕ} → list' ≡ vs ++ drop (length vs) list
      → (checked x ≡ without (continued (Ok c) t ns call def))
      × (list' ≡ laid (continued (Ok c) t ns call def) list)
  unfolding stored
  lay_written h {list'} list_is = rw (← words_are) (go x (sym b_is ∙ h))
    where
      go : (x : Result (Unit {0}) Refusal) → is_refused x ≡ false
          → (checked x ≡ without (stored x vs)) × (list' ≡ laid (stored x vs) list)
      go (Ok _) e = (refl, list_is)
      go (Err w) e = never (cc)

-- the own rules of def and call
module _ (t ns : List ℕ) (call def room : ℕ) {e : Result (Unit {0}) Refusal}
    (e-is : checked e ≡ entry_of t ns call def room) where
  pub rules_refused : {why : Refusal} → e ≡ Err why
      → (continued (Err why) t ns call def ≡ words_of t ns call def room) × IfKept (Err why) t ns call def room
  unfolding continued words_of
  rules_refused {why} h = let told : entry_of t ns call def room ≡ refusal why = sym e-is ∙ ap checked h in
      (rw told refl, tt)

  module _ (good : e ≡ Ok tt) where
    let_in : entry_of t ns call def room ≡ accepted []
    let_in = sym e-is ∙ ap checked good

    ent : Entered t ns call def room
    ent = entered t ns call def room let_in

    abbrev ps : List Param
    ps = list_of t ns def

    abbrev owner : Node
    owner = node_of def (stretch_of t def)

    abbrev qs : List Argument
    qs = arguments_at t ns call

    kept : (c : Counts) → unpack ps ≡ outcome.accepted c → Kept t ns call def (counted_of c)
    unfolding counted_of flats_in flats list_of written
    kept c x-is = record {
      flat = sym (flats_long ps x-is);
      same = ap (λ (f : Flat). flats_from (first_state f) ps) (accepted_only ps x-is);
      short = table_short ent;
      call_within = (call_stretch ent).1;
      def_within = (def_stretch ent).1;
    }

    own : (u : Result Counted Refusal) (k : Result CallArgs Refusal) (x : outcome.Outcome) → unpacked u ≡ answer_of x
        → called k ≡ outcome_answer (calling.unpack qs) → limited owner ps ≡ x
        → (continued (both u k) t ns call def ≡ counting x (λ c. and_then (outcome_answer (calling.unpack qs)) (λ _.
        binding c (flats ps) (no_words c qs) qs))) × IfKept (both u k) t ns call def room
    unfolding continued both
    own (Err w) k (outcome.accepted c) e f x-is = never_accepted w e
    own (Err w) k (outcome.refused n r) e f x-is = (e, tt)
    own (Err w) k (outcome.repeated i r) e f x-is = (e, tt)
    own (Err w) k (outcome.internal i r) e f x-is = (e, tt)
    own (Ok d) k (outcome.refused n r) e f x-is = never_passed (sym e)
    own (Ok d) k (outcome.repeated i r) e f x-is = never_passed (sym e)
    own (Ok d) k (outcome.internal i r) e f x-is = never_passed (sym e)
    own (Ok d) (Err w) (outcome.accepted c) e f x-is = (rw (← f) refl, tt)
    own (Ok d) (Ok a) (outcome.accepted c) e f x-is =
        let values : values_of d ≡ values_of (counted_of c) = cc in
        let same : d ≡ counted_of c = values_injective d (counted_of c) values in
        rw (same, ← f) (refl, (kept c (limited_accepted owner ps x-is).1, record { room = ent.room }))

    pub rules_own : (r : Result Counted Refusal) → OwnRules t ns call def r
        → (continued r t ns call def ≡ words_of t ns call def room) × IfKept r t ns call def room
    unfolding words_of lists_bound
    rules_own r o = rw (let_in, o.is)
        (own o.params o.args (limited owner ps) (o.list_is ∙ params_say ent) (o.call_is ∙ call_say ent) refl)

-- the job
pub if_kept : (t ns : List ℕ) (call def n : ℕ) (r : Result Counted Refusal) {c : Counted} → IfKept r t ns call def n
    → r ≡ Ok c
    → Kept t ns call def c × Roomy t ns call def n
if_kept t ns call def n r k h = rw h at k

module _ (t ns : List ℕ) (call def : ℕ) (list : List ℕ) {r : Result Counted Refusal}
    (r-is : continued r t ns call def ≡ words_of t ns call def (length list)) where
  pub bind_refused : {why : Refusal} → r ≡ Err why
      → (refusal why ≡ bind_of t ns call def (length list)) × (list ≡ list_after t ns call def list)
  unfolding bind_of list_after continued
  bind_refused {why} h = let told : words_of t ns call def (length list) ≡ refusal why = sym r-is ∙ rw h refl in
      rw told (refl, refl)

  pub bind_bound : {c : Counted} → r ≡ Ok c → (x : Result Bound Refusal) {list' : List ℕ}
      → (bound x ≡ answered_at (continued (Ok c) t ns call def) t ns call def)
      × (list' ≡ laid (continued (Ok c) t ns call def) list)
      → (bound x ≡ bind_of t ns call def (length list)) × (list' ≡ list_after t ns call def list)
  unfolding bind_of list_after
  bind_bound {c} h x both-are =
      let told : continued (Ok c) t ns call def ≡ words_of t ns call def (length list) = rw h at r-is in
      rw (← told) both-are
