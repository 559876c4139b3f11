-- W-204, about the list and what a refusal carries:
--
--   words past the answer stay; no refusal changes a buffer; 11 and 22 carry an earlier node, no other refusal does.
--
-- The list at exit is the words of the binding and then what was there (`Passed`), or the list itself. A refusal
-- comes from the entry, from the def's list, from the call's arguments or from the binding; of each it is known by
-- which numbers it refuses and what it carries. Assumes nothing.
use mathlib.Core.Path.{◌≡◌, refl, sym, ap, ◌∙◌}
use mathlib.Core.Bool.{Bool, true, false, not, ◌&&◌}
use mathlib.Core.Logic.{◌⊎◌, inl, inr}
use mathlib.Core.List.{List, [], ◌∷◌, ◌++◌, map}
use Prim.Native.Nat.{ℕ, ◌+◌, ◌-◌, ◌<◌, ◌≤◌}
use native.Mathlib.Omega.{arith}
use lib.ListN.{length, get_or, drop, set, length-append, length-drop, length-map}
use lib.Seq.{get_or-append-add, get_or-drop}
use lib.Dec.{eqb, ltb, leb}
use Rattle.fields.proofs.Basics.{never}
use Rattle.fields.specs.Choice.{if'}
use Rattle.forest.specs.Forest.{Node, node_of}
use Rattle.table.specs.Numbers.{wrong_node, short_buffer, duplicated_parameter, repeated_named, already_filled}
use Rattle.table.specs.Numbers.{star_argument, empty_parameter}
use Rattle.table.specs.Answer.{Answer, accepted, refused, and_then, refused_at, OnlyCarries}
use Rattle.table.specs.Check.{stretch_of, entry_check}
use Rattle.table.specs.declared.Wanted.TheVariants.{Call}
use Rattle.table.proofs.Carried.{Before, before_then, before_test, entry_before}
use Rattle.deflist.specs.Written.{Param}
use Rattle.deflist.specs.Unpack as outcome
use Rattle.deflist.specs.Unpack.{modes}
use Rattle.deflist.specs.Limited.{limited}
use Rattle.deflist.proofs.Theorems.{modes_short}
use Rattle.deflist.proofs.Limited.{limited_other}
use Rattle.parameters.specs.Indices.{counted_of}
use Rattle.parameters.specs.Params.{list_of}
use Rattle.parameters.specs.declared.Counted.{Counted}
use Rattle.parameters.specs.declared.DefParamIndices.{DefParamIndices}
use Rattle.arguments.specs.Written.{Argument, node_in, kind_in}
use Rattle.arguments.specs.Call as calling
use Rattle.arguments.specs.Job.{outcome_answer}
use Rattle.arguments.specs.declared.Kind.{Kind}
use Rattle.arguments.specs.declared.Kind.TheVariants.{Positional, Named, Args, KwArgs}
use Rattle.arguments.proofs.Twice.{list_carries}
use Rattle.bind.specs.FlatList.{FlatParam, flats}
use Rattle.bind.specs.Binding.{reaches, unreached, turn, and_with, along, is_star, star_check, empty_check, binding}
use Rattle.bind.specs.Job.{is_def, counting, no_words, lists_bound, arguments_at, entry_of, words_of, answered_at, bind_of}
use Rattle.bind.specs.Job.{laid, list_after}
use Rattle.bind.specs.declared.Reach.{Reach}
use Rattle.bind.specs.declared.Reach.TheVariants.{Fills, Joins, Nowhere}
use Rattle.bind.proofs.Lists.{flats_modes}
use Rattle.reached.specs.Said.{flats_at}
use Rattle.reached.specs.Refused.{spanned, OnlyTwoCarry}
use Rattle.reached.proofs.Early.{EarlyOutcome, early_limited, CallNumber, call_numbers}
use Rattle.reached.proofs.Passed as passing
use Rattle.reached.proofs.Passed.{Passed}

-- "No refusal changes a buffer."
pub refusal_keeps : (t names : List ℕ) (call def : ℕ) (list : List ℕ) {n : ℕ} {vs : List ℕ}
    → bind_of t names call def (length list) ≡ refused n vs → list_after t names call def list ≡ list
unfolding bind_of list_after
refusal_keeps t names call def list {n} {vs} e = go (words_of t names call def (length list)) e
  where
    go : (a : Answer) → answered_at a t names call def ≡ refused n vs → laid a list ≡ list
    go (accepted ws) e = never (cc)
    go (refused m us) e = refl

-- there are no more flat parameters than written ones
flats_few : (l : List Param) → length (flats l) ≤ length l
unfolding flats modes
flats_few l =
    let many : length (map (λ (p : FlatParam). p.mode) (flats l)) ≡ length (modes l) = ap length (flats_modes _ l) in
    omega (arith, length-map (flats l) (λ (p : FlatParam). p.mode), many, modes_short l)

module _ (t names : List ℕ) (call def : ℕ) (list : List ℕ) {vs : List ℕ}
    (bound : bind_of t names call def (length list) ≡ accepted vs) where
  pass : Passed t names call def list
  pass = passing.passed t names call def list bound

  -- "words past the answer stay"
  pub past_words_stay : (i : ℕ) → length (flats_at t names def) + length (arguments_at t names call) ≤ i
      → get_or (list_after t names call def list) i 0 ≡ get_or list i 0
  past_words_stay i h =
      let m = length pass.words in
      let at : i ≡ m + (i - m) = omega (arith, passing.long t names call def list pass) in
      rw pass.exit
      (ap (λ (x : ℕ). get_or (pass.words ++ drop m list) x 0) at
      ∙ get_or-append-add pass.words (drop m list) (i - m) 0
      ∙ get_or-drop m list (i - m) 0
      ∙ ap (λ (x : ℕ). get_or list x 0) (sym at))

  -- and the list is as long as it was
  pub list_as_long : length (list_after t names call def list) ≡ length list
  list_as_long =
      let m = length pass.words in
      let whole : length (pass.words ++ drop m list) ≡ m + (length list - m) =
      length-append pass.words (drop m list) ∙ ap (λ (x : ℕ). m + x) (length-drop m list) in
      rw pass.exit (whole ∙ omega (
        arith,
        passing.long t names call def list pass,
        flats_few (list_of t names def),
        pass.entry.room,
      ))

-- a refusal with another number carries none
without : (n : ℕ) (vs : List ℕ) → (n ≡ duplicated_parameter → ⊥) → (n ≡ repeated_named → ⊥) → length vs ≤ 4
    → OnlyTwoCarry (refused n vs)
without n vs a b h = (go, λ c d. h)
  where
    go : (n ≡ duplicated_parameter) ⊎ (n ≡ repeated_named) → length vs ≡ 5
    go (inl e) = absurd (a e)
    go (inr e) = absurd (b e)

-- the entry: 1 to 4, 6, 7
pub entry_first : (t ns : List ℕ) (call def room : ℕ) → Before 8 (entry_of t ns call def room)
unfolding entry_of
entry_first t ns call def room =
    before_then 8 (entry_check Call t ns call) _ (entry_before 8 Call t ns call (omega arith))
    (before_then 8 (if' (is_def t def) (λ _. accepted []) (λ _. refused wrong_node [])) _
    (before_test 8 (is_def t def) wrong_node (omega arith))
    (before_test 8 (leb (length (list_of t ns def) + length (arguments_at t ns call)) room) short_buffer (omega arith)))

-- the binding: 80 to 84, each at one record
abbrev Bound : Answer → Type 0
Bound (accepted vs) = Unit {0}
Bound (refused n vs) = (79 < n) × (length vs ≤ 4)

unreached_late : (k : Kind) → 79 < unreached k
unfolding unreached
unreached_late Positional = omega arith
unreached_late Named = omega arith
unreached_late Args = omega arith
unreached_late KwArgs = omega arith

bound_turn : (place : ℕ) (r : Reach) (k : Kind) (s : Node) (ws : List ℕ) → Bound (turn place r k s ws)
unfolding turn
bound_turn place (Fills i) k s ws = go (ltb 0 (get_or ws i 0))
  where
    go : (b : Bool) → Bound (if' b (λ _. refused_at already_filled s) (λ _. accepted (set (set ws i s.at) place i)))
    go true = (omega arith, omega arith)
    go false = tt
bound_turn place (Joins i) k s ws = tt
bound_turn place Nowhere k s ws = (unreached_late k, omega arith)

bound_along : (flat : ℕ) (d : DefParamIndices) (fs : List FlatParam) (k : ℕ) (ws : List ℕ) (qs : List Argument)
    → Bound (along flat d fs k ws qs)
unfolding along
bound_along flat d fs k ws [] = tt
bound_along flat d fs k ws (a ∷ qs) = go (turn (flat + k) (reaches d fs k a) (kind_in a) (node_in a) ws)
    (bound_turn (flat + k) (reaches d fs k a) (kind_in a) (node_in a) ws) (λ vs. bound_along flat d fs (k + 1) vs qs)
  where
    go : (x : Answer) → Bound x → ((vs : List ℕ) → Bound (along flat d fs (k + 1) vs qs))
        → Bound (and_with x (λ vs. along flat d fs (k + 1) vs qs))
    go (accepted vs) b rest = rest vs
    go (refused n vs) b rest = b

bound_star : (qs : List Argument) → Bound (star_check qs)
unfolding star_check
bound_star [] = tt
bound_star (a ∷ qs) = go (is_star (kind_in a)) (bound_star qs)
  where
    go : (b : Bool) → Bound (star_check qs)
        → Bound (if' b (λ _. refused_at star_argument (node_in a)) (λ _. star_check qs))
    go true rest = (omega arith, omega arith)
    go false rest = rest

bound_empty : (k : ℕ) (fs : List FlatParam) (us : List ℕ) → Bound (empty_check k fs us)
unfolding empty_check
bound_empty k [] us = tt
bound_empty k (p ∷ fs) us = go (not p.default && eqb (get_or us k 0) 0) (bound_empty (k + 1) fs us)
  where
    go : (b : Bool) → Bound (empty_check (k + 1) fs us)
        → Bound (if' b (λ _. refused_at empty_parameter p.node) (λ _. empty_check (k + 1) fs us))
    go true rest = (omega arith, omega arith)
    go false rest = rest

bound_binding : (c : Counted) (fs : List FlatParam) (ws : List ℕ) (qs : List Argument) → Bound (binding c fs ws qs)
unfolding binding
bound_binding c fs ws qs = first (star_check qs) (bound_star qs)
  where
    third : (us : List ℕ) (x : Answer) → Bound x → Bound (and_then x (λ _. accepted us))
    third us (accepted vs) b = tt
    third us (refused n vs) b = b

    second : (x : Answer) → Bound x → Bound (and_with x (λ us. and_then (empty_check 0 fs us) (λ _. accepted us)))
    second (accepted us) b = third us (empty_check 0 fs us) (bound_empty 0 fs us)
    second (refused n vs) b = b

    first : (x : Answer) → Bound x → Bound (and_then x (λ _.
        and_with (along c.flat c.indices fs 0 ws qs) (λ us. and_then (empty_check 0 fs us) (λ _. accepted us))))
    first (accepted us) b = second (along c.flat c.indices fs 0 ws qs)
        (bound_along c.flat c.indices fs 0 ws qs)
    first (refused n vs) b = b

bound_none : (a : Answer) → Bound a → OnlyTwoCarry a
bound_none (accepted vs) b = tt
bound_none (refused n vs) b =
    without n vs (λ e. absurd (omega (arith, b.0, e))) (λ e. absurd (omega (arith, b.0, e))) b.1

-- the two lists, then the binding
call_first : (a : Answer) (next : Unit {0} → Answer) → OnlyCarries repeated_named a → CallNumber a
    → OnlyTwoCarry (next tt) → OnlyTwoCarry (and_then a next)
call_first (accepted vs) next c m rest = rest
call_first (refused n vs) next c m rest = (go m, λ a b. c.1 b)
  where
    go : (n ≡ 0) ⊎ ((19 < n) × (n < 25)) → (n ≡ duplicated_parameter) ⊎ (n ≡ repeated_named) → length vs ≡ 5
    go m (inr e) = c.0 e
    go (inl z) (inl e) = absurd (omega arith)
    go (inr h) (inl e) = absurd (omega (arith, h.0))

lists_carry : (owner : Node) (ps : List Param) (qs : List Argument) → OnlyTwoCarry (lists_bound owner ps qs)
unfolding lists_bound
lists_carry owner ps qs = go (limited owner ps) refl (early_limited owner ps)
  where
    go : (o : outcome.Outcome) → limited owner ps ≡ o → EarlyOutcome o
        → OnlyTwoCarry (counting o (λ c. and_then (outcome_answer (calling.unpack qs)) (λ _.
        binding c (flats ps) (no_words c qs) qs)))
    go (outcome.accepted c) u early = call_first (outcome_answer (calling.unpack qs)) _ (list_carries qs)
        (call_numbers qs) (bound_none (binding (counted_of c) (flats ps) (no_words (counted_of c) qs) qs)
        (bound_binding (counted_of c) (flats ps) (no_words (counted_of c) qs) qs))
    go (outcome.refused n r) u early =
        without n (spanned r) (limited_other owner ps u) (λ e. absurd (omega (arith, e))) (omega arith)
    go (outcome.repeated i r) u early = (λ s. refl, λ a b. absurd (a refl))
    go (outcome.internal x r) u early =
        without 0 (spanned r) (λ e. absurd (omega (arith, e))) (λ e. absurd (omega (arith, e))) (omega arith)

-- "Refusals 11 and 22 carry that node besides what they carried; all other refusals carry none."
pub bind_carries : (t names : List ℕ) (call def room : ℕ) {n : ℕ} {vs : List ℕ}
    → bind_of t names call def room ≡ refused n vs
    → ((n ≡ duplicated_parameter) ⊎ (n ≡ repeated_named) → length vs ≡ 5)
    × ((n ≡ duplicated_parameter → ⊥) → (n ≡ repeated_named → ⊥) → length vs ≤ 4)
unfolding bind_of words_of
bind_carries t names call def room {n} {vs} e =
    let told : OnlyTwoCarry (bind_of t names call def room) = answer (words_of t names call def room)
    (entry (entry_of t names call def room) (entry_first t names call def room)) in
    rw e at told
  where
    entry : (a : Answer) → Before 8 a
        → OnlyTwoCarry (and_then a (λ _.
        lists_bound (node_of def (stretch_of t def)) (list_of t names def) (arguments_at t names call)))
    entry (accepted us) b = lists_carry _ (list_of t names def) (arguments_at t names call)
    entry (refused m us) b =
        without m us (λ e. absurd (omega (arith, b.0, e))) (λ e. absurd (omega (arith, b.0, e))) b.1

    answer : (a : Answer) → OnlyTwoCarry a → OnlyTwoCarry (answered_at a t names call def)
    answer (accepted ws) o = tt
    answer (refused m us) o = o
