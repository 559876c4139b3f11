-- W-208, of a binding: a refusal carries the source file of the node that it names, which is the def's for 10 to 19 and
-- 84 and the call's for 20 to 24 and 80 to 83. A refusal comes from the entry (before 10), from the def's list, from
-- the call's arguments or from the binding; the first two lists are nodes of the def's and of the call's tree, whose
-- numbers are all one (table's `tree_filed`), and so are the flat parameters and the arguments that the binding names.
-- Cite `bind_files`. Assumes nothing.
use mathlib.Core.Path.{◌≡◌, refl}
use mathlib.Core.Bool.{Bool, true, false, not, ◌&&◌}
use mathlib.Core.Logic.{◌⊎◌, inl, inr, ⊎_elim}
use mathlib.Core.List.{List, [], ◌∷◌, ◌++◌, map}
use Prim.Native.Nat.{ℕ, ◌+◌, ◌*◌, ◌/◌, ◌<◌, ◌≤◌}
use native.Mathlib.Omega.{arith}
use lib.ListN.{length, get_or, drop, set}
use lib.Dec.{eqb, ltb}
use borrow.Author.Tests.{eqb-true, ltb-true}
use Rattle.fields.specs.Choice.{if'}
use Rattle.fields.proofs.Basics.{and_left, and_right}
use Rattle.forest.specs.Forest.{Node, node_of, tree_of}
use Rattle.soundness.specs.KindNumbers.{kind_def, kind_statements}
use Rattle.table.specs.Numbers.{already_filled, star_argument, empty_parameter}
use Rattle.table.specs.Answer.{Answer, accepted, refused, and_then, refused_at}
use Rattle.table.specs.Check.{node_fits, stretch_of, entry_check}
use Rattle.table.specs.declared.Wanted.TheVariants.{Call}
use Rattle.table.proofs.Answers.{passed_both, test_passed}
use Rattle.table.proofs.Carried.{Before}
use Rattle.table.proofs.Checking.{Clean, accepted_clean}
use Rattle.table.proofs.Entering.{entry_sound}
use Rattle.table.proofs.Filed.{Told, Filed, told_at, files_told, tree_filed, fits_filed, not_root}
use Rattle.deflist.specs.Written.{Param, written, node_in as param_node, kind_in as param_kind}
use Rattle.deflist.specs.Unpack as outcome
use Rattle.deflist.specs.Limited.{limited}
use Rattle.deflist.specs.Unpack.{next_state, mode_of, first_slash, positional_only, first_state}
use Rattle.deflist.specs.declared.State.{State}
use Rattle.parameters.specs.Indices.{counted_of}
use Rattle.parameters.specs.Params.{list_of}
use Rattle.parameters.specs.declared.Counted.{Counted}
use Rattle.parameters.specs.declared.DefParamIndices.{DefParamIndices}
use Rattle.parameters.proofs.Files as params
use Rattle.parameters.proofs.Files.{limited_at, told_outcome}
use Rattle.arguments.specs.Written.{Argument, node_in, kind_in}
use Rattle.arguments.specs.Call as calling
use Rattle.arguments.specs.Job.{outcome_answer}
use Rattle.arguments.specs.declared.Kind.{Kind}
use Rattle.arguments.specs.declared.Kind.TheVariants.{Positional, Named, Args, KwArgs}
use Rattle.arguments.proofs.Files as arguments
use Rattle.arguments.proofs.Files.{told_call}
use Rattle.bind.specs.FlatList.{FlatParam, flat_param, flats_from, flats}
use Rattle.bind.specs.Binding.{reaches, unreached, turn, and_with, along, is_star, star_check, empty_check, binding}
use Rattle.bind.specs.Job.{is_def, def_check, counting, no_words, lists_bound, arguments_at, entry_of, words_of}
use Rattle.bind.specs.Job.{answered_at, bind_of}
use Rattle.bind.specs.declared.Reach.{Reach}
use Rattle.bind.specs.declared.Reach.TheVariants.{Fills, Joins, Nowhere}
use Rattle.reached.specs.Refused.{BoundFile}
use Rattle.reached.proofs.Early.{EarlyOutcome, early_limited, CallNumber, call_numbers}
use Rattle.reached.proofs.Kept.{entry_first}

module _ (t : List ℕ) (call def : ℕ) where
  -- what is claimed of an answer
  abbrev Sided : Answer → Type 0
  Sided (accepted vs) = Unit {0}
  Sided (refused n vs) = 10 ≤ n → BoundFile t call def n vs

  -- a refusal at a node of the def's tree, by a number of the def's; and at one of the call's
  of_def_lem : (n : ℕ) (vs : List ℕ) → Told (Filed t def) (refused n vs) → (n < 20) ⊎ (n ≡ 84) → Sided (refused n vs)
  of_def_lem n vs told side = λ late.
      let f = files_told t def (refused n vs) told late in
      record {
        there = f.there;
        named = f.named;
        of_def = λ s. f.same;
        of_call = λ from other. absurd (⊎_elim (λ (h : n < 20). omega arith) (λ (h : n ≡ 84). other h) side);
      }

  of_call_lem : (n : ℕ) (vs : List ℕ) → Told (Filed t call) (refused n vs) → 20 ≤ n → (n ≡ 84 → ⊥)
      → Sided (refused n vs)
  of_call_lem n vs told late other = λ from.
      let f = files_told t call (refused n vs) told from in
      record {
        there = f.there;
        named = f.named;
        of_def = λ side. absurd (⊎_elim (λ (h : n < 20). omega arith) (λ (h : n ≡ 84). other h) side);
        of_call = λ h k. f.same;
      }

  at_call : (n : ℕ) (r : Node) → Filed t call r → 20 ≤ n → n < 84 → Sided (refused_at n r)
  at_call n r f late before = of_call_lem n _ (told_at (Filed t call) n r f) late (λ e. omega arith)

  -- 80 to 83, each at an argument
  abbrev InCall : List Argument → Type 0
  InCall qs = arguments.AllOf (Filed t call) qs

  unreached_side : (k : Kind) (r : Node) → Filed t call r → Sided (refused_at (unreached k) r)
  unfolding unreached
  unreached_side Positional r f = at_call 81 r f (omega arith) (omega arith)
  unreached_side Named r f = at_call 82 r f (omega arith) (omega arith)
  unreached_side Args r f = at_call 80 r f (omega arith) (omega arith)
  unreached_side KwArgs r f = at_call 80 r f (omega arith) (omega arith)

  turn_side : (place : ℕ) (e : Reach) (k : Kind) (r : Node) (ws : List ℕ) → Filed t call r
      → Sided (turn place e k r ws)
  unfolding turn
  turn_side place (Fills i) k r ws f = go (ltb 0 (get_or ws i 0))
    where
      go : (b : Bool) → Sided (if' b (λ _. refused_at already_filled r) (λ _. accepted (set (set ws i r.at) place i)))
      go true = at_call already_filled r f (omega arith) (omega arith)
      go false = tt
  turn_side place (Joins i) k r ws f = tt
  turn_side place Nowhere k r ws f = unreached_side k r f

  along_side : (flat : ℕ) (d : DefParamIndices) (fs : List FlatParam) (k : ℕ) (ws : List ℕ) (qs : List Argument)
      → InCall qs → Sided (along flat d fs k ws qs)
  unfolding along
  along_side flat d fs k ws [] h = tt
  along_side flat d fs k ws (a ∷ qs) h = go (turn (flat + k) (reaches d fs k a) (kind_in a) (node_in a) ws)
      (turn_side (flat + k) (reaches d fs k a) (kind_in a) (node_in a) ws h.0)
      (λ vs. along_side flat d fs (k + 1) vs qs h.1)
    where
      go : (x : Answer) → Sided x → ((vs : List ℕ) → Sided (along flat d fs (k + 1) vs qs))
          → Sided (and_with x (λ vs. along flat d fs (k + 1) vs qs))
      go (accepted vs) s rest = rest vs
      go (refused n vs) s rest = s

  star_side : (qs : List Argument) → InCall qs → Sided (star_check qs)
  unfolding star_check
  star_side [] h = tt
  star_side (a ∷ qs) h = go (is_star (kind_in a)) (star_side qs h.1)
    where
      go : (b : Bool) → Sided (star_check qs)
          → Sided (if' b (λ _. refused_at star_argument (node_in a)) (λ _. star_check qs))
      go true rest = at_call star_argument (node_in a) h.0 (omega arith) (omega arith)
      go false rest = rest

  -- 84, at a flat parameter
  abbrev Flats : List FlatParam → Type 0
  Flats [] = Unit {0}
  Flats (p ∷ ps) = Filed t def p.node × Flats ps

  empty_side : (k : ℕ) (fs : List FlatParam) (us : List ℕ) → Flats fs → Sided (empty_check k fs us)
  unfolding empty_check
  empty_side k [] us h = tt
  empty_side k (p ∷ fs) us h = go (not p.default && eqb (get_or us k 0) 0) (empty_side (k + 1) fs us h.1)
    where
      go : (b : Bool) → Sided (empty_check (k + 1) fs us)
          → Sided (if' b (λ _. refused_at empty_parameter p.node) (λ _. empty_check (k + 1) fs us))
      go true rest = of_def_lem empty_parameter _ (told_at (Filed t def) empty_parameter p.node h.0) (inr refl)
      go false rest = rest

  flats_more : (p : Param) (ms : List ℕ) (fs : List FlatParam) → Filed t def (param_node p) → Flats fs
      → Flats (map (flat_param p) ms ++ fs)
  flats_more p [] fs here h = h
  flats_more p (m ∷ ms) fs here h = (here, flats_more p ms fs here h)

  flats_from_lem : (s : State) (l : List Param) → params.AllOf (Filed t def) l → Flats (flats_from s l)
  unfolding flats_from
  flats_from_lem s [] h = tt
  flats_from_lem s (p ∷ ps) h =
      flats_more p (mode_of s (param_kind p)) (flats_from (next_state s (param_kind p)) ps) h.0
      (flats_from_lem (next_state s (param_kind p)) ps h.1)

  flats_all : (l : List Param) → params.AllOf (Filed t def) l → Flats (flats l)
  unfolding flats
  flats_all l h = flats_from_lem (first_state (positional_only (first_slash l))) l h

  -- 80, then 81 to 83, then 84
  side_then : (x : Answer) (next : Unit {0} → Answer) → Sided x → Sided (next tt) → Sided (and_then x next)
  side_then (accepted vs) next a b = b
  side_then (refused n vs) next a b = a

  binding_side : (c : Counted) (fs : List FlatParam) (ws : List ℕ) (qs : List Argument) → Flats fs → InCall qs
      → Sided (binding c fs ws qs)
  unfolding binding
  binding_side c fs ws qs f h =
      side_then (star_check qs) (λ _.
      and_with (along c.flat c.indices fs 0 ws qs) (λ us. and_then (empty_check 0 fs us) (λ _. accepted us)))
      (star_side qs h) (go (along c.flat c.indices fs 0 ws qs)
      (along_side c.flat c.indices fs 0 ws qs h))
    where
      go : (x : Answer) → Sided x → Sided (and_with x (λ us. and_then (empty_check 0 fs us) (λ _. accepted us)))
      go (accepted us) s = side_then (empty_check 0 fs us) (λ _. accepted us) (empty_side 0 fs us f) tt
      go (refused n vs) s = s

  -- 20 to 24, and then the binding
  call_side : (a : Answer) → Told (Filed t call) a → CallNumber a → Sided a
  call_side (accepted vs) told m = tt
  call_side (refused n vs) told m = go m
    where
      go : (n ≡ 0) ⊎ ((19 < n) × (n < 25)) → Sided (refused n vs)
      go (inl z) = λ late. absurd (omega arith)
      go (inr h) = of_call_lem n vs told (omega (arith, h.0)) (λ e. omega (arith, h.1, e))

  lists_side : (owner : Node) (ps : List Param) (qs : List Argument) → Filed t def owner
      → params.AllOf (Filed t def) ps → InCall qs → Sided (lists_bound owner ps qs)
  unfolding lists_bound
  lists_side owner ps qs o p h =
      go (limited owner ps) (limited_at (Filed t def) owner ps o p) (early_limited owner ps)
    where
      go : (o : outcome.Outcome) → params.OutcomeAt (Filed t def) o → EarlyOutcome o
          → Sided (counting o (λ c. and_then (outcome_answer (calling.unpack qs)) (λ _.
          binding c (flats ps) (no_words c qs) qs)))
      go (outcome.accepted c) at early =
          side_then (outcome_answer (calling.unpack qs)) (λ _.
          binding (counted_of c) (flats ps) (no_words (counted_of c) qs) qs)
          (call_side (outcome_answer (calling.unpack qs)) (told_call (Filed t call) qs h) (call_numbers qs))
          (binding_side (counted_of c) (flats ps) (no_words (counted_of c) qs) qs (flats_all ps p) h)
      go (outcome.refused n r) at early =
          of_def_lem n _ (told_outcome (Filed t def) (outcome.refused n r) at) (inl early)
      go (outcome.repeated i r) at early =
          of_def_lem 11 _ (told_outcome (Filed t def) (outcome.repeated i r) at) (inl (omega arith))
      go (outcome.internal x r) at early = λ late. absurd (omega arith)

-- once the entry is passed, the def's list and the call's arguments are nodes of their trees
module _ (t names : List ℕ) (call def : ℕ) (c : Clean t names) where
  params_filed : is_def t def ≡ true
      → Filed t def (node_of def (stretch_of t def)) × params.AllOf (Filed t def) (list_of t names def)
  unfolding is_def list_of written
  params_filed e =
      let kind : ℕ = (node_of def (drop (24 * def) t)).kind in
      let inside : def < length t / 24 = ltb-true def (length t / 24) (and_left _ _ e) in
      let is-def : kind ≡ kind_def = eqb-true kind kind_def (and_right (ltb def (length t / 24)) _ e) in
      let other : eqb kind kind_statements ≡ false = rw is-def refl in
      params.written_all (Filed t def) names (tree_of def (stretch_of t def))
      (tree_filed c def inside (not_root t def other))

  args_filed : node_fits t call Call ≡ true → arguments.AllOf (Filed t call) (arguments_at t names call)
  unfolding arguments_at
  args_filed fits = arguments.written_all (Filed t call) names (tree_of call (stretch_of t call))
      (fits_filed c Call call fits)

-- THEOREM: "for every refusal from 10 on, the file that it carries is that of the node it names; in a binding the Def's
-- for 10 to 19 and 84, the Call's for 20 to 24 and 80 to 83"
pub bind_files : (t names : List ℕ) (call def room : ℕ) {n : ℕ} {vs : List ℕ}
    → bind_of t names call def room ≡ refused n vs → 10 ≤ n → BoundFile t call def n vs
unfolding bind_of words_of entry_of
bind_files t names call def room {n} {vs} e late =
    let sided : Sided t call def (bind_of t names call def room) = answer (words_of t names call def room)
    (entry (entry_of t names call def room) refl (entry_first t names call def room)) in
    (rw e at sided) late
  where
    entry : (a : Answer) → entry_of t names call def room ≡ a → Before 8 a
        → Sided t call def (and_then a (λ _.
        lists_bound (node_of def (stretch_of t def)) (list_of t names def) (arguments_at t names call)))
    entry (accepted us) k b =
        let in-call = passed_both (entry_check Call t names call) _ k in
        let in-def = passed_both (def_check t def) _ in-call.2 in
        let known = entry_sound Call t names call in-call.1 in
        let clean = accepted_clean t names known.0 in
        let filed = params_filed t names call def clean (test_passed _ _ in-def.1) in
        lists_side t call def _ (list_of t names def) (arguments_at t names call) filed.0 filed.1
        (args_filed t names call def clean known.1)
    entry (refused m us) k b = λ from. absurd (omega (arith, b.0))

    answer : (a : Answer) → Sided t call def a → Sided t call def (answered_at a t names call def)
    answer (accepted ws) s = tt
    answer (refused m us) s = s
