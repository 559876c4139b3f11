-- What comes before the binding, in the terms of code. `enter` gives 1 to 4 and 6 for the call, 6 for the def, and 7
-- for a list without a word for each parameter and argument; each return is one law (`enter_refused` to
-- `enter_passed`). The two counts of 7 read no names, so they hold for all (`params_counted`, `args_counted`). What is
-- known then is the record `Entered` (`entered`, by cases on the steps); from it follow where the two stretches lie and
-- what the parameter job and the call job answer (`params_say`, `call_say`). An accepted list has as many flat
-- parameters as are counted (`flats_long`, by its cut). Assumes nothing.
use Rattle.std.specs.Prelude.{Err, Ok, Result}
use mathlib.Core.Path.{◌≡◌, refl, sym, ap, ◌∙◌}
use mathlib.Core.Bool.{Bool, true, false, ◌&&◌, ◌||◌}
use mathlib.Core.List.{List, []}
use Prim.Native.Nat.{ℕ, ◌+◌, ◌*◌, ◌/◌, ◌<◌, ◌≤◌}
use native.Mathlib.Omega.{arith}
use lib.ListN.{length, get_or, take, drop, length-map, length-take, length-drop}
use lib.Dec.{eqb, ltb, leb}
use borrow.Author.Tests.{le-leb, lt-leb, leb-true}
use Rattle.fields.proofs.Basics.{never}
use Rattle.fields.specs.Choice.{if'}
use Rattle.forest.specs.Forest.{node_of, size_of, span_of, kids_of, forest}
use Rattle.forest.proofs.Stretch.{length_kids, length_rest}
use Rattle.soundness.specs.KindNumbers.{kind_def, kind_lambda}
use Rattle.table.specs.Numbers.{wrong_node, short_buffer}
use Rattle.table.specs.Answer.{Answer, accepted, refused, and_then, refusal, checked}
use Rattle.table.specs.Check.{most_nodes, Within, check_of, wants, node_fits, stretch_of, entry_check, on_node}
use Rattle.table.specs.declared.Refusal.{Refusal}
use Rattle.table.specs.declared.Wanted.TheVariants.{Call, Parameters}
use Rattle.table.proofs.Checking.{accepted_clean}
use Rattle.table.proofs.Handed.{stretch_within}
use Rattle.table.proofs.Entering.{entry_sound, sound_entry_lem}
use Rattle.deflist.specs.Written.{Param, params_in, written}
use Rattle.deflist.specs.Unpack as unpacking
use Rattle.deflist.specs.Unpack.{modes}
use Rattle.deflist.specs.Limited.{limited}
use Rattle.deflist.specs.declared.Counts.{Counts}
use Rattle.deflist.proofs.Theorems.{written_short}
use Rattle.parameters.specs.Indices.{counted_of}
use Rattle.parameters.specs.Params.{answer_of, list_answer, list_of, params_of}
use Rattle.demand3.specs.Cut.{parts_of, cut_flat}
use Rattle.demand3.proofs.Cuts.{cut_accepted, accepted_cut, cut_modes, cut_counts}
use Rattle.demand3.proofs.Ranges.{cut_values_lem, modes_length}
use Rattle.arguments.specs.Written.{arguments_in}
use Rattle.arguments.specs.Call as arguments
use Rattle.arguments.specs.Job.{outcome_answer, call_answer, call_of}
use Rattle.bind.specs.FlatList.{FlatParam, flats}
use Rattle.bind.specs.Job.{is_def, arguments_at, entry_of}
use Rattle.bind.specs.Reading.{behind_callee}
use Rattle.bind.proofs.Lists.{args_behind, flats_modes}

-- a stretch is no longer than its table
stretch_short : (t : List ℕ) (i : ℕ) → length (stretch_of t i) ≤ length t
unfolding stretch_of
stretch_short t i = go (ltb i (length t / 24))
  where
    go : (b : Bool) → length (if' b (λ _. take (24 * size_of (drop (24 * i) t)) (drop (24 * i) t)) (λ _. [])) ≤ length t
    go true = simp (length-take, length-drop) (omega arith)
    go false = omega arith

-- the counts of parameters and of arguments
module _ (t : List ℕ) (i : ℕ) {s : List ℕ} (s-is : s ≡ stretch_of t i) (r : ℕ) {l : List ℕ} where
  pub params_counted : l ≡ kids_of s → ((ns : List ℕ) (j : ℕ) → r ≡ length (params_in ns (forest j l)))
      → (ns : List ℕ) → r ≡ length (list_of t ns i)
  unfolding list_of written
  params_counted l-is r-is ns = r-is ns (i + 1) ∙ rw (l-is, s-is) refl

  pub params_few : l ≡ kids_of s → 24 * r ≤ length l → 24 * r ≤ length t
  params_few l-is h = omega (arith, stretch_short t i, ap length s-is, length_kids s, ap length l-is)

  pub args_counted : l ≡ behind_callee s → ((ns : List ℕ) (j : ℕ) → r ≡ length (arguments_in ns (forest j l)))
      → (ns : List ℕ) → r ≡ length (arguments_at t ns i)
  unfolding arguments_at
  args_counted l-is r-is ns =
      let here : arguments_in ns (forest (i + 1 + span_of (kids_of s) / 24) l) ≡ arguments_at t ns i = rw (l-is, ← s-is)
      (args_behind ns i s) in
      r-is ns (i + 1 + span_of (kids_of s) / 24) ∙ ap length here

  pub args_few : l ≡ behind_callee s → 24 * r ≤ length l → 24 * r ≤ length t
  unfolding behind_callee
  args_few l-is h = omega (
    arith,
    stretch_short t i,
    ap length s-is,
    length_kids s,
    length_rest (kids_of s),
    ap length l-is,
  )

-- 1 to 4 and 6, 6, 7
module _ (t ns : List ℕ) (call def room : ℕ) {e : Result (Unit {0}) Refusal}
    (e-is : checked e ≡ entry_check Call t ns call) where
  pub enter_refused : {why : Refusal} → e ≡ Err why → refusal why ≡ entry_of t ns call def room
  unfolding entry_of
  enter_refused {why} h = let told : entry_check Call t ns call ≡ refusal why = sym e-is ∙ ap checked h in rw told refl

  module _ (good : e ≡ Ok tt) {b : Bool} (b_is : b ≡ is_def t def) where
    passed : entry_check Call t ns call ≡ accepted []
    passed = sym e-is ∙ ap checked good

    pub enter_no_def : b ≡ false → refused wrong_node [] ≡ entry_of t ns call def room
    unfolding entry_of
    enter_no_def h = rw (passed, ← b_is, h) refl

    module _ (h : b ≡ true) {p q : ℕ} (p-is : (ns : List ℕ) → p ≡ length (list_of t ns def))
        (q-is : (ns : List ℕ) → q ≡ length (arguments_at t ns call)) where
      pub enter_short : room < p + q → refused short_buffer [] ≡ entry_of t ns call def room
      unfolding entry_of
      enter_short g = rw (
        passed,
        ← b_is,
        h,
        lt-leb (length (list_of t ns def) + length (arguments_at t ns call)) room (omega (arith, p-is ns, q-is ns)),
      ) refl

      pub enter_passed : p + q ≤ room → accepted [] ≡ entry_of t ns call def room
      unfolding entry_of
      enter_passed g = rw (
        passed,
        ← b_is,
        h,
        le-leb (length (list_of t ns def) + length (arguments_at t ns call)) room (omega (arith, p-is ns, q-is ns)),
      ) refl

-- what is known once these checks are passed
pub record Entered (t ns : List ℕ) (call def n : ℕ) : Type 0 where
  pub sound : check_of t ns ≡ accepted []
  pub call_fits : node_fits t call Call ≡ true
  pub is_adef : is_def t def ≡ true
  pub room : length (list_of t ns def) + length (arguments_at t ns call) ≤ n

pub entered : (t ns : List ℕ) (call def room : ℕ) {vs : List ℕ} → entry_of t ns call def room ≡ accepted vs
    → Entered t ns call def room
unfolding entry_of
entered t ns call def room {vs} e = go (entry_check Call t ns call) (is_def t def)
    (leb (length (list_of t ns def) + length (arguments_at t ns call)) room) refl refl refl e
  where
    go : (a : Answer) (b l : Bool) → entry_check Call t ns call ≡ a → is_def t def ≡ b
        → leb (length (list_of t ns def) + length (arguments_at t ns call)) room ≡ l
        → and_then a (λ _. and_then (if' b (λ _. accepted []) (λ _. refused wrong_node []))
        (λ _. if' l (λ _. accepted []) (λ _. refused short_buffer []))) ≡ accepted vs → Entered t ns call def room
    go (accepted us) true true a-is b_is l-is h = let k = entry_sound Call t ns call a-is in
        record { sound = k.0; call_fits = k.1; is_adef = b_is; room = leb-true _ room l-is }
    go (accepted us) true false a-is b_is l-is h = never (cc)
    go (accepted us) false l a-is b_is l-is h = never (cc)
    go (refused n us) b l a-is b_is l-is h = never (cc)

-- a Def fits where parameters are wanted
def_fits : (t : List ℕ) (i : ℕ) → is_def t i ≡ true → node_fits t i Parameters ≡ true
unfolding is_def node_fits wants
def_fits t i h =
    let k = (node_of i (drop (24 * i) t)).kind in
    go (ltb i (length t / 24)) (eqb k kind_def) (eqb k kind_lambda) h
  where
    go : (a b l : Bool) → (a && b) ≡ true → (a && (b || l)) ≡ true
    go true true l e = refl
    go true false l e = never (cc)
    go false b l e = never (cc)

module _ {t ns : List ℕ} {call def room : ℕ} (k : Entered t ns call def room) where
  pub def_stretch : (24 ≤ length (stretch_of t def)) × Within def (stretch_of t def)
  def_stretch = stretch_within t ns def Parameters (accepted_clean t ns k.sound) (def_fits t def k.is_adef)

  pub call_stretch : (24 ≤ length (stretch_of t call)) × Within call (stretch_of t call)
  call_stretch = stretch_within t ns call Call (accepted_clean t ns k.sound) k.call_fits

  pub table_short : length t ≤ 50400
  table_short = (accepted_clean t ns k.sound).most

  -- the parameter job says what becomes of the def's list
  pub params_say : params_of t ns def most_nodes
      ≡ answer_of (limited (node_of def (stretch_of t def)) (list_of t ns def))
  unfolding params_of on_node list_answer list_of written
  params_say = rw (
    sound_entry_lem Parameters t ns def k.sound (def_fits t def k.is_adef),
    le-leb (length (list_of t ns def)) most_nodes (omega (arith, def_stretch, written_short ns def (stretch_of t def))),
  ) refl

  -- and the call job what call.rs does
  pub call_say : call_of t ns call ≡ outcome_answer (arguments.unpack (arguments_at t ns call))
  unfolding on_node call_answer arguments_at
  call_say = rw (sound_entry_lem Call t ns call k.sound k.call_fits) refl

-- LAW: an accepted list has as many flat parameters as are counted
pub flats_long : (l : List Param) {c : Counts} → unpacking.unpack l ≡ unpacking.accepted c
    → length (flats l) ≡ c.flat.0
unfolding flats modes counted_of
flats_long l {c} h =
    let cut = accepted_cut l h in
    let counted : unpacking.accepted c ≡ unpacking.accepted (cut_counts cut.0) = sym h
    ∙ ap unpacking.unpack (sym cut.1) ∙ cut_accepted cut.0 cut.2 in
    let same : c ≡ cut_counts cut.0 = cc in
    let flat : c.flat.0 ≡ cut_flat cut.0 = ap (λ (x : Counts). x.flat.0) same
    ∙ ap (λ (vs : List ℕ). get_or vs 10 0) (cut_values_lem cut.0) in
    sym (length-map (flats l) (λ (p : FlatParam). p.mode))
    ∙ ap length (flats_modes _ l)
    ∙ ap length (ap unpacking.modes (sym cut.1) ∙ cut_modes cut.0 cut.2.slash)
    ∙ modes_length (parts_of cut.0)
    ∙ sym flat
