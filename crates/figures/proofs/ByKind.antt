-- One node of a sound table adds its figures, by its kind. For a Def or Lambda the code calls `deflist::judge` on the
-- node's records, and `params_of` accepts exactly if that does: the table is sound, the node fits, and a list within
-- the limit fits the room (`mode_there`, `mode_away`). For a Call, `arguments::judge` on the records is `call_of` of
-- the node. Any other node adds nothing. The loop keeps that the figures of the first i nodes are added as one sum
-- (`walk_on`). Cite `node_list`, `node_call` and `node_other`. Assumes nothing.
use Rattle.std.specs.Prelude.{Err, Ok}
use mathlib.Core.Path.{◌≡◌, refl, sym, ap, ◌∙◌}
use mathlib.Core.Bool.{true, false}
use mathlib.Core.List.{List, [], ◌∷◌}
use Prim.Native.Nat.{ℕ, suc, ◌+◌, ◌*◌, ◌-◌, ◌/◌, ◌^◌, ◌<◌, ◌≤◌}
use native.Mathlib.Omega.{arith}
use lib.ListN.{length, take, drop}
use borrow.Author.Tests.{lt-ltb, ne_eqb}
use Rattle.fields.specs.Choice.{if'}
use Rattle.fields.proofs.Basics.{never, clash}
use Rattle.fields.proofs.Fields.{tail_part}
use Rattle.forest.specs.Forest.{node_of, tree_of}
use Rattle.soundness.specs.KindNumbers.{kind_def, kind_lambda, kind_call}
use Rattle.table.specs.Answer.{Answer, accepted, refused, passes}
use Rattle.table.specs.Check.{check_of, wants, node_fits, stretch_of, headed_of, on_node}
use Rattle.table.specs.declared.Wanted.{Wanted}
use Rattle.table.specs.declared.Wanted.TheVariants.{Parameters, Call}
use Rattle.table.proofs.Checking.{Clean, accepted_clean}
use Rattle.table.proofs.Handed.{stretch_within}
use Rattle.table.proofs.Heads.{headed_all}
use Rattle.table.proofs.Entering.{sound_entry_lem}
use Rattle.deflist.specs.Written.{Param, written}
use Rattle.deflist.specs.Unpack as def
use Rattle.deflist.specs.Limited.{limited}
use Rattle.deflist.specs.Told.{told}
use Rattle.deflist.specs.declared.Counts.{Counts}
use Rattle.deflist.specs.declared.Fault.{Fault}
use Rattle.deflist.proofs.Limited.{limited_short, limited_accepted}
use Rattle.parameters.specs.Params.{list_of, params_of}
use Rattle.parameters.proofs.Accepted.{accepted_passed, passed_accepted}
use Rattle.arguments.specs.Job.{call_answer}
use Rattle.figures.specs.Adding.{added}
use Rattle.figures.specs.Counting.{occurrences, total, nodes_of, mode_at, accepted_at, refused_at}
use Rattle.figures.specs.Walking.{plus, range_counts, list_figures, call_figures, node_figures, nodes_figures}
use Rattle.figures.specs.Walking.{NodeIn}
use Rattle.figures.proofs.Additions.{added_zeros, added_trailing, added_twice}
use Rattle.figures.proofs.Lists.{mode_counts, modes_counted}

-- a refused answer is not accepted
not_accepted : {o : def.Outcome} {f : Fault} → told o ≡ Err f → {c : Counts} → o ≡ def.accepted c → ⊥
not_accepted {o} {f} h {c} e = let both : Ok c ≡ Err f = sym (ap told e) ∙ h in never (cc)

module _ {t names : List ℕ} {i : ℕ} (n : NodeIn t names i) where
  clean : Clean t names
  clean = accepted_clean t names n.sound

  -- its index is small, and its record is present
  pub node_there : 24 * i ≤ length t
  node_there = omega (arith, n.within)

  pub node_bytes : 24 * i < 2 ^ 64
  node_bytes = omega (arith, n.within, clean.most)

  pub node_word : i < 2 ^ 32
  node_word = omega (arith, n.within, clean.most)

  -- its list and the record that owns it
  abbrev list : List Param
  list = written names i (stretch_of t i)

  abbrev outcome : def.Outcome
  outcome = limited (node_of i (stretch_of t i)) list

  -- no mode is counted if the parameters job does not accept
  mode_away : (m : ℕ) → ((vs : List ℕ) → params_of t names i 2100 ≡ accepted vs → ⊥) → mode_at m t names i ≡ 0
  unfolding mode_at
  mode_away m away = go (params_of t names i 2100) refl
    where
      go : (a : Answer) → params_of t names i 2100 ≡ a
          → if' (passes a) (λ _. occurrences m (def.modes (list_of t names i))) (λ _. 0) ≡ 0
      go (accepted vs) e = absurd (away vs e)
      go (refused k vs) e = refl

  -- the job accepts exactly if the list is accepted
  params_away : ((c : Counts) → outcome ≡ def.accepted c → ⊥) → (vs : List ℕ) → params_of t names i 2100 ≡ accepted vs
      → ⊥
  unfolding list_of
  params_away away vs e =
      let p = accepted_passed t names i 2100 e in
      away p.counts (limited_short (node_of i (stretch_of t i)) list p.few ∙ p.outcome)

  params_other : node_fits t i Parameters ≡ false → (vs : List ℕ) → params_of t names i 2100 ≡ accepted vs → ⊥
  params_other other vs e = clash (accepted_passed t names i 2100 e).fits other

  mode_there : node_fits t i Parameters ≡ true → {c : Counts} → outcome ≡ def.accepted c → (m : ℕ)
      → mode_at m t names i ≡ occurrences m (def.modes list)
  unfolding mode_at list_of
  mode_there fits h m =
      let few = limited_accepted (node_of i (stretch_of t i)) list h in
      rw (passed_accepted t names i 2100 n.sound fits (omega (arith, few.0)) few.0 few.1) refl

  -- LAW: a node of another kind adds nothing
  pub node_other : node_fits t i Parameters ≡ false → node_fits t i Call ≡ false → (start : List ℕ)
      → start ≡ added start (node_figures t names i)
  unfolding node_figures accepted_at refused_at
  node_other no-list no_call start =
      let zero : (m : ℕ) → mode_at m t names i ≡ 0 = λ m. mode_away m (params_other no-list) in
      rw (no-list, no_call, zero 1, zero 2, zero 3, zero 4, zero 5) (sym (added_zeros start 10))

  -- what a Def or Lambda adds
  abbrev listed : List ℕ
  listed = 0 ∷ 0 ∷ 1 ∷ mode_at 1 t names i ∷ mode_at 2 t names i ∷ mode_at 3 t names i ∷ mode_at 4 t names i
      ∷ mode_at 5 t names i ∷ 0 ∷ 0 ∷ []

  -- no mode if its list is not accepted
  listed_away : ((c : Counts) → outcome ≡ def.accepted c → ⊥) → (start : List ℕ)
      → added start (0 ∷ 0 ∷ 1 ∷ 0 ∷ 0 ∷ 0 ∷ 0 ∷ 0 ∷ []) ≡ added start listed
  listed_away off start =
      let zero : (m : ℕ) → mode_at m t names i ≡ 0 = λ m. mode_away m (params_away off) in
      rw (zero 1, zero 2, zero 3, zero 4, zero 5)
      (sym (added_trailing start (0 ∷ 0 ∷ 1 ∷ 0 ∷ 0 ∷ 0 ∷ 0 ∷ 0 ∷ []) 2))

  -- its modes if it is
  listed_there : node_fits t i Parameters ≡ true → {c : Counts} → outcome ≡ def.accepted c → (start : List ℕ)
      → added start (0 ∷ 0 ∷ 1 ∷ range_counts c) ≡ added start listed
  listed_there fits e start =
      let is : (m : ℕ) → mode_at m t names i ≡ occurrences m (def.modes list) = λ m. mode_there fits e m in
      let counts = modes_counted list (limited_accepted (node_of i (stretch_of t i)) list e).1 in
      rw (is 1, is 2, is 3, is 4, is 5)
      (ap (λ (x : List ℕ). added start (0 ∷ 0 ∷ 1 ∷ x)) counts
      ∙ sym (added_trailing start (0 ∷ 0 ∷ 1 ∷ mode_counts (def.modes list)) 2))

  -- LAW: a Def or Lambda adds its list, and its modes if that is accepted
  pub node_list : node_fits t i Parameters ≡ true → node_fits t i Call ≡ false → (start : List ℕ)
      → added start (list_figures (told outcome)) ≡ added start (node_figures t names i)
  unfolding node_figures accepted_at refused_at
  node_list fits no_call start = rw (fits, no_call) (go outcome refl)
    where
      go : (o : def.Outcome) → outcome ≡ o → added start (list_figures (told o)) ≡ added start listed
      go (def.accepted c) e = listed_there fits e start
      go (def.refused k r) e = listed_away (λ c f. not_accepted {o = def.refused k r} refl (sym e ∙ f)) start
      go (def.repeated k r) e = listed_away (λ c f. not_accepted {o = def.repeated k r} refl (sym e ∙ f)) start
      go (def.internal k r) e = listed_away (λ c f. not_accepted {o = def.internal k r} refl (sym e ∙ f)) start

  -- LAW: a Call adds one to the accepted calls or to the refused ones
  pub node_call : node_fits t i Parameters ≡ false → node_fits t i Call ≡ true → (start : List ℕ)
      → added start (call_figures (call_answer names (tree_of i (headed_of i (stretch_of t i)))))
      ≡ added start (node_figures t names i)
  unfolding node_figures accepted_at refused_at on_node
  node_call no-list fits start =
      let zero : (m : ℕ) → mode_at m t names i ≡ 0 = λ m. mode_away m (params_other no-list) in
      let headed = headed_all i (stretch_of t i) (stretch_within t names i Call clean fits) in
      rw (
        no-list,
        fits,
        zero 1,
        zero 2,
        zero 3,
        zero 4,
        zero 5,
        headed,
        sound_entry_lem Call t names i n.sound fits,
      ) refl

  -- the arms of `add_node`: k is the kind of the first record of the rest of the table
  module _ {k : ℕ} (k_is : k ≡ (node_of 0 (take (length t - 24 * i) (drop (24 * i) t))).kind) where
    fits_by : (w : Wanted) → node_fits t i w ≡ wants w k
    unfolding node_fits
    fits_by w = rw (lt-ltb i (length t / 24) n.within, k_is, tail_part (24 * i) t) refl

    module _ (start : List ℕ) {ys s : List ℕ} (s-is : s ≡ stretch_of t i) where
      pub kind_list_lem : (k ≡ kind_def)
          → ys ≡ added start (list_figures (told (limited (node_of i s) (written names i s))))
          → ys ≡ added start (node_figures t names i)
      unfolding wants
      kind_list_lem e ys-is =
          let yes-list : node_fits t i Parameters ≡ true = fits_by Parameters ∙ rw e refl in
          let no_call : node_fits t i Call ≡ false = fits_by Call ∙ rw e refl in
          ys-is ∙ rw s-is (node_list yes-list no_call start)

      pub kind_lambda_lem : (k ≡ kind_lambda)
          → ys ≡ added start (list_figures (told (limited (node_of i s) (written names i s))))
          → ys ≡ added start (node_figures t names i)
      unfolding wants
      kind_lambda_lem e ys-is =
          let yes-list : node_fits t i Parameters ≡ true = fits_by Parameters ∙ rw e refl in
          let no_call : node_fits t i Call ≡ false = fits_by Call ∙ rw e refl in
          ys-is ∙ rw s-is (node_list yes-list no_call start)

      pub kind_call_lem : (k ≡ kind_call)
          → ys ≡ added start (call_figures (call_answer names (tree_of i (headed_of i s))))
          → ys ≡ added start (node_figures t names i)
      unfolding wants
      kind_call_lem e ys-is =
          let no-list : node_fits t i Parameters ≡ false = fits_by Parameters ∙ rw e refl in
          let yes-call : node_fits t i Call ≡ true = fits_by Call ∙ rw e refl in
          ys-is ∙ rw s-is (node_call no-list yes-call start)

    pub kind_other : (k ≡ kind_def → ⊥) → (k ≡ kind_lambda → ⊥) → (k ≡ kind_call → ⊥) → (start : List ℕ)
        → start ≡ added start (node_figures t names i)
    unfolding wants
    kind_other no-def no-lambda no_call start = node_other
        (fits_by Parameters ∙ rw (ne_eqb k kind_def no-def, ne_eqb k kind_lambda no-lambda) refl)
        (fits_by Call ∙ rw (ne_eqb k kind_call no_call) refl) start

-- the invariant of `add_nodes`: the first i nodes of a sound table are counted
pub record Walk (t names start : List ℕ) (count : ℕ) (figures : List ℕ) (i : ℕ) : Type 0 where
  pub sound : check_of t names ≡ accepted []
  pub all : count ≡ nodes_of t
  pub upto : i ≤ count
  pub is : figures ≡ added start (nodes_figures t names i)

pub walk_start : (t names start : List ℕ) (count : ℕ) → check_of t names ≡ accepted [] → count ≡ nodes_of t
    → Walk t names start count start 0
unfolding nodes_figures total
walk_start t names start count sound all =
    record { sound = sound; all = all; upto = omega arith; is = sym (added_zeros start 10) }

module _ {t names start : List ℕ} {count : ℕ} {figures : List ℕ} {i : ℕ} (w : Walk t names start count figures i) where
  pub walk_node : i < count → NodeIn t names i
  walk_node h = record { sound = w.sound; within = omega (arith, w.all) }

  pub walk_on : i < count → {ys : List ℕ} → ys ≡ added figures (node_figures t names i)
      → Walk t names start count ys (i + 1)
  unfolding nodes_figures node_figures plus total
  walk_on h {ys} ys-is = record {
    sound = w.sound;
    all = w.all;
    upto = omega arith;
    is =
        let next : i + 1 ≡ suc i = omega arith in
        ys-is ∙ rw (w.is, next) (added_twice start (nodes_figures t names i) (node_figures t names i));
  }

  pub walk_end : count ≤ i → figures ≡ added start (nodes_figures t names count)
  walk_end h = let e : i ≡ count = omega (arith, w.upto) in rw e at w.is
