-- The laws of cuts, carried over to the answer of the job and to the buffer at exit. In a sound table with room enough
-- (`Given`) the answer is that of the list: 19 if it is too long (`long_answer`), else accepted exactly if it has a cut
-- (`has_cut`, `cut_answer`). The buffer at exit is then the cut's modes and behind them what was there, so each index
-- has the mode of its range (`modes_there`) and the other bytes stay (`others_stay`, `as_long`). The values of the
-- answer are the cut's ranges, so its own five ranges are these (`answer_is`). Nothing recurs here. Assumes nothing.
use Rattle.std.specs.Prelude.{Err, Ok, Result}
use Rattle.table.specs.declared.Refusal.{Refusal}
use mathlib.Core.Path.{◌≡◌, refl, sym, ap, ◌∙◌}
use mathlib.Core.Bool.{true}
use mathlib.Core.Logic.{◌⊎◌, inl, inr}
use mathlib.Core.List.{List, ◌++◌}
use Prim.Native.Nat.{ℕ, ◌+◌, ◌-◌, ◌*◌, ◌/◌, ◌<◌, ◌≤◌}
use native.Mathlib.Omega.{arith}
use lib.ListN.{length, get_or, drop, length-append, length-drop}
use lib.Seq.{get_or-append-add, get_or-drop}
use borrow.Author.Tests.{lt-ltb}
use Rattle.forest.specs.Forest.{node_of}
use Rattle.soundness.specs.KindNumbers.{kind_def, kind_lambda}
use Rattle.table.specs.Numbers.{too_many_parameters}
use Rattle.table.specs.Answer.{accepted, refused_at}
use Rattle.table.specs.Check.{node_fits, wants}
use Rattle.table.specs.declared.Wanted.TheVariants.{Parameters}
use Rattle.table.proofs.Answers.{never_accepted}
use Rattle.table.proofs.Checking.{accepted_clean, record_kept}
use Rattle.deflist.specs.Unpack.{unpack, modes}
use Rattle.deflist.specs.Limited.{most_parameters}
use Rattle.parameters.specs.Indices.{values_of}
use Rattle.parameters.specs.declared.Range.{Range}
use Rattle.parameters.specs.declared.Counted.{Counted}
use Rattle.deflist.proofs.Theorems.{modes_short}
use Rattle.parameters.specs.Params.{unpacked, list_of, params_of, modes_after}
use Rattle.parameters.proofs.Accepted.{passed_accepted, accepted_passed}
use Rattle.parameters.proofs.Long.{long_refused}
use Rattle.demand3.specs.Cut.{Cut, parts_of, cut_ranges, cut_flat, cut_values, part_modes, ByRange}
use Rattle.demand3.specs.Given.{Given, CutOf, RangesAre}
use Rattle.demand3.proofs.Cuts.{cut_accepted, accepted_cut, cut_modes}
use Rattle.demand3.proofs.Ranges.{cut_values_lem, modes_length, modes_by_range}

-- a def or lambda is what the job wants
pub list_fits : (t : List ℕ) (node : ℕ) → node < length t / 24
    → ((node_of node (drop (24 * node) t)).kind ≡ kind_def) ⊎ ((node_of node (drop (24 * node) t)).kind ≡ kind_lambda)
    → node_fits t node Parameters ≡ true
unfolding node_fits wants
list_fits t node h k = rw (lt-ltb node (length t / 24) h) (go k)
  where
    go : ((node_of node (drop (24 * node) t)).kind ≡ kind_def)
        ⊎ ((node_of node (drop (24 * node) t)).kind ≡ kind_lambda)
        → wants Parameters (node_of node (drop (24 * node) t)).kind ≡ true
    go (inl e) = rw e refl
    go (inr e) = rw e refl

module _ (t names : List ℕ) (node : ℕ) (ms : List ℕ) (g : Given t names node ms) where
  fits : node_fits t node Parameters ≡ true
  fits = list_fits t node g.within g.def_or_lambda

  pub has_cut : {vs : List ℕ} → params_of t names node (length ms) ≡ accepted vs
      → (length (list_of t names node) ≤ most_parameters) × ((c : Cut) × CutOf (list_of t names node) c)
  has_cut e =
      let p = accepted_passed t names node (length ms) e in
      let w = accepted_cut (list_of t names node) p.outcome in
      (p.few, (w.0, record { joins = w.1; good = w.2 }))

  -- 19 at the node, as it is in the table
  pub long_answer : most_parameters < length (list_of t names node)
      → params_of t names node (length ms) ≡ refused_at too_many_parameters (node_of node (drop (24 * node) t))
  long_answer long =
      long_refused t names node (length ms) g.sound fits g.room long
      ∙ ap (refused_at too_many_parameters) (record_kept (accepted_clean t names g.sound) node g.within)

  module _ (few : length (list_of t names node) ≤ most_parameters) (c : Cut) (cut : CutOf (list_of t names node) c)
    where
      pub cut_answer : params_of t names node (length ms) ≡ accepted (cut_values c)
      cut_answer =
          passed_accepted t names node (length ms) g.sound fits g.room few
          (ap unpack (sym cut.joins) ∙ cut_accepted c cut.good) ∙ ap accepted (cut_values_lem c)

      -- the buffer at exit: the cut's modes, then what was there
      buffer : modes_after t names node ms ≡ part_modes (parts_of c) ++ drop (length (part_modes (parts_of c))) ms
      unfolding modes_after
      buffer =
          let these : modes (list_of t names node) ≡ part_modes (parts_of c) = ap modes (sym cut.joins)
          ∙ cut_modes c cut.good.slash in
          rw (cut_answer, these) refl

      short : length (part_modes (parts_of c)) ≤ length ms
      short = omega (
        arith,
        modes_short (list_of t names node),
        ap length (ap modes (sym cut.joins) ∙ cut_modes c cut.good.slash),
        g.room,
      )

      pub modes_there : ByRange (cut_ranges c) (modes_after t names node ms)
      modes_there = rw buffer (modes_by_range (parts_of c) (drop (length (part_modes (parts_of c))) ms))

      pub others_stay : (i : ℕ) → cut_flat c ≤ i → get_or (modes_after t names node ms) i 0 ≡ get_or ms i 0
      others_stay i h =
          let m = length (part_modes (parts_of c)) in
          let at : i ≡ m + (i - m) = omega (arith, modes_length (parts_of c)) in
          rw buffer
          (ap (λ (x : ℕ). get_or (part_modes (parts_of c) ++ drop m ms) x 0) at
          ∙ get_or-append-add (part_modes (parts_of c)) (drop m ms) (i - m) 0
          ∙ get_or-drop m ms (i - m) 0
          ∙ ap (λ (x : ℕ). get_or ms x 0) (sym at))

      pub as_long : length (modes_after t names node ms) ≡ length ms
      as_long =
          let m = part_modes (parts_of c) in
          let whole : length (m ++ drop (length m) ms) ≡ length m
          + (length ms - length m) = length-append m (drop (length m) ms)
          ∙ ap (λ (x : ℕ). length m + x) (length-drop (length m) ms) in
          rw buffer (whole ∙ omega (arith, short))

      -- the answer's own ranges
      pub answer_is : (r : Result Counted Refusal) → unpacked r ≡ params_of t names node (length ms)
          → (a : Counted) × (r ≡ Ok a) × RangesAre a (cut_ranges c)
      answer_is (Err w) e = never_accepted w (e ∙ cut_answer)
      answer_is (Ok a) e =
          let same : values_of a ≡ cut_values c = values_same (e ∙ cut_answer) in
          let value : (i : ℕ) → get_or (values_of a) i 0
          ≡ get_or (cut_values c) i 0 = λ i. ap (λ (vs : List ℕ). get_or vs i 0) same in (
            a,
            refl,
            record {
              pos_only_is = range_path (value 0) (value 1);
              pos_or_named_is = range_path (value 2) (value 3);
              args_is = range_path (value 4) (value 5);
              named_only_is = range_path (value 6) (value 7);
              kwargs_is = range_path (value 8) (value 9);
              flat_is = value 10;
            },
          )
        where
          values_same : {vs ws : List ℕ} → accepted vs ≡ accepted ws → vs ≡ ws
          values_same e = cc

          range_path : {r s : Range} → r.from ≡ s.from → r.upto ≡ s.upto → r ≡ s
          range_path p q = λ i. record { from = p i; upto = q i }
