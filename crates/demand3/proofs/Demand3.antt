-- DEMAND 3, in the user's words:
--
-- In a sound table, with a long enough mode buffer, the parameter list of a def or lambda is accepted exactly when it
-- has at most 48 written entries (W-211) and can be cut, in written order, into:
-- nothing, or one or more ordinary parameters and `/`; ordinary parameters; nothing, or `*` with at least one ordinary
-- parameter, or `*args` with any number;
-- nothing or `**kwargs`; all names distinct; and in the first two parts none without default after one with. The cut is
-- unique. The five index ranges are then
-- the cut's, marks omitted: the ordinary parameters before `/`, those of the second part, `*args`, the ordinary ones
-- after the star, `**kwargs`. They follow in
--   order and cover 0 to the flat count once, and each flat parameter's mode is written and is its range's.
--
-- specs/Given.antt says what is given, specs/Cut.antt what a cut is and when it is good; neither mentions unpack. The
-- job `parameters::params` promises to return `params_of` and to leave `modes_after` in the buffer, so each theorem is
-- about its answer and the buffer at exit. The proofs are in OverTheJob and Cuts. Assumes nothing.
use Rattle.std.specs.Prelude.{Ok, Result}
use Rattle.table.specs.declared.Refusal.{Refusal}
use mathlib.Core.Path.{◌≡◌, sym, ap, ◌∙◌}
use mathlib.Core.Logic.{◌⊎◌, ◌↔◌}
use mathlib.Core.List.{List, []}
use Prim.Native.Nat.{ℕ, ◌*◌, ◌/◌, ◌<◌, ◌≤◌}
use native.Mathlib.Omega.{arith}
use lib.ListN.{length, get_or, drop}
use Rattle.forest.specs.Forest.{record_bytes, node_of}
use Rattle.soundness.specs.KindNumbers.{kind_def, kind_lambda}
use Rattle.table.specs.Numbers.{too_many_parameters}
use Rattle.table.specs.Answer.{accepted, refused_at}
use Rattle.table.specs.Check.{check_of}
use Rattle.deflist.specs.Written.{Param}
use Rattle.deflist.specs.Limited.{most_parameters}
use Rattle.parameters.specs.declared.Counted.{Counted}
use Rattle.parameters.specs.Params.{unpacked, list_of, params_of, modes_after}
use Rattle.demand3.specs.Cut.{Cut, join, parts_of, flat_list, cut_ranges, cut_flat, holders, cut_values}
use Rattle.demand3.specs.Cut.{ByRange, Follow, CutBy}
use Rattle.demand3.specs.Given.{all_parameters, Given, CutOf, RangesAre}
use Rattle.parameters.proofs.Long.{nineteen_long}
use Rattle.demand3.proofs.Cuts.{join_injective}
use Rattle.demand3.proofs.AllListed.{all_listed}
use Rattle.demand3.proofs.Ranges as ranges
use Rattle.demand3.proofs.OverTheJob as job

-- "the parameter list of a def or lambda" is ALL its parameters, in written order: none is left out, and nothing else
-- is in it. The buffer does not matter here
pub list_is_all : (t names : List ℕ) (node : ℕ) → check_of t names ≡ accepted [] → node < length t / record_bytes
    → ((node_of node (drop (record_bytes * node) t)).kind ≡ kind_def)
    ⊎ ((node_of node (drop (record_bytes * node) t)).kind ≡ kind_lambda)
    → list_of t names node ≡ all_parameters t names node
list_is_all = all_listed

-- "The cut is unique.": of any list, whether its cuts are good or not
pub cut_unique : (l : List Param) (c d : Cut) → join c ≡ l → join d ≡ l → c ≡ d
cut_unique l c d x y = join_injective c d (x ∙ sym y)

-- of any cut, good or not: its ranges "follow in order and cover 0 to the flat count once"
pub ranges_follow : (c : Cut) → Follow (cut_ranges c) (cut_flat c)
ranges_follow c = ranges.ranges_follow (parts_of c)

pub ranges_cover_once : (c : Cut) (i : ℕ) → i < cut_flat c → holders (cut_ranges c) i ≡ 1
ranges_cover_once c = ranges.ranges_cover (parts_of c)

-- "marks omitted: the ordinary parameters before `/`, those of the second part, `*args`, the ordinary ones after the
-- star, `**kwargs`": the list that it joins to, without its marks, is cut at the ranges
pub ranges_cut_the_flat_list : (l : List Param) (c : Cut) → join c ≡ l
    → CutBy (cut_ranges c) (flat_list l) (parts_of c)
ranges_cut_the_flat_list l c joins = rw (← joins) (ranges.cut_parts c)

-- "In a sound table, with a long enough mode buffer, the parameter list of a def or lambda"
module _ (t names : List ℕ) (node : ℕ) (ms : List ℕ) (given : Given t names node ms) where
  -- its length, all its parameters counted, is that of the list that the job reads
  length_is : length (list_of t names node) ≡ length (all_parameters t names node)
  length_is = ap length (all_listed t names node given.sound given.within given.def_or_lambda)

  -- "is accepted exactly when it has at most 48 written entries and can be cut"
  pub accepted_iff_cut : ((vs : List ℕ) × (params_of t names node (length ms) ≡ accepted vs))
      ↔ ((length (all_parameters t names node) ≤ most_parameters) × ((c : Cut) × CutOf (list_of t names node) c))
  accepted_iff_cut = (
    λ x. let y = job.has_cut t names node ms given x.1 in (omega (arith, length_is, y.0), y.1),
    λ x. (
      cut_values x.1.0,
      job.cut_answer t names node ms given (omega (arith, length_is, x.0)) x.1.0 x.1.1,
    ),
  )

  -- W-211: the answer is 19 at the def or lambda exactly when the list has more than 48 written entries, whatever else
  -- is wrong with it
  pub nineteen_iff_long : (params_of t names node (length ms)
      ≡ refused_at too_many_parameters (node_of node (drop (record_bytes * node) t)))
      ↔ (most_parameters < length (all_parameters t names node))
  nineteen_iff_long = (
    λ e. omega (arith, length_is, nineteen_long t names node (length ms) e),
    λ long. job.long_answer t names node ms given (omega (arith, length_is, long)),
  )

  -- where the list has at most 48 entries and c is its cut
  module _ (short : length (all_parameters t names node) ≤ most_parameters) (c : Cut)
      (cut : CutOf (list_of t names node) c) where
    few : length (list_of t names node) ≤ most_parameters
    few = omega (arith, length_is, short)

    -- "The five index ranges are then the cut's": the values of the answer, and the ranges of what code answers
    pub ranges_are_the_cuts : params_of t names node (length ms) ≡ accepted (cut_values c)
    ranges_are_the_cuts = job.cut_answer t names node ms given few c cut

    pub answer_has_the_ranges : (r : Result Counted Refusal) → unpacked r ≡ params_of t names node (length ms)
        → (a : Counted) × (r ≡ Ok a) × RangesAre a (cut_ranges c)
    answer_has_the_ranges = job.answer_is t names node ms given few c cut

    -- "and each flat parameter's mode is written and is its range's": in the buffer afterwards
    pub modes_are_the_ranges : ByRange (cut_ranges c) (modes_after t names node ms)
    modes_are_the_ranges = job.modes_there t names node ms given few c cut

    -- every other byte is as it was
    pub other_bytes_stay : (i : ℕ) → cut_flat c ≤ i → get_or (modes_after t names node ms) i 0 ≡ get_or ms i 0
    other_bytes_stay = job.others_stay t names node ms given few c cut

    pub buffer_as_long : length (modes_after t names node ms) ≡ length ms
    buffer_as_long = job.as_long t names node ms given few c cut
