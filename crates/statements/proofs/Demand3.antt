-- DEMAND 3
--
-- Every theorem of the crate `demand3`, about the answer of `parameters::params` and the mode buffer at exit. The
-- content of the record `Given` is written as four hypotheses, that of `CutOf` and `Good` as five, and that of an
-- answer field by field. Each statement is proved by citing the theorem: a theorem with one more field in a hypothesis,
-- or one less in a conclusion, would not prove it. Assumes nothing.
use Rattle.std.specs.Prelude.{Ok, Result}
use Rattle.table.specs.declared.Refusal.{Refusal}
use mathlib.Core.Path.{◌≡◌}
use mathlib.Core.Logic.{◌⊎◌, ◌↔◌}
use mathlib.Core.List.{List, [], ◌∷◌, ◌++◌}
use Prim.Native.Nat.{ℕ, ◌-◌, ◌*◌, ◌/◌, ◌<◌, ◌≤◌}
use lib.ListN.{length, get_or, take, drop}
use Rattle.forest.specs.Forest.{record_bytes, node_of}
use Rattle.forest.specs.Names.{Distinct}
use Rattle.soundness.specs.KindNumbers.{kind_def, kind_lambda}
use Rattle.table.specs.Numbers.{too_many_parameters}
use Rattle.table.specs.Answer.{accepted, refused}
use Rattle.table.specs.Check.{check_of}
use Rattle.deflist.specs.Written.{Param}
use Rattle.deflist.specs.Limited.{most_parameters}
use Rattle.deflist.specs.Unpack.{mode_pos_only, mode_pos_or_name, mode_name_only, mode_args, mode_kwargs}
use Rattle.parameters.specs.Indices.{pos_only, pos_or_named, args_range, named_only, kwargs_range}
use Rattle.parameters.specs.declared.Counted.{Counted}
use Rattle.parameters.specs.Params.{unpacked, list_of, params_of, modes_after}
use Rattle.demand3.specs.Cut.{Cut, join, names_of, firsts, Defaulted, SlashGood, StarGood, parts_of, flat_list}
use Rattle.demand3.specs.Cut.{cut_ranges, cut_flat, cut_values, holders}
use Rattle.demand3.specs.Given.{all_parameters, Given, CutOf}
use Rattle.demand3.proofs.Demand3 as theorem

given : {t names : List ℕ} {node : ℕ} {ms : List ℕ}
    → check_of t names ≡ accepted []
    → node < length t / record_bytes
    → ((node_of node (drop (record_bytes * node) t)).kind ≡ kind_def)
    ⊎ ((node_of node (drop (record_bytes * node) t)).kind ≡ kind_lambda)
    → length (list_of t names node) ≤ length ms
    → Given t names node ms
given s w k r = record { sound = s; within = w; def_or_lambda = k; room = r }

cut_of : {l : List Param} {c : Cut}
    → join c ≡ l
    → SlashGood c.before
    → StarGood c.star
    → Distinct (names_of (join c))
    → Defaulted (firsts c.before ++ c.middle)
    → CutOf l c
cut_of j b s n d = record { joins = j; good = record { slash = b; star = s; distinct = n; defaulted = d } }

-- "the parameter list of a def or lambda": all its parameters, in written order
-- In words: in a sound table, the list that the job reads for a def or lambda is the list of all its parameters.
pub list_is_all : (t names : List ℕ) (node : ℕ)
    → check_of t names ≡ accepted []
    → node < length t / record_bytes
    → ((node_of node (drop (record_bytes * node) t)).kind ≡ kind_def)
    ⊎ ((node_of node (drop (record_bytes * node) t)).kind ≡ kind_lambda)
    → list_of t names node ≡ all_parameters t names node
list_is_all = theorem.list_is_all

-- "The cut is unique."
-- In words: two cuts that join to the same list are the same cut, good or not.
pub cut_unique : (l : List Param) (c d : Cut)
    → join c ≡ l
    → join d ≡ l
    → c ≡ d
cut_unique = theorem.cut_unique

-- "In a sound table, with a long enough mode buffer, the parameter list of a def or lambda is accepted exactly when it
-- has at most 48 written entries and can be cut, in written order, into: nothing, or one or more ordinary parameters
-- and `/`; ordinary parameters; nothing, or `*` with at least one ordinary parameter, or `*args` with any number;
-- nothing or `**kwargs`; all names distinct; and in the first two parts none without default after one with."
-- In words: the job accepts the list if and only if it has at most 48 entries and it can be cut into parts and names as
-- the sentence demands.
pub accepted_iff_cut : (t names : List ℕ) (node : ℕ) (ms : List ℕ)
    → check_of t names ≡ accepted []
    → node < length t / record_bytes
    → ((node_of node (drop (record_bytes * node) t)).kind ≡ kind_def)
    ⊎ ((node_of node (drop (record_bytes * node) t)).kind ≡ kind_lambda)
    → length (list_of t names node) ≤ length ms
    → ((vs : List ℕ) × (params_of t names node (length ms) ≡ accepted vs))
    ↔ ((length (all_parameters t names node) ≤ most_parameters)
    × ((c : Cut)
    × (join c ≡ list_of t names node)
    × SlashGood c.before
    × StarGood c.star
    × Distinct (names_of (join c))
    × Defaulted (firsts c.before ++ c.middle)))
accepted_iff_cut t names node ms s w k r =
    let e = theorem.accepted_iff_cut t names node ms (given s w k r) in (
      λ x. let l = e.0 x in let y = l.1 in (
        l.0,
        (y.0, y.1.joins, y.1.good.slash, y.1.good.star, y.1.good.distinct, y.1.good.defaulted),
      ),
      λ x. let y = x.1 in e.1 (x.0, (y.0, cut_of y.1 y.2 y.3 y.4 y.5)),
    )

-- W-211: "A written list of over 48 entries, marks counted, is refused. Refusals: 19 on the Def or Lambda node"
-- In words: the job answers 19 with the node, the span and the file of the def or lambda if and only if the list has
-- more than 48 entries, whatever else is wrong with it.
pub nineteen_iff_long : (t names : List ℕ) (node : ℕ) (ms : List ℕ)
    → check_of t names ≡ accepted []
    → node < length t / record_bytes
    → ((node_of node (drop (record_bytes * node) t)).kind ≡ kind_def)
    ⊎ ((node_of node (drop (record_bytes * node) t)).kind ≡ kind_lambda)
    → length (list_of t names node) ≤ length ms
    → (params_of t names node (length ms) ≡ refused too_many_parameters (node
    ∷ (node_of node (drop (record_bytes * node) t)).begin
    ∷ (node_of node (drop (record_bytes * node) t)).stop
    ∷ (node_of node (drop (record_bytes * node) t)).file
    ∷ []))
    ↔ (most_parameters < length (all_parameters t names node))
nineteen_iff_long t names node ms s w k r = theorem.nineteen_iff_long t names node ms (given s w k r)

-- "The five index ranges are then the cut's"
-- In words: the accepted answer has the begin and the end of each of the cut's five ranges, and the flat count.
pub ranges_are_the_cuts : (t names : List ℕ) (node : ℕ) (ms : List ℕ)
    → check_of t names ≡ accepted []
    → node < length t / record_bytes
    → ((node_of node (drop (record_bytes * node) t)).kind ≡ kind_def)
    ⊎ ((node_of node (drop (record_bytes * node) t)).kind ≡ kind_lambda)
    → length (list_of t names node) ≤ length ms
    → length (all_parameters t names node) ≤ most_parameters
    → (c : Cut)
    → join c ≡ list_of t names node
    → SlashGood c.before
    → StarGood c.star
    → Distinct (names_of (join c))
    → Defaulted (firsts c.before ++ c.middle)
    → params_of t names node (length ms) ≡ accepted (cut_values c)
ranges_are_the_cuts t names node ms s w k r l c j b a n d =
    theorem.ranges_are_the_cuts t names node ms (given s w k r) l c (cut_of j b a n d)

-- "The five index ranges are then the cut's": the answer of the code
-- In words: an answer that meets the job's contract is accepted, and its five ranges and its flat count are the cut's.
pub answer_has_the_ranges : (t names : List ℕ) (node : ℕ) (ms : List ℕ)
    → check_of t names ≡ accepted []
    → node < length t / record_bytes
    → ((node_of node (drop (record_bytes * node) t)).kind ≡ kind_def)
    ⊎ ((node_of node (drop (record_bytes * node) t)).kind ≡ kind_lambda)
    → length (list_of t names node) ≤ length ms
    → length (all_parameters t names node) ≤ most_parameters
    → (c : Cut)
    → join c ≡ list_of t names node
    → SlashGood c.before
    → StarGood c.star
    → Distinct (names_of (join c))
    → Defaulted (firsts c.before ++ c.middle)
    → (r : Result Counted Refusal)
    → unpacked r ≡ params_of t names node (length ms)
    → (a : Counted)
    × (r ≡ Ok a)
    × (pos_only a.indices ≡ (cut_ranges c).pos_only)
    × (pos_or_named a.indices ≡ (cut_ranges c).pos_or_named)
    × (args_range a.indices ≡ (cut_ranges c).args)
    × (named_only a.indices a.flat ≡ (cut_ranges c).named_only)
    × (kwargs_range a.indices a.flat ≡ (cut_ranges c).kwargs)
    × (a.flat ≡ (cut_ranges c).kwargs.upto)
answer_has_the_ranges t names node ms s w k m l c j b a n d r e =
    let x = theorem.answer_has_the_ranges t names node ms (given s w k m) l c (cut_of j b a n d) r e in (
      x.0,
      x.1,
      x.2.pos_only_is,
      x.2.pos_or_named_is,
      x.2.args_is,
      x.2.named_only_is,
      x.2.kwargs_is,
      x.2.flat_is,
    )

-- "marks omitted: the ordinary parameters before `/`, those of the second part, `*args`, the ordinary ones after the
-- star, `**kwargs`"
-- In words: the list without its marks, cut at the five ranges, gives the cut's five parts, and the last range ends it.
pub ranges_cut_the_flat_list : (l : List Param) (c : Cut)
    → join c ≡ l
    → (take ((cut_ranges c).pos_only.upto - (cut_ranges c).pos_only.from)
    (drop (cut_ranges c).pos_only.from (flat_list l)) ≡ (parts_of c).pos_only)
    × (take ((cut_ranges c).pos_or_named.upto - (cut_ranges c).pos_or_named.from)
    (drop (cut_ranges c).pos_or_named.from (flat_list l)) ≡ (parts_of c).pos_or_named)
    × (take ((cut_ranges c).args.upto - (cut_ranges c).args.from)
    (drop (cut_ranges c).args.from (flat_list l)) ≡ (parts_of c).args)
    × (take ((cut_ranges c).named_only.upto - (cut_ranges c).named_only.from)
    (drop (cut_ranges c).named_only.from (flat_list l)) ≡ (parts_of c).named_only)
    × (take ((cut_ranges c).kwargs.upto - (cut_ranges c).kwargs.from)
    (drop (cut_ranges c).kwargs.from (flat_list l)) ≡ (parts_of c).kwargs)
    × ((cut_ranges c).kwargs.upto ≡ length (flat_list l))
ranges_cut_the_flat_list l c joins =
    let x = theorem.ranges_cut_the_flat_list l c joins in
    (x.pos_only, x.pos_or_named, x.args, x.named_only, x.kwargs, x.all)

-- "They follow in order"
-- In words: the first range begins at 0, each other where the one before it ends, the last ends at the flat count, and
-- none ends before it begins.
pub ranges_follow : (c : Cut)
    → ((cut_ranges c).pos_only.from ≡ 0)
    × ((cut_ranges c).pos_only.upto ≡ (cut_ranges c).pos_or_named.from)
    × ((cut_ranges c).pos_or_named.upto ≡ (cut_ranges c).args.from)
    × ((cut_ranges c).args.upto ≡ (cut_ranges c).named_only.from)
    × ((cut_ranges c).named_only.upto ≡ (cut_ranges c).kwargs.from)
    × ((cut_ranges c).kwargs.upto ≡ cut_flat c)
    × ((cut_ranges c).pos_only.from ≤ (cut_ranges c).pos_only.upto)
    × ((cut_ranges c).pos_or_named.from ≤ (cut_ranges c).pos_or_named.upto)
    × ((cut_ranges c).args.from ≤ (cut_ranges c).args.upto)
    × ((cut_ranges c).named_only.from ≤ (cut_ranges c).named_only.upto)
    × ((cut_ranges c).kwargs.from ≤ (cut_ranges c).kwargs.upto)
ranges_follow c =
    let x = theorem.ranges_follow c in (
      x.first,
      x.second,
      x.third,
      x.fourth,
      x.fifth,
      x.end,
      x.pos_only,
      x.pos_or_named,
      x.args,
      x.named_only,
      x.kwargs,
    )

-- "and cover 0 to the flat count once"
-- In words: each index below the flat count is in exactly one of the five ranges.
pub ranges_cover_once : (c : Cut) (i : ℕ)
    → i < cut_flat c
    → holders (cut_ranges c) i ≡ 1
ranges_cover_once = theorem.ranges_cover_once

-- "and each flat parameter's mode is written and is its range's"
-- In words: after the job, the byte of each index of a range is that range's mode.
pub modes_are_the_ranges : (t names : List ℕ) (node : ℕ) (ms : List ℕ)
    → check_of t names ≡ accepted []
    → node < length t / record_bytes
    → ((node_of node (drop (record_bytes * node) t)).kind ≡ kind_def)
    ⊎ ((node_of node (drop (record_bytes * node) t)).kind ≡ kind_lambda)
    → length (list_of t names node) ≤ length ms
    → length (all_parameters t names node) ≤ most_parameters
    → (c : Cut)
    → join c ≡ list_of t names node
    → SlashGood c.before
    → StarGood c.star
    → Distinct (names_of (join c))
    → Defaulted (firsts c.before ++ c.middle)
    → ((i : ℕ) → (cut_ranges c).pos_only.from ≤ i → i < (cut_ranges c).pos_only.upto
    → get_or (modes_after t names node ms) i 0 ≡ mode_pos_only)
    × ((i : ℕ) → (cut_ranges c).pos_or_named.from ≤ i → i < (cut_ranges c).pos_or_named.upto
    → get_or (modes_after t names node ms) i 0 ≡ mode_pos_or_name)
    × ((i : ℕ) → (cut_ranges c).args.from ≤ i → i < (cut_ranges c).args.upto
    → get_or (modes_after t names node ms) i 0 ≡ mode_args)
    × ((i : ℕ) → (cut_ranges c).named_only.from ≤ i → i < (cut_ranges c).named_only.upto
    → get_or (modes_after t names node ms) i 0 ≡ mode_name_only)
    × ((i : ℕ) → (cut_ranges c).kwargs.from ≤ i → i < (cut_ranges c).kwargs.upto
    → get_or (modes_after t names node ms) i 0 ≡ mode_kwargs)
modes_are_the_ranges t names node ms s w k r l c j b a n d =
    let x = theorem.modes_are_the_ranges t names node ms (given s w k r) l c (cut_of j b a n d) in
    (x.pos_only, x.pos_or_named, x.args, x.named_only, x.kwargs)

-- every other byte is unchanged
-- In words: after the job, each byte of the mode buffer from the flat count on is unchanged.
pub other_bytes_stay : (t names : List ℕ) (node : ℕ) (ms : List ℕ)
    → check_of t names ≡ accepted []
    → node < length t / record_bytes
    → ((node_of node (drop (record_bytes * node) t)).kind ≡ kind_def)
    ⊎ ((node_of node (drop (record_bytes * node) t)).kind ≡ kind_lambda)
    → length (list_of t names node) ≤ length ms
    → length (all_parameters t names node) ≤ most_parameters
    → (c : Cut)
    → join c ≡ list_of t names node
    → SlashGood c.before
    → StarGood c.star
    → Distinct (names_of (join c))
    → Defaulted (firsts c.before ++ c.middle)
    → (i : ℕ)
    → cut_flat c ≤ i
    → get_or (modes_after t names node ms) i 0 ≡ get_or ms i 0
other_bytes_stay t names node ms s w k r l c j b a n d =
    theorem.other_bytes_stay t names node ms (given s w k r) l c (cut_of j b a n d)

-- the buffer keeps its length
-- In words: after the job the mode buffer is as long as it was.
pub buffer_as_long : (t names : List ℕ) (node : ℕ) (ms : List ℕ)
    → check_of t names ≡ accepted []
    → node < length t / record_bytes
    → ((node_of node (drop (record_bytes * node) t)).kind ≡ kind_def)
    ⊎ ((node_of node (drop (record_bytes * node) t)).kind ≡ kind_lambda)
    → length (list_of t names node) ≤ length ms
    → length (all_parameters t names node) ≤ most_parameters
    → (c : Cut)
    → join c ≡ list_of t names node
    → SlashGood c.before
    → StarGood c.star
    → Distinct (names_of (join c))
    → Defaulted (firsts c.before ++ c.middle)
    → length (modes_after t names node ms) ≡ length ms
buffer_as_long t names node ms s w k r l c j b a n d =
    theorem.buffer_as_long t names node ms (given s w k r) l c (cut_of j b a n d)
