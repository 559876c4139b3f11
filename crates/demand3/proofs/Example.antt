-- What demand 3 supposes can be met, and not only trivially: `def f(a, /, b=1, *args, c, **k)` in a table of its own.
-- The table is sound, the list is the one that is written, and it has a good cut, so that every theorem of Demand3.antt
-- speaks of it. The other side of the limit is a def with 49 parameters: its table is sound too, and the answer is 19
-- at the def. All by computation. Assumes nothing.
use mathlib.Core.Path.{◌≡◌, refl}
use mathlib.Core.Logic.{inl}
use mathlib.Core.List.{[], ◌∷◌, ◌++◌}
use Prim.Native.Nat.{◌<◌, ◌≤◌}
use native.Mathlib.Omega.{arith}
use lib.ListN.{length}
use Rattle.fields.specs.Field.{field}
use Rattle.forest.specs.Forest.{size_of, kids_of, rest_of, forest_in, forest, count, count_tree}
use Rattle.forest.specs.Names.{name_of, same}
use Rattle.soundness.specs.Kinds.{kind_in, kind_of}
use Rattle.soundness.specs.Files.{file_sound, ends_by, top_of, files_of}
use Rattle.soundness.specs.Sound.{name_sound, span_sound, source_sound, fields_sound, whole_trees, classes, permitted}
use Rattle.soundness.specs.Sound.{wanted, permits, kids_sound, sound_node, sound_at, root_sound, context_of, record_sound}
use Rattle.soundness.specs.Sound.{first_false, first_unsound}
use Rattle.soundness.specs.KindNumbers.{kind_def}
use Rattle.table.specs.Numbers.{too_many_parameters}
use Rattle.table.specs.Answer.{accepted, refused_at}
use Rattle.table.specs.Check.{length_sound, check_of, stretch_of}
use Rattle.table.specs.Depth.{class_weight, weight, first_deep, deep_in}
use Rattle.deflist.specs.Written.{kind_at, param_of, params_in, written}
use Rattle.deflist.specs.Unpack.{has_name, first_same, repeats, slash_from, modes_from, modes}
use Rattle.deflist.specs.Unpack.{mode_pos_only, mode_pos_or_name, mode_name_only, mode_args, mode_kwargs}
use Rattle.deflist.specs.Limited.{most_parameters}
use Rattle.parameters.specs.Params.{list_of, params_of, modes_after}
use Rattle.demand3.specs.Cut.{join, firsts, Good}
use Rattle.demand3.specs.Given.{parameters_in, all_parameters, Given, CutOf}
use Rattle.demand3.specs.Example.{table, names, buffer, cut, record_at, long_table, long_buffer}
use Rattle.demand3.proofs.Names.{fresh_iff, defaults_iff}
use Rattle.demand3.proofs.Demand3.{ranges_are_the_cuts, nineteen_iff_long}

-- the table is sound
pub sound : check_of table names ≡ accepted []
unfolding check_of length_sound field size_of kids_of rest_of forest_in forest count count_tree same kind_in kind_of
    name_sound
    span_sound source_sound fields_sound whole_trees classes permitted wanted permits kids_sound sound_node sound_at
    root_sound
    file_sound ends_by top_of files_of context_of record_sound first_false first_unsound class_weight weight first_deep
    deep_in
sound = refl

-- what is given: with a byte more in the buffer than there are written parameters
pub given : Given table names 0 buffer
unfolding list_of written params_in param_of kind_at stretch_of field size_of kids_of rest_of forest_in forest kind_in
    kind_of
    name_of
given = record { sound = sound; within = omega arith; def_or_lambda = inl refl; room = omega arith }

-- the written list is the cut joined
pub joins : join cut ≡ list_of table names 0
unfolding list_of written params_in param_of kind_at stretch_of field size_of kids_of rest_of forest_in forest kind_in
    kind_of
    name_of
joins = refl

-- the cut is good: one parameter before `/`, names distinct, and none without default after one with
pub good : Good cut
unfolding repeats has_name first_same same
good = record {
  slash = tt;
  star = tt;
  distinct = (fresh_iff (join cut)).0 (refl, (refl, (refl, (refl, (refl, (refl, tt))))));
  defaulted = (defaults_iff (firsts cut.before ++ cut.middle)).0 (refl, (refl, tt));
}

-- and it is within the limit
pub short : length (all_parameters table names 0) ≤ most_parameters
unfolding parameters_in param_of kind_at stretch_of field size_of kids_of rest_of forest_in forest kind_in kind_of
    name_of
short = omega arith

pub is_cut : CutOf (list_of table names 0) cut
is_cut = record { joins = joins; good = good }

-- so the job accepts it, with the five ranges [0, 1), [1, 2), [2, 3), [3, 4), [4, 5), and the flat count 5
pub answer : params_of table names 0 (length buffer)
    ≡ accepted (0 ∷ 1 ∷ 1 ∷ 2 ∷ 2 ∷ 3 ∷ 3 ∷ 4 ∷ 4 ∷ 5 ∷ 5 ∷ [])
answer = ranges_are_the_cuts table names 0 buffer given short cut is_cut

-- and the buffer then holds the five modes, and three bytes as they were
pub filled : modes_after table names 0 buffer
    ≡ mode_pos_only ∷ mode_pos_or_name ∷ mode_args ∷ mode_name_only ∷ mode_kwargs ∷ 255 ∷ 255 ∷ 255 ∷ []
unfolding modes_after modes modes_from slash_from list_of written params_in param_of kind_at stretch_of field size_of
    kids_of
    rest_of forest_in forest kind_in kind_of name_of
filled = rw answer refl

-- a def with 49 parameters: its table is sound
pub long_sound : check_of long_table names ≡ accepted []
unfolding check_of length_sound field size_of kids_of rest_of forest_in forest count count_tree same kind_in kind_of
    name_sound
    span_sound source_sound fields_sound whole_trees classes permitted wanted permits kids_sound sound_node sound_at
    root_sound
    file_sound ends_by top_of files_of context_of record_sound first_false first_unsound class_weight weight first_deep
    deep_in
long_sound = refl

-- what is given holds of it, with a byte in the buffer for each parameter
pub long_given : Given long_table names 0 long_buffer
unfolding list_of written params_in param_of kind_at stretch_of field size_of kids_of rest_of forest_in forest kind_in
    kind_of
    name_of
long_given = record { sound = long_sound; within = omega arith; def_or_lambda = inl refl; room = omega arith }

-- it is over the limit
pub over : most_parameters < length (all_parameters long_table names 0)
unfolding parameters_in param_of kind_at stretch_of field size_of kids_of rest_of forest_in forest kind_in kind_of
    name_of
over = omega arith

-- so the answer is 19 at the def, though its parameters all have one name, which alone would be 11
pub long_answer : params_of long_table names 0 (length long_buffer)
    ≡ refused_at too_many_parameters (record_at 0 kind_def 0 0 0 0 37 51 1)
unfolding field size_of
long_answer = (nineteen_iff_long long_table names 0 long_buffer long_given).1 over
