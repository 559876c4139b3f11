-- The job on `def f(a, b, /): pass` and the calls `f(a, b)` and `f(b, a)`, computed: nothing is reported of the first
-- call, and both arguments of the second; a list of seven words is too short for two arguments. Assumes nothing.
use mathlib.Core.Path.{◌≡◌, refl}
use mathlib.Core.List.{[], ◌∷◌}
use Rattle.fields.specs.Field.{field}
use Rattle.fields.specs.Over.{over}
use Rattle.forest.specs.Forest.{size_of, kids_of, rest_of, forest_in, forest, count, count_tree}
use Rattle.forest.specs.Names.{name_of, same}
use Rattle.soundness.specs.Kinds.{kind_in, kind_of}
use Rattle.soundness.specs.Files.{file_sound, ends_by, top_of, files_of}
use Rattle.soundness.specs.Sound.{name_sound, span_sound, source_sound, fields_sound, whole_trees, classes, permitted}
use Rattle.soundness.specs.Sound.{wanted, permits, kids_sound, sound_node, sound_at, root_sound, context_of, record_sound}
use Rattle.soundness.specs.Sound.{first_false, first_unsound}
use Rattle.table.specs.Numbers.{short_buffer}
use Rattle.table.specs.Answer.{accepted, refused}
use Rattle.table.specs.Check.{length_sound, check_of, stretch_of, wants, node_fits, entry_check}
use Rattle.table.specs.Depth.{class_weight, weight, first_deep, deep_in}
use Rattle.deflist.specs.Written.{kind_at, param_of, params_in, written}
use Rattle.deflist.specs.Unpack.{slash_from, has_name, first_same, repeats, advance, step, finish, run, start, unpack}
use Rattle.deflist.specs.Limited.{limited}
use Rattle.parameters.specs.Indices.{counted_of}
use Rattle.parameters.specs.Params.{list_of}
use Rattle.arguments.specs.Written.{kind_at as argument_kind, argument_of, arguments_in}
use Rattle.arguments.specs.Call.{has_name as argument_has, first_same as first_argument, repeats as repeats_name}
use Rattle.arguments.specs.Call.{check as check_argument, advance as advance_call, run as run_call, unpack as unpack_call}
use Rattle.bind.specs.FlatList.{flats_from, flats}
use Rattle.bind.specs.Binding.{reaches, turn, along, star_check, empty_check, binding}
use Rattle.bind.specs.Job.{is_def, arguments_at, lists_bound}
use Rattle.namesakes.specs.Namesake.{label_of, labelled_in, labelled_of, ordinary_from, namesake_of, report_of}
use Rattle.namesakes.specs.Namesake.{reports_from, rows}
use Rattle.namesakes.specs.Job.{labelled_at, entry_of, bound_at, bound_of, reports_at, namesakes_of, list_after}
use Rattle.namesakes.specs.Example.{table, names, room}

pub example : (namesakes_of table names 7 1 8 ≡ accepted (0 ∷ []))
    × (namesakes_of table names 14 1 8 ≡ accepted (2 ∷ []))
    × (namesakes_of table names 14 1 7 ≡ refused short_buffer [])
    × (list_after table names 14 1 room ≡ 16 ∷ 0 ∷ 1 ∷ 18 ∷ 18 ∷ 1 ∷ 0 ∷ 16 ∷ 7 ∷ [])
unfolding namesakes_of list_after bound_of entry_of bound_at reports_at labelled_at label_of labelled_in labelled_of
    ordinary_from
    namesake_of report_of reports_from rows over lists_bound arguments_at is_def binding reaches turn along star_check
    empty_check flats flats_from counted_of list_of written params_in param_of kind_at slash_from has_name first_same
    repeats
    advance step finish run start unpack limited argument_kind argument_of arguments_in argument_has first_argument
    repeats_name check_argument advance_call run_call unpack_call entry_check wants node_fits stretch_of check_of
    length_sound
    field size_of kids_of rest_of forest_in forest count count_tree name_of same kind_in kind_of name_sound span_sound
    source_sound file_sound ends_by top_of files_of fields_sound whole_trees classes permitted wanted permits kids_sound
    sound_node sound_at root_sound context_of record_sound first_false first_unsound class_weight weight first_deep
    deep_in
example = (refl, refl, refl, refl)
