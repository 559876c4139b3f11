-- A binding of a call of one source file to a def of another (W-208): 84 carries the def's file, 22 the call's. The
-- table is in specs/TwoFiles.antt; the prover computes both answers on its bytes. Assumes nothing.
use mathlib.Core.Path.{◌≡◌, refl}
use mathlib.Core.List.{[], ◌∷◌}
use Rattle.fields.specs.Field.{field}
use Rattle.forest.specs.Forest.{size_of, kids_of, rest_of, forest_in, forest, count, count_tree}
use Rattle.forest.specs.Names.{name_of, same}
use Rattle.soundness.specs.Kinds.{kind_in, kind_of}
use Rattle.soundness.specs.Files.{file_sound, ends_by, top_of, files_of}
use Rattle.soundness.specs.Sound.{name_sound, span_sound, source_sound, fields_sound, whole_trees, classes, permitted}
use Rattle.soundness.specs.Sound.{wanted, permits, kids_sound, sound_node, sound_at, root_sound, context_of, record_sound}
use Rattle.soundness.specs.Sound.{first_false, first_unsound}
use Rattle.table.specs.Numbers.{repeated_named, empty_parameter}
use Rattle.table.specs.Answer.{refused}
use Rattle.table.specs.Check.{length_sound, check_of, stretch_of, wants, node_fits, entry_check}
use Rattle.table.specs.Depth.{class_weight, weight, first_deep, deep_in}
use Rattle.deflist.specs.Written.{kind_at, param_of, params_in, written}
use Rattle.deflist.specs.Unpack.{slash_from, has_name, first_same, repeats, advance, step, finish, run, start, unpack}
use Rattle.deflist.specs.Limited.{limited}
use Rattle.parameters.specs.Indices.{counted_of}
use Rattle.parameters.specs.Params.{list_of}
use Rattle.arguments.specs.Written.{kind_at as argument_kind, argument_of, arguments_in}
use Rattle.arguments.specs.Call.{has_name as argument_has, first_same as first_argument, repeats as repeats_name}
use Rattle.arguments.specs.Call.{check as check_argument, advance as advance_call, run as run_call, unpack as unpack_call}
use Rattle.bind.specs.FlatList.{flats_from, flats}
use Rattle.bind.specs.Binding.{along, star_check, empty_check, binding}
use Rattle.bind.specs.Job.{is_def, arguments_at, lists_bound, entry_of, words_of, bind_of}
use Rattle.reached.specs.TwoFiles.{table, names}

pub two_files : (bind_of table names 5 1 4 ≡ refused empty_parameter (2 ∷ 6 ∷ 7 ∷ 1 ∷ []))
    × (bind_of table names 8 1 4 ≡ refused repeated_named (12 ∷ 11 ∷ 12 ∷ 2 ∷ 10 ∷ []))
unfolding bind_of words_of entry_of lists_bound arguments_at is_def binding along star_check empty_check flats
    flats_from
    counted_of list_of written params_in param_of kind_at slash_from has_name first_same repeats advance step finish run
    start
    unpack limited argument_kind argument_of arguments_in argument_has first_argument repeats_name check_argument
    advance_call
    run_call unpack_call entry_check wants node_fits stretch_of check_of length_sound field size_of kids_of rest_of
    forest_in
    forest count count_tree name_of same kind_in kind_of name_sound span_sound source_sound file_sound ends_by top_of
    files_of
    fields_sound whole_trees classes permitted wanted permits kids_sound sound_node sound_at root_sound context_of
    record_sound first_false first_unsound class_weight weight first_deep deep_in
two_files = (refl, refl)
