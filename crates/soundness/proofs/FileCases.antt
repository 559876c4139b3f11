-- The examples of source file numbers in specs/FileCases.antt: for each small table, the first unsound record is the
-- one that its case gives, or none. The prover computes `first_unsound` on the bytes of all tables, so one `refl` shows
-- all cases. Assumes nothing.
use mathlib.Core.Path.{◌≡◌, refl}
use mathlib.Core.List.{[], map}
use Rattle.fields.specs.Field.{field}
use Rattle.forest.specs.Forest.{size_of, kids_of, rest_of, forest_in, forest, count}
use Rattle.forest.specs.Names.{same}
use Rattle.soundness.specs.Kinds.{kind_of, kind_in}
use Rattle.soundness.specs.Files.{file_sound, ends_by, top_of, files_of}
use Rattle.soundness.specs.Sound.{name_sound, span_sound, source_sound, fields_sound, whole_trees, classes, permitted}
use Rattle.soundness.specs.Sound.{wanted, permits, kids_sound, sound_node, sound_at, root_sound, context_of}
use Rattle.soundness.specs.Sound.{record_sound, first_false, first_unsound}
use Rattle.soundness.specs.FileCases.{Case, file_cases}

-- THEOREM: the first unsound record of each table is the one that its case shows
pub file_cases_lem : map (λ (c : Case). first_unsound c.table []) file_cases ≡ map (λ (c : Case). c.unsound) file_cases
unfolding file_cases field size_of kids_of rest_of forest_in forest count same kind_of kind_in file_sound ends_by top_of
    files_of
    name_sound span_sound source_sound fields_sound whole_trees classes permitted wanted permits kids_sound sound_node
    sound_at
    root_sound context_of record_sound first_false first_unsound
file_cases_lem = refl
