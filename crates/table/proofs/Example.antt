-- What the theorems on the check suppose can be met: the statement `f(x, a=1, *s, **k)` in a table of its own. The
-- check accepts it, by computation; so it is clean, field by field (`accepted_clean`). Assumes nothing.
use mathlib.Core.Path.{◌≡◌, refl}
use mathlib.Core.List.{[]}
use Rattle.fields.specs.Field.{field}
use Rattle.forest.specs.Forest.{size_of, kids_of, rest_of, forest_in, forest, count, count_tree}
use Rattle.forest.specs.Names.{same}
use Rattle.soundness.specs.Kinds.{kind_in, kind_of}
use Rattle.soundness.specs.Files.{file_sound, ends_by, top_of, files_of}
use Rattle.soundness.specs.Sound.{name_sound, span_sound, source_sound, fields_sound, whole_trees, classes, permitted}
use Rattle.soundness.specs.Sound.{wanted, permits, kids_sound, sound_node, sound_at, root_sound, context_of, record_sound}
use Rattle.soundness.specs.Sound.{first_false, first_unsound}
use Rattle.table.specs.Answer.{accepted}
use Rattle.table.specs.Check.{length_sound, check_of}
use Rattle.table.specs.Depth.{class_weight, weight, first_deep, deep_in}
use Rattle.table.specs.Example.{table, names}
use Rattle.table.proofs.Checking.{Clean, accepted_clean}

-- the check accepts the table
pub sound : check_of table names ≡ accepted []
unfolding check_of length_sound field size_of kids_of rest_of forest_in forest count count_tree same kind_in kind_of
    name_sound
    span_sound source_sound fields_sound whole_trees classes permitted wanted permits kids_sound sound_node sound_at
    root_sound
    file_sound ends_by top_of files_of context_of record_sound first_false first_unsound class_weight weight first_deep
    deep_in
sound = refl

-- so it has a sound length, few name bytes, no unsound record and no node that is too deep
pub clean : Clean table names
clean = accepted_clean table names sound
