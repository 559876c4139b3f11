-- The two editions on one table: the type of `t: t.type = 1` is refused by the first edition with 44 at the `t` before
-- the dot, and accepted by the second; any other number of an edition is refused with 5. So each hypothesis of the
-- theorems of W-212 can be met. Everything is computed from the bytes of the table (`refl`). Assumes nothing.
use mathlib.Core.Path.{◌≡◌, refl}
use mathlib.Core.List.{[], ◌∷◌}
use Rattle.fields.specs.Field.{field}
use Rattle.dialect.specs.Rows.{record_of}
use Rattle.dialect.specs.Bytes.{from_bytes}
use Rattle.dialect.specs.Editions.{edition_of}
use Rattle.forest.specs.Forest.{size_of, kids_of, rest_of, forest_in, forest, count}
use Rattle.forest.specs.Names.{name_of, same}
use Rattle.soundness.specs.Kinds.{kind_in, kind_of}
use Rattle.soundness.specs.Files.{file_sound, ends_by, top_of, files_of}
use Rattle.soundness.specs.Sound.{name_sound, span_sound, source_sound, fields_sound, whole_trees, classes, permitted}
use Rattle.soundness.specs.Sound.{wanted, permits, kids_sound, sound_node, sound_at, root_sound, context_of, record_sound}
use Rattle.soundness.specs.Sound.{first_false, first_unsound}
use Rattle.table.specs.Numbers.{bad_dialect, dot_type_ban}
use Rattle.table.specs.Depth.{class_weight, weight, first_deep}
use Rattle.table.specs.Answer.{accepted, refused}
use Rattle.table.specs.Check.{length_sound, check_of, given_of, rules_of, wants, node_fits, stretch_of}
use Rattle.types.specs.Forms.{form_of}
use Rattle.types.specs.Paths.{object_path, unpack_path}
use Rattle.types.specs.Types.{at_node, «unpack», dialect_check_type}
use Rattle.types.specs.Jobs.{type_at, type_shape_of}
use Rattle.examples.specs.Editions.{typed_path, type_name}

-- the table passes 1 to 4
sound : check_of typed_path type_name ≡ accepted []
unfolding check_of length_sound first_unsound first_false record_sound root_sound sound_at sound_node context_of
    files_of top_of
    ends_by file_sound fields_sound name_sound span_sound source_sound whole_trees classes permitted wanted permits
    kids_sound
    kind_in kind_of forest_in forest kids_of rest_of size_of field count same first_deep class_weight weight
sound = refl

-- EXAMPLE: the first edition refuses with 44, at node 3, from 3 to 4 in source file 1
pub first_bans : type_shape_of typed_path type_name [] 1 2 2 ≡ refused dot_type_ban (3 ∷ 3 ∷ 4 ∷ 1 ∷ [])
unfolding type_shape_of rules_of edition_of given_of from_bytes record_of type_at node_fits wants kind_in kind_of
    stretch_of size_of
    field forest_in forest kids_of rest_of name_of same dialect_check_type «unpack» form_of at_node unpack_path
    object_path
first_bans = rw sound refl

-- EXAMPLE: the second edition accepts it
pub second_reads : type_shape_of typed_path type_name [] 2 2 2 ≡ accepted []
unfolding type_shape_of rules_of edition_of given_of from_bytes record_of type_at node_fits wants kind_in kind_of
    stretch_of size_of
    field forest_in forest kids_of rest_of name_of same dialect_check_type «unpack» form_of at_node unpack_path
    object_path
second_reads = rw sound refl

-- EXAMPLE: 0 and 3 are not editions
pub zero_is_none : type_shape_of typed_path type_name [] 0 2 2 ≡ refused bad_dialect []
unfolding type_shape_of rules_of edition_of given_of from_bytes
zero_is_none = rw sound refl

pub three_is_none : type_shape_of typed_path type_name [] 3 2 2 ≡ refused bad_dialect []
unfolding type_shape_of rules_of edition_of given_of from_bytes
three_is_none = rw sound refl
