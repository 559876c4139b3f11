-- The table of worked examples (specs/Table.antt), all rows in one theorem: each row shows what the definitions give,
-- which the contracts of the jobs cite. The same for the table of the second edition of the type rules. Both sides
-- compute to the same list (`refl`), for whatever record the def of the parameters has, because a list of at most 48
-- entries does not read it. Cite `examples` and `second_edition_lem`. Assumes nothing.
use mathlib.Core.Path.{◌≡◌, refl}
use mathlib.Core.List.{map}
use lib.ListN.{length}
use Rattle.forest.specs.Forest.{Node}
use Rattle.forest.specs.Names.{name_of, same}
use Rattle.deflist.specs.Unpack.{has_name, first_same, repeats, advance, step, finish, run, slash_from, start, unpack}
use Rattle.deflist.specs.Limited.{limited}
use Rattle.parameters.specs.Indices.{counted_of}
use Rattle.arguments.specs.Call.{repeats as call_repeats, check, advance as call_advance, run as call_run}
use Rattle.arguments.specs.Call.{unpack as call_unpack}
use Rattle.types.specs.Forms.{form_of}
use Rattle.types.specs.Paths.{object_path, unpack_path}
use Rattle.types.specs.Types.{index_base, index2_base, list_length, at_node, «unpack» as type_unpack}
use Rattle.examples.specs.Table.{Row, answer, table, second_edition}

-- THEOREM: every row of the table is what the definitions answer, whatever the record of the def
pub examples : (def : Node) → map (λ (r : Row). answer def r.asked) table ≡ map (λ (r : Row). r.shown) table
unfolding name_of same has_name first_same repeats advance step finish run slash_from start unpack counted_of
    call_repeats
    check call_advance call_run call_unpack form_of object_path unpack_path index_base index2_base list_length at_node
    type_unpack limited
examples def = refl

-- THEOREM: the number of rows
pub how_many_lem : length table ≡ 14
how_many_lem = refl

-- THEOREM: the rows of the second edition
pub second_edition_lem : (def : Node)
    → map (λ (r : Row). answer def r.asked) second_edition ≡ map (λ (r : Row). r.shown) second_edition
unfolding name_of same form_of object_path unpack_path index_base index2_base list_length at_node type_unpack
second_edition_lem def = refl
