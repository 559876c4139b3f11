-- W-212, PATHS THAT END IN TYPE: AN EXAMPLE
--
-- The statement `t: t.type = 1` of the crate `examples` as a table, whose type is node 2, with each number. Assumes
-- nothing.
use mathlib.Core.Path.{◌≡◌}
use mathlib.Core.List.{[], ◌∷◌}
use Rattle.table.specs.Numbers.{bad_dialect, dot_type_ban}
use Rattle.table.specs.Answer.{accepted, refused}
use Rattle.types.specs.Jobs.{type_shape_of}
use Rattle.examples.specs.Editions.{typed_path, type_name}
use Rattle.examples.proofs.Editions as theorem

-- edition 1
-- In words: the type job answers 44 at node 3, the `t` before the dot, from 3 to 4 in source file 1.
pub first_bans : type_shape_of typed_path type_name [] 1 2 2 ≡ refused dot_type_ban (3 ∷ 3 ∷ 4 ∷ 1 ∷ [])
first_bans = theorem.first_bans

-- edition 2
-- In words: the type job accepts it.
pub second_reads : type_shape_of typed_path type_name [] 2 2 2 ≡ accepted []
second_reads = theorem.second_reads

-- 0 as an edition
-- In words: 0 is not an edition, and the answer is 5.
pub zero_is_none : type_shape_of typed_path type_name [] 0 2 2 ≡ refused bad_dialect []
zero_is_none = theorem.zero_is_none

-- 3 as an edition
-- In words: 3 is not an edition, and the answer is 5.
pub three_is_none : type_shape_of typed_path type_name [] 3 2 2 ≡ refused bad_dialect []
three_is_none = theorem.three_is_none
