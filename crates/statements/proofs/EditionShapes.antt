-- W-212, PATHS THAT END IN TYPE: THE SHAPES
--
-- Theorems of the crate `shapes` about the shape buffer at exit in the two editions. Each is proved by citing the
-- theorem. Assumes nothing.
use mathlib.Core.Path.{◌≡◌}
use mathlib.Core.List.{List}
use Prim.Native.Nat.{ℕ}
use lib.ListN.{length}
use Rattle.table.specs.Numbers.{dot_type_ban}
use Rattle.table.specs.Answer.{accepted, refused}
use Rattle.types.specs.Jobs.{type_shape_of}
use Rattle.shapes.specs.Jobs.{shapes_after}
use Rattle.shapes.proofs.Editions as theorem

-- "A type accepted in edition 1 has the same shapes in edition 2"
-- In words: if the type job accepts in edition 1, it accepts in edition 2 with the same answer, and the whole buffer at
-- exit is the same.
pub same_shapes : (t names bytes : List ℕ) (i : ℕ) (buffer : List ℕ) {vs : List ℕ}
    → type_shape_of t names bytes 1 i (length buffer) ≡ accepted vs
    → (type_shape_of t names bytes 2 i (length buffer) ≡ accepted vs)
    × (shapes_after t names bytes 2 i buffer ≡ shapes_after t names bytes 1 i buffer)
same_shapes = theorem.same_shapes

-- "so 44 isn't given", and nothing else changes: the buffer
-- In words: if edition 1 does not answer 44, the buffer at exit is the same in edition 2.
pub same_buffer : (t names bytes : List ℕ) (i : ℕ) (buffer : List ℕ)
    → ((vs : List ℕ) → type_shape_of t names bytes 1 i (length buffer) ≡ refused dot_type_ban vs → ⊥)
    → shapes_after t names bytes 2 i buffer ≡ shapes_after t names bytes 1 i buffer
same_buffer = theorem.same_buffer
