-- THE TYPE JOB AND ITS SHAPES
--
-- Theorems of the crate `shapes` about the answer of `shapes::type_shape` and the shape buffer at exit. Each statement
-- is proved by citing the theorem. Assumes nothing.
use mathlib.Core.Path.{◌≡◌}
use mathlib.Core.List.{List}
use Prim.Native.Nat.{ℕ, ◌/◌, ◌≤◌}
use lib.ListN.{length, get_or}
use Rattle.forest.specs.Forest.{tree_of}
use Rattle.table.specs.Answer.{accepted, refused}
use Rattle.table.specs.Check.{stretch_of}
use Rattle.types.specs.Jobs.{type_shape_of}
use Rattle.shapes.specs.Shapes.{shapes_of, shape_or, Rising, Proper}
use Rattle.shapes.specs.Jobs.{shapes_after}
use Rattle.shapes.proofs.Buffer as theorem

-- "No refusal changes a buffer": shapes
-- In words: if the job refuses, the shape buffer at exit is the buffer at entry.
pub refusal_keeps : (t names bytes : List ℕ) (edition i : ℕ) (buffer : List ℕ) {n : ℕ} {vs : List ℕ}
    → type_shape_of t names bytes edition i (length buffer) ≡ refused n vs
    → shapes_after t names bytes edition i buffer ≡ buffer
refusal_keeps = theorem.refusal_keeps

-- "Shapes go into a buffer, a byte for each node of the type's subtree in order: at each node read as a type or
-- argument; others stay"
-- In words: after acceptance the byte of each node that is read is its shape, and every other byte is unchanged.
pub accepted_bytes : (t names bytes : List ℕ) (edition i : ℕ) (buffer : List ℕ) {vs : List ℕ}
    → accepted vs ≡ type_shape_of t names bytes edition i (length buffer)
    → (k : ℕ)
    → get_or (shapes_after t names bytes edition i buffer) k 0
    ≡ shape_or (shapes_of (tree_of 0 (stretch_of t i))) k (get_or buffer k 0)
accepted_bytes = theorem.accepted_bytes

-- "a byte for each node of the type's subtree in order"
-- In words: each node that is read comes once, in table order, within the type's subtree.
pub read_once : (t names bytes : List ℕ) (edition i room : ℕ) {vs : List ℕ}
    → accepted vs ≡ type_shape_of t names bytes edition i room
    → Rising 0 (length (stretch_of t i) / 24) (shapes_of (tree_of 0 (stretch_of t i)))
read_once = theorem.read_once

-- "1 Ellipsis, 2 Path, 3 Index, 4 Index2, 5 List, 6 Union, 7 Tuple"
-- In words: each shape of an accepted type is from 1 to 7.
pub accepted_proper : (t names bytes : List ℕ) (edition i room : ℕ) {vs : List ℕ}
    → accepted vs ≡ type_shape_of t names bytes edition i room
    → Proper (shapes_of (tree_of 0 (stretch_of t i)))
accepted_proper = theorem.accepted_proper

-- "others stay": past the subtree
-- In words: a byte of the buffer past the type's subtree is unchanged, whatever the answer.
pub past_subtree_stays : (t names bytes : List ℕ) (edition i : ℕ) (buffer : List ℕ) (k : ℕ)
    → length (stretch_of t i) / 24 ≤ k
    → get_or (shapes_after t names bytes edition i buffer) k 0 ≡ get_or buffer k 0
past_subtree_stays = theorem.past_subtree_stays
