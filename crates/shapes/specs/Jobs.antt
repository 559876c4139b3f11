-- The buffer of the type job at exit. These are definitions.
use Rattle.std.specs.Prelude.{List, ℕ, length}
use Rattle.forest.specs.Forest.{tree_of}
use Rattle.table.specs.Check.{stretch_of}
use Rattle.types.specs.Jobs.{type_shape_of}
use Rattle.shapes.specs.Shapes.{shapes_of, after_answer}

-- the buffer at exit: its byte k belongs to node i + k, so the nodes of the type's subtree are counted from 0
abbrev pub shapes_after : List ℕ → List ℕ → List ℕ → ℕ → ℕ → List ℕ → List ℕ
shapes_after t names bytes n i buffer =
    after_answer (type_shape_of t names bytes n i (length buffer)) (shapes_of (tree_of 0 (stretch_of t i))) buffer
