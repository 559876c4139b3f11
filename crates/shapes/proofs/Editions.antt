-- The type job in the two editions (W-212): a type that the first accepts, the second accepts with the same shapes, so
-- the whole buffer is the same; it is the same wherever the first does not answer 44. There is no induction: the buffer
-- depends on the edition only through the answer (`after`), and types' `job_lifted` says that the answers are the same.
-- Cite `same_buffer` and `same_shapes`. Assumes nothing.
use mathlib.Core.Path.{◌≡◌, ap}
use mathlib.Core.List.{List}
use Prim.Native.Nat.{ℕ}
use lib.ListN.{length}
use Rattle.forest.specs.Forest.{tree_of}
use Rattle.table.specs.Numbers.{dot_type_ban}
use Rattle.table.specs.Answer.{Answer, accepted, refused}
use Rattle.table.specs.Check.{stretch_of}
use Rattle.types.specs.Jobs.{type_shape_of}
use Rattle.types.proofs.Editions.{job_lifted, job_accepted}
use Rattle.table.proofs.Answers.{never_passed}
use Rattle.shapes.specs.Shapes.{shapes_of, after_answer}
use Rattle.shapes.specs.Jobs.{shapes_after}

module _ (t names bytes : List ℕ) (i : ℕ) (buffer : List ℕ) where
  -- the buffer after an answer
  abbrev after : Answer → List ℕ
  after a = after_answer a (shapes_of (tree_of 0 (stretch_of t i))) buffer

  -- THEOREM: where edition 1 answers anything but 44, edition 2 leaves the same buffer
  pub same_buffer : ((vs : List ℕ) → type_shape_of t names bytes 1 i (length buffer) ≡ refused dot_type_ban vs → ⊥)
      → shapes_after t names bytes 2 i buffer ≡ shapes_after t names bytes 1 i buffer
  same_buffer h = ap after (job_lifted t names bytes i (length buffer) h)

  -- THEOREM: a type that edition 1 accepts is accepted by edition 2 with the same shapes: the whole buffer is equal
  pub same_shapes : {vs : List ℕ} → type_shape_of t names bytes 1 i (length buffer) ≡ accepted vs
      → (type_shape_of t names bytes 2 i (length buffer) ≡ accepted vs)
      × (shapes_after t names bytes 2 i buffer ≡ shapes_after t names bytes 1 i buffer)
  same_shapes e =
      (job_accepted t names bytes i (length buffer) e, same_buffer (λ vs banned. never_passed (rw banned at e)))
