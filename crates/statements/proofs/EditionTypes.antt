-- W-212, PATHS THAT END IN TYPE: THE ANSWERS OF THE TYPE JOB
--
-- Theorems of the crate `types` about the answers of the type job, `type_shape_of`, in the two editions. Each is proved
-- by citing the theorem. Assumes nothing.
use mathlib.Core.Path.{◌≡◌}
use mathlib.Core.List.{List}
use Prim.Native.Nat.{ℕ}
use Rattle.table.specs.Numbers.{dot_type_ban}
use Rattle.table.specs.Answer.{refused}
use Rattle.types.specs.Jobs.{type_shape_of}
use Rattle.types.proofs.Editions as theorem

-- "so 44 isn't given", and nothing else changes
-- In words: if edition 1 does not answer 44, edition 2 gives the same answer, refusals included.
pub same_answer : (t names bytes : List ℕ) (i room : ℕ)
    → ((vs : List ℕ) → type_shape_of t names bytes 1 i room ≡ refused dot_type_ban vs → ⊥)
    → type_shape_of t names bytes 2 i room ≡ type_shape_of t names bytes 1 i room
same_answer = theorem.job_lifted

-- "so 44 isn't given"
-- In words: the type job in edition 2 never answers 44.
pub never_banned : (t names bytes : List ℕ) (i room : ℕ) (vs : List ℕ)
    → type_shape_of t names bytes 2 i room ≡ refused dot_type_ban vs
    → ⊥
never_banned = theorem.job_never
