-- The contract of each public function leaves one answer: two answers that meet it are equal, and so are the buffers
-- that they leave, for every table, names, dialect bytes, edition, node and buffer. The contract equates the meaning of
-- the answer and the buffer with definitions, and no two answers have the same meaning (types' `shaped_injective`).
-- Assumes nothing.
use Rattle.std.specs.Prelude.{Result}
use Rattle.table.specs.declared.Refusal.{Refusal}
use mathlib.Core.Path.{◌≡◌}
use mathlib.Core.List.{List}
use Prim.Native.Nat.{ℕ}
use lib.ListN.{length}
use Rattle.fields.proofs.Coincide.{coincide, coincide_by}
use Rattle.types.specs.Jobs.{shaped, type_shape_of}
use Rattle.types.proofs.Promises.{shaped_injective}
use Rattle.shapes.specs.Jobs.{shapes_after}

-- of `type_shape`: the answer and the buffer at exit
pub type_shape_one : (table names dialect : List ℕ) (edition node : ℕ) (shapes : List ℕ)
    {r s : Result (Unit {0}) Refusal}
    {shapes-r shapes-s : List ℕ} → shaped r ≡ type_shape_of table names dialect edition node (length shapes)
    → shapes-r ≡ shapes_after table names dialect edition node shapes
    → shaped s ≡ type_shape_of table names dialect edition node (length shapes)
    → shapes-s ≡ shapes_after table names dialect edition node shapes → (r ≡ s) × (shapes-r ≡ shapes-s)
type_shape_one table names dialect edition node shapes r-is shapes-is s-is shapes-are =
    (coincide_by shaped shaped_injective r-is s-is, coincide shapes-is shapes-are)
