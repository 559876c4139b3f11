-- NAMES, AND THE RECORDS OF A TABLE
--
-- Theorems of the crate `forest`: when two names are equal, and which nodes the forest has that all definitions use.
-- Each statement is proved by citing the theorem. Assumes nothing.
use mathlib.Core.Path.{◌≡◌}
use mathlib.Core.Bool.{true}
use mathlib.Core.List.{List}
use Prim.Native.Nat.{ℕ, ◌/◌}
use lib.ListN.{length}
use Rattle.forest.specs.Forest.{forest, nodes}
use Rattle.forest.specs.Names.{same}
use Rattle.forest.proofs.Stretch.{records}
use Rattle.forest.proofs.Named as theorem
use Rattle.forest.proofs.Stretch as theorem_records

-- "Names are equal when their bytes are."
-- In words: the test of names holds for a name and itself.
pub same_bytes_refl : (a : List ℕ) → same a a ≡ true
same_bytes_refl = theorem.same_bytes_refl

-- "Names are equal when their bytes are": the converse
-- In words: two names for which the test holds are the same bytes.
pub same_bytes_equal : (a b : List ℕ) → same a b ≡ true → a ≡ b
same_bytes_equal = theorem.same_bytes_equal

-- "A lent table of 24-byte records in preorder"
-- In words: whatever the bytes, the nodes of the forest are the records of the bytes, each once and in order.
pub nodes_records : (i : ℕ) (bs : List ℕ) → nodes (forest i bs) ≡ records (length bs / 24) i bs
nodes_records = theorem_records.nodes_records
