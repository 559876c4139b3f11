-- WHEN A RECORD IS SOUND
--
-- Theorems of the crate `soundness` about the sizes of records: when a record is whole, and that a table is sound if
-- its root and all its nodes are. Each statement is proved by citing the theorem. Assumes nothing.
use Rattle.std.specs.Prelude.{None}
use mathlib.Core.Path.{◌≡◌}
use mathlib.Core.Bool.{true}
use mathlib.Core.List.{List}
use Prim.Native.Nat.{ℕ, ◌+◌, ◌*◌, ◌/◌, ◌<◌, ◌≤◌}
use lib.ListN.{length, drop}
use Rattle.forest.specs.Forest.{size_of, node_of, kids_of, forest}
use Rattle.soundness.specs.Sound.{whole_tree, root_sound, context_of, first_unsound}
use Rattle.soundness.proofs.SoundTables.{all_sound}
use Rattle.soundness.proofs.SoundTables as theorem

-- "its subtree is empty or passes the table's end"
-- In words: if the first record of some bytes is whole, its size is at least 1 and its subtree ends within the bytes.
pub whole_size_fits : (i : ℕ) (bs : List ℕ)
    → 24 ≤ length bs
    → whole_tree (node_of i bs) (forest (i + 1) (kids_of bs)) ≡ true
    → (1 ≤ size_of bs) × (24 * size_of bs ≤ length bs)
whole_size_fits = theorem.whole_size_fits

-- "its subtree is empty or passes the table's end": the converse
-- In words: if the size is at least 1 and the subtree ends within the bytes, the record is whole.
pub size_fits_whole : (i : ℕ) (bs : List ℕ)
    → 24 ≤ length bs
    → 1 ≤ size_of bs
    → 24 * size_of bs ≤ length bs
    → whole_tree (node_of i bs) (forest (i + 1) (kids_of bs)) ≡ true
size_fits_whole = theorem.size_fits_whole

-- In a sound table the size of a record is what its field says: no subtree is cut off.
-- In words: if no record is unsound, the subtree of each node is not empty and ends within the table.
pub here_size : (t names : List ℕ)
    → first_unsound t names ≡ None
    → (i : ℕ)
    → i < length t / 24
    → (1 ≤ size_of (drop (24 * i) t)) × (24 * (i + size_of (drop (24 * i) t)) ≤ length t)
here_size = theorem.here_size

-- "Node 0 is a statement that covers the table", and each record keeps the rules: no record is unsound
-- In words: a table of whole records whose root is a statement that covers it, and all of whose nodes are sound, has no
-- unsound record.
pub sound_clean : (t names : List ℕ)
    → root_sound t ≡ true
    → 24 * (length t / 24) ≡ length t
    → all_sound (context_of t names) (forest 0 t) ≡ true
    → first_unsound t names ≡ None
sound_clean t names root whole all = theorem.sound_clean t names root record { records = whole; nodes = all }
