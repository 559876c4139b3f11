-- W-208: TWO SOURCE FILES IN ONE TABLE
--
-- Theorems of the crate `soundness` about the source file numbers of records. `files_sound` states the rule down the
-- tree, as people do; the check goes along the index. Each statement is proved by citing the theorem. Assumes nothing.
use Rattle.std.specs.Prelude.{None}
use mathlib.Core.Path.{◌≡◌}
use mathlib.Core.Bool.{true, false}
use mathlib.Core.List.{List, [], map}
use Prim.Native.Nat.{ℕ, ◌+◌, ◌*◌, ◌/◌, ◌<◌, ◌≤◌}
use lib.ListN.{length, drop}
use Rattle.forest.specs.Forest.{size_of, forest}
use Rattle.soundness.specs.Files.{any_file, record_at, root_statements, files_sound}
use Rattle.soundness.specs.Sound.{context, sound_at, root_sound, first_unsound}
use Rattle.soundness.specs.FileCases.{Case, file_cases}
use Rattle.soundness.proofs.Files as theorem
use Rattle.soundness.proofs.FileCases as theorem_cases

-- "every record under a top-level statement carries that statement's number. A root Statements has 0 itself; any other
-- root is the top-level statement."
-- In words: if no record is unsound, the file numbers are sound down the tree.
pub clean_files : (t names : List ℕ)
    → first_unsound t names ≡ None
    → files_sound (forest 0 t) ≡ true
clean_files = theorem.clean_files

-- "a wrong file number is 3, in the record's turn": only a wrong number makes a record unsound by its file number
-- In words: if the root is sound, and every record is sound with any number from 0 to 65,535, then no record is unsound
-- exactly if the file numbers are sound down the tree.
pub clean_exactly : (t names : List ℕ)
    → root_sound t ≡ true
    → ((i : ℕ) → i < length t / 24 → sound_at (context (length names) any_file) i (drop (24 * i) t) ≡ true)
    → (first_unsound t names ≡ None → files_sound (forest 0 t) ≡ true)
    × (files_sound (forest 0 t) ≡ true → first_unsound t names ≡ None)
clean_exactly = theorem.clean_exactly

-- "every record under a top-level statement carries that statement's number": the same under any node
-- In words: if no record is unsound, all records of a node's subtree have the number of that node, unless the node is a
-- root Statements.
pub subtree_file : (t names : List ℕ)
    → first_unsound t names ≡ None
    → (i : ℕ)
    → i < length t / 24
    → (i ≡ 0 → root_statements t ≡ false)
    → (j : ℕ)
    → i ≤ j
    → j < i + size_of (drop (24 * i) t)
    → (record_at t j).file ≡ (record_at t i).file
subtree_file = theorem.subtree_file

-- "a source file number from 1 to 999": both sides of each limit
-- In words: in each of the small tables with 0, 1, 999 and 1000 at the root, at a statement and under it, with two
-- files, and with two faults, the first unsound record is the one that the case shows.
pub file_cases_lem : map (λ (c : Case). first_unsound c.table []) file_cases ≡ map (λ (c : Case). c.unsound) file_cases
file_cases_lem = theorem_cases.file_cases_lem
