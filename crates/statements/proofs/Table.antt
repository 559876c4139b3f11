-- DEMAND 1: THE TABLE CHECK, 1 TO 4
--
-- Theorems of the crate `table` about the answer of `table::check`. The content of the records `Clean`, `First` and
-- `FirstDeeper` is written field by field. Each statement is proved by citing the theorem. Assumes nothing.
use Rattle.std.specs.Prelude.{None}
use mathlib.Core.Path.{◌≡◌}
use mathlib.Core.Bool.{true, false}
use mathlib.Core.Logic.{◌⊎◌}
use mathlib.Core.List.{List, [], ◌∷◌}
use Prim.Native.Nat.{ℕ, ◌+◌, ◌*◌, ◌/◌, ◌<◌, ◌≤◌}
use lib.ListN.{length, get_or, drop}
use Rattle.fields.specs.Field.{field}
use Rattle.forest.specs.Forest.{size_of, node_of, forest}
use Rattle.soundness.specs.KindNumbers.{kind_statements}
use Rattle.soundness.specs.Kinds.{statement, expression, class_of}
use Rattle.soundness.specs.Files.{record_at, root_statements, files_sound}
use Rattle.soundness.specs.Sound.{record_sound, first_unsound}
use Rattle.table.specs.Numbers.{unsound_record, too_deep}
use Rattle.table.specs.Answer.{accepted, refused}
use Rattle.table.specs.Check.{check_of}
use Rattle.table.specs.Depth.{most_depth, first_deep, depths}
use Rattle.table.proofs.Theorems as theorem
use Rattle.table.proofs.Checking as theorem_checking
use Rattle.table.proofs.Numbered as theorem_numbered

-- "Within all this a table is sound."
-- In words: a table of 1 to 2,100 whole records, with at most 8,064 name bytes, no unsound record and no node that is
-- too deep is accepted.
pub clean_accepted : (t names : List ℕ)
    → 24 ≤ length t
    → length t ≤ 50400
    → 24 * (length t / 24) ≡ length t
    → length names ≤ 8064
    → first_unsound t names ≡ None
    → first_deep 0 (forest 0 t) ≡ None
    → check_of t names ≡ accepted []
clean_accepted t names least most whole few unsound deep = theorem.clean_accepted t names
    record { least = least; most = most; whole = whole; few = few; unsound = unsound; deep = deep }

-- "Within all this a table is sound": no other table is
-- In words: an accepted table has 1 to 2,100 whole records, at most 8,064 name bytes, no unsound record and no node
-- that is too deep.
pub accepted_clean : (t names : List ℕ) {vs : List ℕ}
    → check_of t names ≡ accepted vs
    → (24 ≤ length t)
    × (length t ≤ 50400)
    × (24 * (length t / 24) ≡ length t)
    × (length names ≤ 8064)
    × (first_unsound t names ≡ None)
    × (first_deep 0 (forest 0 t) ≡ None)
accepted_clean t names e =
    let c = theorem_checking.accepted_clean t names e in
    (c.least, c.most, c.whole, c.few, c.unsound, c.deep)

-- "3 the first unsound record": none in an accepted table
-- In words: every record of an accepted table is sound.
pub accepted_sound : (t names : List ℕ) {vs : List ℕ}
    → check_of t names ≡ accepted vs
    → (j : ℕ)
    → j < length t / 24
    → record_sound t names j ≡ true
accepted_sound = theorem.accepted_sound

-- "Limits: depth 64."
-- In words: no node of an accepted table is deeper than the largest depth.
pub accepted_flat : (t names : List ℕ) {vs : List ℕ}
    → check_of t names ≡ accepted vs
    → (j : ℕ)
    → get_or (depths 0 (forest 0 t)) j 0 ≤ most_depth
accepted_flat = theorem.accepted_flat

-- "3 the first unsound record in index order"
-- In words: the node that 3 carries is a record of the table and is unsound, and every record before it is sound.
pub unsound_first : (t names : List ℕ) (k : ℕ)
    → check_of t names ≡ refused unsound_record (k ∷ [])
    → (0 ≤ k)
    × (k < 0 + length t / 24)
    × (record_sound t names k ≡ false)
    × ((j : ℕ) → 0 ≤ j → j < k → record_sound t names j ≡ true)
unsound_first t names k e =
    let f = theorem.unsound_first t names k e in
    (f.from, f.within, f.fails, f.before)

-- "4 depth", "for 3 and 4, the first such node"
-- In words: if the check refuses with 4, no record is unsound; the node that it carries is deeper than the largest
-- depth, and none before it is.
pub deep_is_first : (t names : List ℕ) (k : ℕ)
    → check_of t names ≡ refused too_deep (k ∷ [])
    → (first_unsound t names ≡ None)
    × (k < length (depths 0 (forest 0 t)))
    × (most_depth < get_or (depths 0 (forest 0 t)) k 0)
    × ((j : ℕ) → j < k → get_or (depths 0 (forest 0 t)) j 0 ≤ most_depth)
deep_is_first t names k e =
    let x = theorem.deep_is_first t names k e in
    (x.0, x.1.within, x.1.deeper, x.1.before)

-- W-206: "statements and expressions alone count"
-- In words: the node that 4 carries is a statement or an expression.
pub deep_is_counted : (t names : List ℕ) (k : ℕ)
    → check_of t names ≡ refused too_deep (k ∷ [])
    → (class_of (node_of k (drop (24 * k) t)).kind ≡ statement)
    ⊎ (class_of (node_of k (drop (24 * k) t)).kind ≡ expression)
deep_is_counted = theorem.deep_is_counted

-- "every record under a top-level statement carries that statement's number" (W-208)
-- In words: in an accepted table the file numbers are sound down the tree.
pub accepted_files : (t names : List ℕ) {vs : List ℕ}
    → check_of t names ≡ accepted vs
    → files_sound (forest 0 t) ≡ true
accepted_files t names e = theorem_numbered.accepted_files t names e

-- "every record under a top-level statement carries that statement's number" (W-208): the same under any node
-- In words: in an accepted table all records of a node's subtree have the number of that node, unless the node is a
-- root Statements.
pub accepted_subtree : (t names : List ℕ) {vs : List ℕ}
    → check_of t names ≡ accepted vs
    → (i : ℕ)
    → i < length t / 24
    → (i ≡ 0 → root_statements t ≡ false)
    → (j : ℕ)
    → i ≤ j
    → j < i + size_of (drop (24 * i) t)
    → (record_at t j).file ≡ (record_at t i).file
accepted_subtree t names e = theorem_numbered.accepted_subtree t names e

-- "Files with the old zeros are refused, but for a root Statements alone." (W-208)
-- In words: a table that the check accepts and whose bytes 18 and 19 are all zero is one record, a root Statements.
pub zeros_alone : (t names : List ℕ) {vs : List ℕ}
    → check_of t names ≡ accepted vs
    → ((j : ℕ) → j < length t / 24 → field 2 (drop (24 * j) t) 18 ≡ 0)
    → (length t ≡ 24) × ((node_of 0 t).kind ≡ kind_statements)
zeros_alone t names e = theorem_numbered.zeros_alone t names e
