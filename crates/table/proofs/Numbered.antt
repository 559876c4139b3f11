-- Source file numbers in a table that the check accepts (W-208). The check accepts no table with an unsound record
-- (`accepted_clean`), so what soundness shows of a clean table holds of it: the numbers are sound down the tree, a
-- subtree has one number, and a table of zeros is a root Statements alone. Assumes nothing.
use mathlib.Core.Path.{◌≡◌}
use mathlib.Core.Bool.{true, false}
use mathlib.Core.List.{List}
use Prim.Native.Nat.{ℕ, ◌+◌, ◌*◌, ◌/◌, ◌<◌, ◌≤◌}
use lib.ListN.{length, drop}
use borrow.Author.Tests.{eqb-true}
use Rattle.fields.specs.Field.{field}
use Rattle.forest.specs.Forest.{size_of, node_of, forest}
use Rattle.soundness.specs.KindNumbers.{kind_statements}
use Rattle.soundness.specs.Files.{record_at, root_statements, files_sound}
use Rattle.soundness.proofs.Files.{clean_files, subtree_file, zero_root, zero_length}
use Rattle.table.specs.Answer.{accepted}
use Rattle.table.specs.Check.{check_of}
use Rattle.table.proofs.Checking.{accepted_clean}

module _ (t names : List ℕ) {vs : List ℕ} (e : check_of t names ≡ accepted vs) where
  -- THEOREM: a root Statements has 0, and every record under a top-level statement has the number of that one
  pub accepted_files : files_sound (forest 0 t) ≡ true
  accepted_files = clean_files t names (accepted_clean t names e).unsound

  -- THEOREM: all records of a subtree have the number of its first, but for a root Statements
  pub accepted_subtree : (i : ℕ) → i < length t / 24 → (i ≡ 0 → root_statements t ≡ false) → (j : ℕ) → i ≤ j
      → j < i + size_of (drop (24 * i) t) → (record_at t j).file ≡ (record_at t i).file
  accepted_subtree = subtree_file t names (accepted_clean t names e).unsound

  -- THEOREM: a table whose bytes 18 and 19 are all zero is one record, a root Statements
  pub zeros_alone : ((j : ℕ) → j < length t / 24 → field 2 (drop (24 * j) t) 18 ≡ 0)
      → (length t ≡ 24) × ((node_of 0 t).kind ≡ kind_statements)
  zeros_alone zeros =
      let clean = accepted_clean t names e in (
        zero_length t names clean.unsound clean.least zeros,
        eqb-true (node_of 0 t).kind kind_statements (zero_root t names clean.unsound clean.least zeros),
      )
