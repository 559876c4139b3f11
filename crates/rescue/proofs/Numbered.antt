-- Source file numbers in a rescue (W-208). What is kept passes the table check, so its numbers are sound: the rescue
-- cuts before a child with a wrong number (`kept_files`). A cut passes only if the root has number 0 and each child
-- is keepable (Greedy's `cut_keepable`). So nothing is kept under a root with a number (`numbered_root`), nor of a
-- file that is older than the numbers, because its first child has 0 (`old_zeros`). Assumes nothing.
use Rattle.std.specs.Prelude.{Err, Ok, Result}
use Rattle.table.specs.declared.Refusal.{Refusal}
use mathlib.Core.Path.{◌≡◌, ap}
use mathlib.Core.Bool.{true, false}
use mathlib.Core.List.{List}
use Prim.Native.Nat.{ℕ, zero, suc, ◌-◌, ◌≤◌}
use native.Mathlib.Omega.{arith}
use lib.ListN.{length, drop}
use borrow.Author.Tests.{eqb-true, leb-true}
use Rattle.fields.proofs.Basics.{and_left}
use Rattle.fields.proofs.Fields.{field_take}
use Rattle.forest.specs.Forest.{node_of, span_of, kids_of, Forest, forest, firsts, roots}
use Rattle.forest.proofs.Stretch.{forest_none, forest_tree, length_kids, record_or_none}
use Rattle.soundness.specs.Files.{file_sound, record_at, files_sound}
use Rattle.table.specs.Numbers.{nothing_kept}
use Rattle.table.specs.declared.Refusal.TheVariants.{Bare}
use Rattle.table.proofs.Numbered.{accepted_files}
use Rattle.tablefile.specs.Reading.{content_at}
use Rattle.rescue.specs.declared.Kept.{Kept}
use Rattle.rescue.specs.Good.{head_good, blocks_pass, good_table}
use Rattle.rescue.specs.Job.{table_kept}
use Rattle.rescue.specs.Claims.{Rescue, Passes}
use Rattle.rescue.specs.Steps.{keepable}
use Rattle.rescue.proofs.Greedy.{each, keepable_is, Passed, cut_keepable}
use Rattle.rescue.proofs.Keeping.{good_root, kept_checked}
use Rattle.rescue.proofs.Theorems.{done, all_says, nothing_can_be_kept}

-- the first of the children that can be kept has a source file number
first_number : (m j : ℕ) (row : List ℕ) → 1 ≤ j → j ≤ length (roots (forest 1 row))
    → each (keepable m) (firsts j (forest 1 row)) ≡ true → (24 ≤ length row) × (1 ≤ (node_of 1 row).file)
unfolding roots each firsts file_sound
first_number m zero row some there good = absurd (omega arith)
first_number m (suc j) row some there good = record_or_none row
    (λ short.
    let none : length (roots (forest 1 row)) ≡ 0 = ap (λ (f : Forest). length (roots f)) (forest_none 1 row short) in
    absurd (omega arith))
    (λ big.
    let first = and_left _ _ (rw (forest_tree 1 row big) at good) in
    let child = keepable_is m (node_of 1 row) (forest 2 (kids_of row)) first in
    (big, leb-true 1 (node_of 1 row).file (and_left _ _ (and_left _ _ child.files))))

-- a cut that passes
module _ (bs : List ℕ) (j : ℕ) (q : Passes bs j) where
  abbrev t : List ℕ
  t = good_table bs

  passed : Passed (content_at bs).names (good_root bs q.0) j
  passed = cut_keepable (content_at bs).names (good_root bs q.0) j q.2

  root_zero : (node_of 0 t).file ≡ 0
  root_zero = eqb-true (node_of 0 t).file 0 passed.file

  child_numbered : 1 ≤ j → 1 ≤ (record_at t 1).file
  unfolding kids_of
  child_numbered some =
      let first = first_number (length (content_at bs).names) j (kids_of t) some q.1 passed.good in
      let same = field_take 2 (drop 24 t) (span_of t - 24) 18 (omega (arith, length_kids t)) in
      omega arith

module _ (bs buffer : List ℕ) (r : Result Kept Refusal) (after : List ℕ) (p : Rescue bs buffer r after) where
  -- THEOREM: the numbers of what is kept are sound
  pub kept_files : (k : Kept) → r ≡ Ok k → files_sound (forest 0 (table_kept bs)) ≡ true
  kept_files k e =
      let s = all_says (done p e) in
      accepted_files (table_kept bs) (content_at bs).names (kept_checked bs s.head s.some)

  module _ (head : head_good bs ≡ true) (bad : blocks_pass bs ≡ false) where
    -- THEOREM: a root with a number is 91
    pub numbered_root : ((node_of 0 (good_table bs)).file ≡ 0 → ⊥) → r ≡ Err (Bare nothing_kept)
    numbered_root other = (nothing_can_be_kept bs buffer r after p).0
        record { head = head; blocks = bad; none = λ j some q. other (root_zero bs j q) }

    -- THEOREM: a first child without a number is 91
    pub old_zeros : (record_at (good_table bs) 1).file ≡ 0 → r ≡ Err (Bare nothing_kept)
    old_zeros z = (nothing_can_be_kept bs buffer r after p).0
        record { head = head; blocks = bad; none = λ j some q. omega (arith, child_numbered bs j q some) }
