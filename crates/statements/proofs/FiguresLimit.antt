-- W-214, THE LINE'S FIGURES: NO FILE AFTER 4,294,967,295 FILES
--
-- The theorem of the crate `figures` about 76: `step_of` and `figures_after` are what `figures::step` answers and
-- leaves in the counters. Assumes nothing.
use Rattle.std.specs.Prelude.{Err}
use mathlib.Core.Path.{◌≡◌}
use mathlib.Core.List.{List}
use Prim.Native.Nat.{ℕ, ◌≤◌}
use lib.ListN.{length, get_or}
use Rattle.table.specs.Numbers.{too_many_files}
use Rattle.figures.specs.Reporting.{most_files, step_of, figures_after}
use Rattle.figures.proofs.Running as theorem

-- "76 first, with one byte left after 4,294,967,295 files"
-- In words: from 4,294,967,295 files on, a step refuses any bytes with 76 and changes no counter.
pub step_many : (window figures : List ℕ)
    → (length window ≡ 0 → ⊥)
    → most_files ≤ get_or figures 0 0
    → (Err too_many_files ≡ step_of window figures) × (figures ≡ figures_after window figures)
step_many = theorem.step_many
