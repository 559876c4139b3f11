-- The smallest inputs. An input without a byte has no file (`empty_report`). An input with fewer than 512 bytes has a
-- file whose first block is not complete, so 70 ends its report at its first byte (`short_report`). Both are one step
-- of the report's definition. Assumes nothing.
use Rattle.std.specs.Prelude.{Err}
use mathlib.Core.Path.{◌≡◌, refl}
use mathlib.Core.List.{List, [], ◌∷◌}
use Prim.Native.Nat.{ℕ, ◌<◌}
use native.Mathlib.Omega.{arith}
use lib.ListN.{length}
use borrow.Author.Tests.{ne_eqb}
use Rattle.table.specs.Numbers.{block_short}
use Rattle.table.specs.Answer.{refused}
use Rattle.blocks.specs.Block.{block_bytes}
use Rattle.blocks.proofs.Judging.{judge_short}
use Rattle.tablefile.specs.Reading.{header_at, used_of, blocks_check, front_check}
use Rattle.figures.specs.Reporting.{window_check, step_check, step_of, whole, ended_by, zeros}
use Rattle.figures.specs.Reporting.{report_of}
use Rattle.figures.proofs.Running.{report_none, report_stop}

-- THEOREM: an input without a byte has no file
pub empty_report : report_of [] ≡ whole zeros
unfolding report_of
empty_report = report_none 0 zeros [] refl

module _ (a : List ℕ) (some : length a ≡ 0 → ⊥) (short : length a < block_bytes) where
  short_front : refused block_short [] ≡ front_check a
  unfolding blocks_check
  short_front = rw (← judge_short 0 (used_of (header_at a)) a short) refl

  short_step : step_of a zeros ≡ Err block_short
  unfolding step_of step_check window_check
  short_step = rw (ne_eqb (length a) 0 some, ← short_front) refl

  -- THEOREM: fewer bytes than a block are a file that is refused with 70
  pub short_report : report_of a ≡ ended_by block_short 0 zeros
  unfolding report_of
  short_report = report_stop 0 zeros a some short_step

-- THEOREM: a single byte, computed
pub one_byte : report_of (0 ∷ []) ≡ ended_by 70 0 zeros
one_byte = short_report (0 ∷ []) (λ e. absurd (omega (arith, e))) (omega arith)
