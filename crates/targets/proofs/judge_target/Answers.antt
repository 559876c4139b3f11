-- `targets::judge_target` meets its contract: bytes that are part of a table are read, any others are refused with 30.
-- Assumes nothing.
use native.Mathlib.Omega.{arith}
use borrow.Author.Tests.{not-false}
use Rattle.table.proofs.Heads.{headed_long, headed_within}
use Rattle.targets.proofs.Assignments.{target_none, target_here}
use Rattle.targets.proofs.judge_target.Goals as goal

pub returns-then-not-is_headed : goal.returns-then-not-is_headed
returns-then-not-is_headed c = search target_none

pub check_assign-requires : goal.check_assign-requires
check_assign-requires c = search (headed_long, headed_within, not-false, arith)

pub returns : goal.returns
returns c = search target_here
