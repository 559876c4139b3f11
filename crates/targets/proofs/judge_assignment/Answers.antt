-- `targets::judge_assignment` meets its contract: bytes that are part of a table are read, any others have no leaf.
-- Assumes nothing.
use Rattle.table.proofs.Heads.{headed_long, headed_within}
use Rattle.targets.proofs.Assignments.{assign_none, assign_here}
use Rattle.targets.proofs.judge_assignment.Goals as goal

pub returns-then-not-is_headed : goal.returns-then-not-is_headed
returns-then-not-is_headed c = search assign_none

pub check_assignment-requires : goal.check_assignment-requires
check_assignment-requires c = search (headed_long, headed_within)

pub returns : goal.returns
returns c = search assign_here
