-- `targets::check_assignment` meets its contract: 31, then the target, then the type. Assumes nothing.
use Rattle.std.proofs.Common.{rules}
use Rattle.targets.proofs.Assignments.{assignment_none, assignment_modify, assignment_stop, assignment_type}
use Rattle.targets.proofs.check_assignment.Goals as goal

pub returns-then-lhs-lt-RECORD : goal.returns-then-lhs-lt-RECORD
returns-then-lhs-lt-RECORD c = search assignment_none

pub returns-then-kind-is_group : goal.returns-then-kind-is_group
returns-then-kind-is_group c = search assignment_modify

pub returns : goal.returns
returns c = search (assignment_type, c.in_ok-leaves.was)

pub returns-in_err-leaves : goal.returns-in_err-leaves
returns-in_err-leaves c = search (rules, assignment_stop)
