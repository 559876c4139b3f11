-- `targets::assignment` meets its contract: 1 to 4 and 6, then the assignment rule on the node's tree. Assumes nothing.
use Rattle.std.proofs.Common.{rules}
use Rattle.table.proofs.Entering.{job_refused, job_rule, job_long, job_within}
use Rattle.targets.proofs.assignment.Goals as goal

pub returns-in_err-enter : goal.returns-in_err-enter
returns-in_err-enter c = search (rules, job_refused)

pub check_assignment-requires : goal.check_assignment-requires
check_assignment-requires c = search (rules, job_long, job_within)

pub returns : goal.returns
returns c = search (rules, job_rule)
