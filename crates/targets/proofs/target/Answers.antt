-- `targets::target` meets its contract: 1 to 4 and 6, then the target rule on the node's tree. Assumes nothing.
use Rattle.std.proofs.Common.{rules}
use native.Mathlib.Omega.{arith}
use Rattle.table.proofs.Entering.{job_refused, job_rule, job_long, job_within}
use Rattle.targets.proofs.target.Goals as goal

pub returns-in_err-enter : goal.returns-in_err-enter
returns-in_err-enter c = search (rules, job_refused)

pub check_assign-requires : goal.check_assign-requires
check_assign-requires c = search (rules, job_long, job_within, arith)

pub returns : goal.returns
returns c = search (rules, job_rule)
