-- `arguments::call` meets its contract: 1 to 4, 6, then the rule of the node's stretch. Assumes nothing.
use Rattle.std.proofs.Common.{rules}
use Rattle.table.proofs.Entering.{job_refused, job_rule, job_long, job_within}
use Rattle.arguments.proofs.call.Goals as goal

pub returns-in_err-enter : goal.returns-in_err-enter
returns-in_err-enter c = search (rules, job_refused)

pub arguments-requires : goal.arguments-requires
arguments-requires c = search (job_long, job_within, c.in_ok-enter.was)

pub returns : goal.returns
returns c = search (job_rule, c.in_ok-enter.was)
