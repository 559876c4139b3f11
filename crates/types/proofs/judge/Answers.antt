-- `types::judge` meets its contract: 1 to 5, then the node. Assumes nothing.
use Rattle.std.proofs.Common.{rules}
use Rattle.types.proofs.Jobs.{job_refused, job_type, job_sound}
use Rattle.types.proofs.judge.Goals as goal

pub type_at-requires : goal.type_at-requires
type_at-requires c = search (job_sound, c.in_ok-d.was)

pub returns : goal.returns
returns c = search (job_type, c.in_ok-d.was)

pub returns-in_err-d : goal.returns-in_err-d
returns-in_err-d c = search (rules, job_refused)
