-- `fstring::judge` meets its contract: 5, then the parts. Assumes nothing.
use Rattle.fstring.proofs.Jobs.{job_bad, job_valid}
use Rattle.fstring.proofs.judge.Goals as goal

pub returns-in-Some : goal.returns-in-Some
returns-in-Some c = search job_valid

pub returns-in-None : goal.returns-in-None
returns-in-None c = search job_bad
