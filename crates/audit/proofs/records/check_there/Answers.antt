-- `audit::records::check_there` meets its contract: the job of the kind, then that of the role. Assumes nothing.
use Rattle.audit.proofs.Refused.{there_both}
use Rattle.audit.proofs.records.check_there.Goals as goal

pub returns : goal.returns
returns c = search there_both
