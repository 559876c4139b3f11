-- `audit::records::of_type` meets its contract: the refusal, if there is one. Assumes nothing.
use Rattle.audit.proofs.Refused.{type_refused}
use Rattle.audit.proofs.records.of_type.Goals as goal

pub returns-in-Err : goal.returns-in-Err
returns-in-Err c = search type_refused
