-- `audit::records::push_refusal` meets its contract: stores nothing, or the refusal. Assumes nothing.
use Rattle.audit.proofs.Refused.{push_none, push_one}
use Rattle.audit.proofs.records.push_refusal.Goals as goal

pub returns-in-Ok : goal.returns-in-Ok
returns-in-Ok c = search push_none

pub returns-in-Err : goal.returns-in-Err
returns-in-Err c = search push_one
