-- `audit::records::by_role` meets its contract: each role has its job. Assumes nothing.
use Rattle.audit.proofs.Refused.{role_target, role_type, role_plain}
use Rattle.audit.proofs.records.by_role.Goals as goal

pub returns-in-AsTarget : goal.returns-in-AsTarget
returns-in-AsTarget c = search role_target

pub returns-in-AsType : goal.returns-in-AsType
returns-in-AsType c = search role_type

pub returns-in-Plain : goal.returns-in-Plain
returns-in-Plain c = search role_plain
