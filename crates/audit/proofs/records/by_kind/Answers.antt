-- `audit::records::by_kind` meets its contract: each kind has its job. Assumes nothing.
use Rattle.audit.proofs.Refused.{kind_def_lem, kind_lambda_lem, kind_call_lem, kind_assign_lem, kind_modify, kind_other}
use Rattle.audit.proofs.records.by_kind.Goals as goal

pub returns-in-2 : goal.returns-in-2
returns-in-2 c = search kind_def_lem

pub returns-in-27 : goal.returns-in-27
returns-in-27 c = search kind_lambda_lem

pub returns-in-22 : goal.returns-in-22
returns-in-22 c = search kind_call_lem

pub returns-in-11 : goal.returns-in-11
returns-in-11 c = search kind_assign_lem

pub returns-in-12 : goal.returns-in-12
returns-in-12 c = search kind_modify

pub returns-in_default : goal.returns-in_default
returns-in_default c = search kind_other
