-- `audit::records::of_list` meets its contract: the error of the list, if there is one. Assumes nothing.
use Rattle.validate.proofs.Lists.{fault_small}
use Rattle.audit.proofs.Refused.{list_none, list_one}
use Rattle.audit.proofs.records.of_list.Goals as goal

pub of_fault-requires : goal.of_fault-requires
of_fault-requires c = search fault_small

pub returns-in-Ok : goal.returns-in-Ok
returns-in-Ok c = search list_none

pub returns-in-Err : goal.returns-in-Err
returns-in-Err c = search list_one
