-- `filepass::told` meets its contract: the job's total or its refusal. Assumes nothing.
use Rattle.filepass.proofs.Listing.{told_total, told_refused}
use Rattle.filepass.proofs.told.Goals as goal

pub returns-in-Ok : goal.returns-in-Ok
returns-in-Ok c = told_total _ _ c.in-Ok.is

pub returns-in-Err : goal.returns-in-Err
returns-in-Err c = told_refused _ _ c.in-Err.is
