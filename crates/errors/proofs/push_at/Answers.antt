-- `errors::push_at` meets its contract: the error at the record is stored. Assumes nothing.
use Rattle.errors.proofs.Storing.{push_known}
use Rattle.errors.proofs.push_at.Goals as goal

pub returns : goal.returns
returns c = search push_known
