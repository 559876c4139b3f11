-- `table::is_headed` meets its contract: the two tests, or too long by itself. Assumes nothing.
use Rattle.table.proofs.Heads.{head_long}
use Rattle.table.proofs.is_headed.Goals as goal

pub returns : goal.returns
returns c = search head_long
