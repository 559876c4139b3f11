-- `figures::sums::add` meets its contract: one counter is stored. Assumes nothing.
use Rattle.figures.proofs.Additions.{stored_only}
use Rattle.figures.proofs.sums.add.Goals as goal

pub returns : goal.returns
returns c = search stored_only
