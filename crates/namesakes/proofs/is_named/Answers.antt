-- `namesakes::is_named` meets its contract: a record whose kind has a name. Assumes nothing.
use Rattle.namesakes.proofs.Steps.{named_here}
use Rattle.namesakes.proofs.is_named.Goals as goal

pub returns : goal.returns
returns c = search named_here
