-- `figures::nodes::lengths` meets its contract: the lengths of the ranges. Assumes nothing.
use Rattle.figures.proofs.Lists.{ranges_are}
use Rattle.figures.proofs.nodes.lengths.Goals as goal

pub returns : goal.returns
returns c = search ranges_are
