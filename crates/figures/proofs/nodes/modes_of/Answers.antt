-- `figures::nodes::modes_of` meets its contract: the lengths of the ranges, or zeros. Assumes nothing.
use Rattle.figures.proofs.Lists.{ranged_accepted, counts_accepted, counts_refused}
use Rattle.figures.proofs.nodes.modes_of.Goals as goal

pub lengths-requires : goal.lengths-requires
lengths-requires c = search ranged_accepted

pub returns-in-Ok : goal.returns-in-Ok
returns-in-Ok c = search counts_accepted

pub returns-in-Err : goal.returns-in-Err
returns-in-Err c = search counts_refused
