-- `table::depth::weight_of` meets its contract: the weight of the record's class. Assumes nothing.
use Rattle.table.proofs.Deep.{weighed}
use Rattle.table.proofs.depth.weight_of.Goals as goal

pub returns : goal.returns
returns c = weighed _ c.class.ensures c.class_weight.ensures
