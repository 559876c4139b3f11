-- `table::stretch` meets its contract: the part is the subtree, as much of it as is there. Assumes nothing.
use Rattle.table.proofs.Nodes.{stretch_beyond, stretch_rest, stretch_inside}
use Rattle.table.proofs.stretch.Goals as goal

pub returns-then-table-node : goal.returns-then-table-node
returns-then-table-node c = search stretch_beyond

pub returns-then-table-e : goal.returns-then-table-e
returns-then-table-e c = search stretch_rest

pub returns : goal.returns
returns c = search stretch_inside
