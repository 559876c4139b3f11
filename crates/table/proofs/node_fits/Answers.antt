-- `table::node_fits` meets its contract: within the table the kind decides. Assumes nothing.
use Rattle.table.proofs.Nodes.{node_beyond, node_here}
use Rattle.table.proofs.node_fits.Goals as goal

pub returns-then-table-node : goal.returns-then-table-node
returns-then-table-node c = node_beyond _ _ _ c.if-table-node.true

pub returns : goal.returns
returns c = search node_here
