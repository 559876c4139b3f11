-- `figures::nodes::add_nodes` meets its contract: the first i nodes are counted. Assumes nothing.
use Rattle.figures.proofs.ByKind.{walk_start, walk_node, walk_on, walk_end}
use Rattle.figures.proofs.nodes.add_nodes.Goals as goal

pub loop-i-init : goal.loop-i-init
loop-i-init c = search walk_start

pub add_node-requires : goal.add_node-requires
add_node-requires c = search walk_node

pub loop-i-preserved : goal.loop-i-preserved
loop-i-preserved c = search walk_on

pub returns : goal.returns
returns c = search walk_end
