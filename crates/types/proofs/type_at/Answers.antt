-- `types::type_at` meets its contract: 6, 7, then the type at the node. Assumes nothing.
use Rattle.types.proofs.Jobs.{at_no_node, at_short, at_type, at_long, at_within}
use Rattle.types.proofs.type_at.Goals as goal

pub returns-then-not-node_fits : goal.returns-then-not-node_fits
returns-then-not-node_fits c = search at_no_node

pub returns-then-room-t : goal.returns-then-room-t
returns-then-room-t c = search at_short

pub dialect_check_type-requires : goal.dialect_check_type-requires
dialect_check_type-requires c = search (at_long, at_within)

pub returns : goal.returns
returns c = search at_type
