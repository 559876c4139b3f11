-- `table::node_of` meets its contract: 3 and 4, and what has a span, carry a node. Assumes nothing.
use Rattle.table.proofs.Answers.{node_placed, node_spanned}
use Rattle.table.proofs.node_of.Goals as goal

pub returns-in-Placed : goal.returns-in-Placed
returns-in-Placed c = search node_placed

pub returns-in-Spanned : goal.returns-in-Spanned
returns-in-Spanned c = search node_spanned
