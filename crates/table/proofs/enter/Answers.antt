-- `table::enter` meets its contract: 1 to 4, then 6. Assumes nothing.
use Rattle.std.proofs.Common.{rules}
use Rattle.table.proofs.Entering.{entry_refused, entry_node, entry_passed}
use Rattle.table.proofs.enter.Goals as goal

pub returns-in_err-check : goal.returns-in_err-check
returns-in_err-check c = search (rules, entry_refused)

pub returns-then-not-node_fits : goal.returns-then-not-node_fits
returns-then-not-node_fits c = search (rules, entry_node)

pub returns : goal.returns
returns c = search (rules, entry_passed)
