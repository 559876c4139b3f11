-- `figures::add_all` meets its contract: it adds the nodes, what is counted node by node, and the errors. Assumes
-- nothing.
use Rattle.figures.proofs.Totals.{all_added, table_few}
use Rattle.figures.proofs.add_all.Goals as goal

pub add_errors-requires : goal.add_errors-requires
add_errors-requires c = search table_few

pub returns : goal.returns
returns c =
    let add-nodes = c.add_nodes in
    let add = c.add in
    all_added _ _ _ _ add.ensures add-nodes.ensures c.add_errors.ensures
