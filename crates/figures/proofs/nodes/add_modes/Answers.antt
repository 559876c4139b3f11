-- `figures::nodes::add_modes` meets its contract: five counters, one after another. Assumes nothing.
use Rattle.figures.proofs.Lists.{modes_added}
use Rattle.figures.proofs.nodes.add_modes.Goals as goal

pub returns : goal.returns
returns c =
    let add4 = c.add-4 in
    let add3 = c.add-3 in
    let add2 = c.add-2 in
    let add = c.add in
    modes_added _ _ _ _ _ _ add.ensures add2.ensures add3.ensures add4.ensures c.add-5.ensures
