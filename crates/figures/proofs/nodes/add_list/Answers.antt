-- `figures::nodes::add_list` meets its contract: the list and its modes. Assumes nothing.
use Rattle.figures.proofs.Lists.{told_ranged, list_added}
use Rattle.figures.proofs.nodes.add_list.Goals as goal

pub modes_of-requires : goal.modes_of-requires
modes_of-requires c = search told_ranged

pub returns : goal.returns
returns c = search list_added
