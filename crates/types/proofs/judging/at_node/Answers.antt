-- `types::judging::at_node` meets its contract: each form has its own test. Assumes nothing.
use Rattle.types.specs.Types.{at_node}
use Rattle.types.proofs.Bases.{at_form}
use Rattle.types.proofs.judging.at_node.Goals as goal

pub returns-in-Ellipsis : goal.returns-in-Ellipsis
unfolding at_node
returns-in-Ellipsis c = search at_form

pub returns-in-Path : goal.returns-in-Path
unfolding at_node
returns-in-Path c = search at_form

pub returns-in-Index : goal.returns-in-Index
unfolding at_node
returns-in-Index c = search at_form

pub returns-in-Index2 : goal.returns-in-Index2
unfolding at_node
returns-in-Index2 c = search at_form

pub returns-in-List : goal.returns-in-List
unfolding at_node
returns-in-List c = search at_form

pub returns-in-Union : goal.returns-in-Union
unfolding at_node
returns-in-Union c = search at_form

pub returns-in-Tuple : goal.returns-in-Tuple
unfolding at_node
returns-in-Tuple c = search at_form

pub returns-in-Other : goal.returns-in-Other
unfolding at_node
returns-in-Other c = search at_form
