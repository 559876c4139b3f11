-- `deflist::children` meets its contract: the part is the children, none where there is no record. Assumes nothing.
use Rattle.deflist.proofs.Parts.{children_none, children_some}
use Rattle.deflist.proofs.children.Goals as goal

pub returns-then-e-lt-RECORD : goal.returns-then-e-lt-RECORD
returns-then-e-lt-RECORD c = search children_none

pub returns : goal.returns
returns c = search children_some
