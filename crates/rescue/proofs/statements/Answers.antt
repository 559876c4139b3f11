-- `rescue::statements` meets its contract: another root, or the children of a Statements. Assumes nothing.
use Rattle.rescue.proofs.Leaves.{statements_other, statements_kids}
use Rattle.rescue.proofs.statements.Goals as goal

pub returns-then-kind-ne-STATEMENTS : goal.returns-then-kind-ne-STATEMENTS
returns-then-kind-ne-STATEMENTS c = search statements_other

pub returns : goal.returns
returns c = search statements_kids
