-- `forest::marks::tells` meets its contract: it is the definition. Assumes nothing.
use borrow.Author.Rules.{rules}
use Rattle.forest.specs.Marks.{tells}
use Rattle.forest.proofs.marks.tells.Goals as goal

pub returns : goal.returns
unfolding tells
returns c = search rules
