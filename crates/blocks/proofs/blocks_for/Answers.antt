-- `blocks::blocks_for` meets its contract: the full blocks, and one more for a remainder. Assumes nothing.
use borrow.Author.Rules.{rules}
use Rattle.blocks.specs.Run.{blocks_for}
use Rattle.blocks.proofs.blocks_for.Goals as goal

pub returns-then-total-eq0 : goal.returns-then-total-eq0
unfolding blocks_for
returns-then-total-eq0 c = search rules

pub returns : goal.returns
unfolding blocks_for
returns c = search rules
