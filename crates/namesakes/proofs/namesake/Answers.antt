-- `namesakes::namesake` meets its contract: an expression without a name has no namesake. Assumes nothing.
use Rattle.namesakes.proofs.Steps.{none_sought, one_sought}
use Rattle.namesakes.proofs.namesake.Goals as goal

pub returns-then-not-is_named : goal.returns-then-not-is_named
returns-then-not-is_named c = search none_sought

pub returns : goal.returns
returns c = search one_sought
