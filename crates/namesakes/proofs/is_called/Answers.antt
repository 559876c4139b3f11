-- `namesakes::is_called` meets its contract: one that is not ordinary has no name to compare. Assumes nothing.
use Rattle.bind.proofs.Steps.{takes_none, takes_tested}
use Rattle.namesakes.proofs.is_called.Goals as goal

pub returns-then-not-is_normal : goal.returns-then-not-is_normal
returns-then-not-is_normal c = takes_none c.is_normal.ensures _ c.if-not-is_normal.true

pub returns : goal.returns
returns c = search takes_tested
