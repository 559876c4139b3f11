-- `bind::reaching::takes` meets its contract: one that cannot be named has no name to compare. Assumes nothing.
use Rattle.bind.proofs.Steps.{takes_none, takes_tested}
use Rattle.bind.proofs.reaching.takes.Goals as goal

pub returns-then-not-nameable : goal.returns-then-not-nameable
returns-then-not-nameable c = takes_none c.nameable.ensures _ c.if-not-nameable.true

pub returns : goal.returns
returns c = search takes_tested
