-- `bind::reaching::reaches` meets its contract: by the argument's kind. Assumes nothing.
use Rattle.bind.proofs.Steps.{reach_positional, reach_named, reach_nowhere}
use Rattle.bind.proofs.reaching.reaches.Goals as goal

pub returns-in-60 : goal.returns-in-60
returns-in-60 c = search reach_positional

pub returns-in-61 : goal.returns-in-61
returns-in-61 c = search reach_named

pub returns-in_default : goal.returns-in_default
returns-in_default c = search reach_nowhere
