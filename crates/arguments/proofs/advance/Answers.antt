-- `arguments::advance` meets its contract: it is the definition, field by field. Assumes nothing.
use Rattle.arguments.specs.Call.{advance}
use Rattle.arguments.proofs.advance.Goals as goal

pub returns : goal.returns
unfolding advance
returns c = cc
