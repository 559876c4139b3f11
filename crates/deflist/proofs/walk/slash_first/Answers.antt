-- `deflist::walk::slash_first` meets its contract: it is the definition. Assumes nothing.
use Rattle.deflist.specs.Reading.{begins_with_slash}
use Rattle.deflist.proofs.walk.slash_first.Goals as goal

pub returns : goal.returns
unfolding begins_with_slash
returns c = cc
