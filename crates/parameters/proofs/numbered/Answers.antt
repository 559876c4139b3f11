-- `parameters::numbered` meets its contract: it is the definition, field by field. Assumes nothing.
use Rattle.parameters.specs.Indices.{counted_of}
use Rattle.parameters.proofs.numbered.Goals as goal

pub returns : goal.returns
unfolding counted_of
returns c = cc
