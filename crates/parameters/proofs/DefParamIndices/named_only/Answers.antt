-- `parameters::DefParamIndices::named_only` meets its contract: it lies between the ranges beside it. Assumes nothing.

use Rattle.parameters.proofs.DefParamIndices.named_only.Goals as goal

pub returns : goal.returns
returns c = cc
