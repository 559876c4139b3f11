-- `parameters::mode` meets its contract: it is the definition, kind by kind. Assumes nothing.

use Rattle.parameters.proofs.mode.Goals as goal

pub returns-in-Normal : goal.returns-in-Normal
returns-in-Normal c = cc
