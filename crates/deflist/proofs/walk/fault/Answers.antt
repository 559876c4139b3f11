-- `deflist::walk::fault` meets its contract: it is the definition, field by field. Assumes nothing.

use Rattle.deflist.proofs.walk.fault.Goals as goal

pub returns : goal.returns
returns c = cc
