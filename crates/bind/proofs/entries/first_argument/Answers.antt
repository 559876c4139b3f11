-- `bind::entries::first_argument` meets its contract: the nodes of the callee are passed. Assumes nothing.

use Rattle.bind.proofs.entries.first_argument.Goals as goal

pub returns : goal.returns
returns c = cc
