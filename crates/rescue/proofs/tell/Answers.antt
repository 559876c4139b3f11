-- `rescue::tell` meets its contract: each field is a number of the list. Assumes nothing.

use Rattle.rescue.proofs.tell.Goals as goal

pub returns : goal.returns
returns c = cc
