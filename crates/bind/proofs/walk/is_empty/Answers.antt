-- `bind::walk::is_empty` meets its contract: it is the definition, case by case. Assumes nothing.

use Rattle.bind.proofs.walk.is_empty.Goals as goal

pub returns-in-Normal : goal.returns-in-Normal
returns-in-Normal c = cc
