-- `bind::reaching::collected` meets its contract: it is the definition, case by case. Assumes nothing.

use Rattle.bind.proofs.reaching.collected.Goals as goal

pub returns-in-Some : goal.returns-in-Some
returns-in-Some c = cc
