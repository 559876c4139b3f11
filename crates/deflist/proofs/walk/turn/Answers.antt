-- `deflist::walk::turn` meets its contract: 11 carries the earlier node, the others none. Assumes nothing.
use Rattle.deflist.proofs.Walking.{turn_fine, turn_broken, turn_repeated}
use Rattle.deflist.proofs.walk.turn.Goals as goal

pub returns-in-Fine : goal.returns-in-Fine
returns-in-Fine c = search turn_fine

pub returns-in-Broken : goal.returns-in-Broken
returns-in-Broken c = search turn_broken

pub returns-in-Repeated : goal.returns-in-Repeated
returns-in-Repeated c = search turn_repeated
