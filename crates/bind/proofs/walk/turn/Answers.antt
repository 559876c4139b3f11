-- `bind::walk::turn` meets its contract: by what the argument reaches. Assumes nothing.
use Rattle.bind.proofs.Steps.{turn_filling, turn_joins, turn_nowhere}
use Rattle.bind.proofs.walk.turn.Goals as goal

pub returns-in-Fills : goal.returns-in-Fills
returns-in-Fills c = search turn_filling

pub returns-in-Joins : goal.returns-in-Joins
returns-in-Joins c = search turn_joins

pub returns-in-Nowhere : goal.returns-in-Nowhere
returns-in-Nowhere c = search turn_nowhere
