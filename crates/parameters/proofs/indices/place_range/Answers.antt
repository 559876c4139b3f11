-- `parameters::indices::place_range` meets its contract: it is the definition, case by case. Assumes nothing.
use mathlib.Core.Path.{refl}
use Rattle.parameters.proofs.indices.place_range.Goals as goal

pub returns-in-Some : goal.returns-in-Some
returns-in-Some c = cc

pub returns-in-None : goal.returns-in-None
returns-in-None c = rw c.in-None.is refl
