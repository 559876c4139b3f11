-- `parameters::place_of` meets its contract: it is the definition, case by case. Assumes nothing.
use native.Mathlib.Omega.{arith}
use Rattle.parameters.proofs.place_of.Goals as goal

pub number-requires : goal.number-requires
number-requires c = let b = rw c.in-Some.is at c.requires in omega (arith, b)

pub returns-in-Some : goal.returns-in-Some
returns-in-Some c = cc
