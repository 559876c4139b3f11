-- `table::wanted_kind` meets its contract: each arm is one case of the definition. Assumes nothing.
use mathlib.Core.Path.{refl}
use Rattle.table.specs.Check.{wants}
use Rattle.table.proofs.wanted_kind.Goals as goal

pub returns-in-Parameters : goal.returns-in-Parameters
unfolding wants
returns-in-Parameters c = rw c.in-Parameters.is refl

pub returns-in-Call : goal.returns-in-Call
unfolding wants
returns-in-Call c = rw c.in-Call.is refl

pub returns-in-Assignment : goal.returns-in-Assignment
unfolding wants
returns-in-Assignment c = rw c.in-Assignment.is refl

pub returns-in-Expression : goal.returns-in-Expression
unfolding wants
returns-in-Expression c = cc
