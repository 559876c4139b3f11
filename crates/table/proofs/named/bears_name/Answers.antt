-- `table::named::bears_name` meets its contract: it is the definition, list by list. Assumes nothing.
use mathlib.Core.Path.{refl}
use Rattle.table.specs.Naming.{bears_name}
use Rattle.table.proofs.named.bears_name.Goals as goal

pub returns-in-Parameters : goal.returns-in-Parameters
unfolding bears_name
returns-in-Parameters c = rw c.in-Parameters.is refl

pub returns-in-Arguments : goal.returns-in-Arguments
unfolding bears_name
returns-in-Arguments c = rw c.in-Arguments.is refl
