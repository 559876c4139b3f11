-- `bind::is_def` meets its contract: within the table the kind decides. Assumes nothing.
use Rattle.bind.proofs.Steps.{def_beyond, def_here}
use Rattle.bind.proofs.is_def.Goals as goal

pub returns-then-table-node : goal.returns-then-table-node
returns-then-table-node c = search def_beyond

pub returns : goal.returns
returns c = search def_here
