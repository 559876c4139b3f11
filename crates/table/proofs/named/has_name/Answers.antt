-- `table::named::has_name` meets its contract: an entry that bears no name has none. Assumes nothing.
use Rattle.table.proofs.Naming.{name_none, name_tested}
use Rattle.table.proofs.named.has_name.Goals as goal

pub returns-then-not-bears_name : goal.returns-then-not-bears_name
returns-then-not-bears_name c = search name_none

pub returns : goal.returns
returns c = search name_tested
