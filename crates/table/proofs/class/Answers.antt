-- `table::class` meets its contract: it is the class of the first record's kind. Assumes nothing.

use Rattle.table.proofs.class.Goals as goal

pub returns : goal.returns
returns c = cc
