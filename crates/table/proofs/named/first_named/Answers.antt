-- `table::named::first_named` meets its contract: the entries that are left decide. Assumes nothing.
use Rattle.table.proofs.Naming.{search_start, search_short, search_here, search_on, search_end}
use Rattle.table.proofs.named.first_named.Goals as goal

pub loop-i-init : goal.loop-i-init
loop-i-init c = search search_start

pub returns-then-left-lt-RECORD : goal.returns-then-left-lt-RECORD
returns-then-left-lt-RECORD c = search search_short

pub returns-then-has_name : goal.returns-then-has_name
returns-then-has_name c = search search_here

pub loop-i-preserved : goal.loop-i-preserved
loop-i-preserved c = search search_on

pub returns : goal.returns
returns c = search search_end
