-- `table::within` meets its contract: all of the bytes, or the front of them. Assumes nothing.
use Rattle.table.proofs.Heads.{all_within}
use Rattle.table.proofs.within.Goals as goal

pub returns-then-t-le-MOST_BYTES : goal.returns-then-t-le-MOST_BYTES
returns-then-t-le-MOST_BYTES c = search all_within
