-- `errors::push_long` meets its contract: stores its words if they fit. Assumes nothing.
use lib.ListN.{length-set}
use native.Mathlib.Omega.{arith}
use Rattle.errors.proofs.Storing.{long_fits, long_full}
use Rattle.errors.proofs.push_long.Goals as goal

pub bounds-errors-1 : goal.bounds-errors-1
bounds-errors-1 c = simp length-set (omega arith)

pub bounds-errors-2 : goal.bounds-errors-2
bounds-errors-2 c = simp length-set (omega arith)

pub bounds-errors-3 : goal.bounds-errors-3
bounds-errors-3 c = simp length-set (omega arith)

pub bounds-errors-4 : goal.bounds-errors-4
bounds-errors-4 c = simp length-set (omega arith)

pub returns-then-errors-ge-WIDTH_WITH_NODE : goal.returns-then-errors-ge-WIDTH_WITH_NODE
returns-then-errors-ge-WIDTH_WITH_NODE c = long_fits _ _ (omega arith)

pub returns-else-errors-ge-WIDTH_WITH_NODE : goal.returns-else-errors-ge-WIDTH_WITH_NODE
returns-else-errors-ge-WIDTH_WITH_NODE c = long_full _ _ (omega arith)
