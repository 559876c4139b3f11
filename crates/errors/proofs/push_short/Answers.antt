-- `errors::push_short` meets its contract: stores its words if they fit. Assumes nothing.
use lib.ListN.{length-set}
use native.Mathlib.Omega.{arith}
use Rattle.errors.proofs.Storing.{short_fits, short_full}
use Rattle.errors.proofs.push_short.Goals as goal

pub bounds-errors-1 : goal.bounds-errors-1
bounds-errors-1 c = simp length-set (omega arith)

pub bounds-errors-2 : goal.bounds-errors-2
bounds-errors-2 c = simp length-set (omega arith)

pub bounds-errors-3 : goal.bounds-errors-3
bounds-errors-3 c = simp length-set (omega arith)

pub returns-then-errors-ge-WIDTH : goal.returns-then-errors-ge-WIDTH
returns-then-errors-ge-WIDTH c = short_fits _ _ (omega arith)

pub returns-else-errors-ge-WIDTH : goal.returns-else-errors-ge-WIDTH
returns-else-errors-ge-WIDTH c = short_full _ _ (omega arith)
