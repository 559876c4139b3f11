-- `dialect::row_named` meets its contract: in each arm the row of the table is the name's row. Assumes nothing.
use native.Mathlib.Omega.{arith}
use Rattle.dialect.proofs.row_named.Goals as goal

pub bounds-0 : goal.bounds-0
bounds-0 c = omega arith

pub bounds-1 : goal.bounds-1
bounds-1 c = omega arith

pub bounds-2 : goal.bounds-2
bounds-2 c = omega arith
