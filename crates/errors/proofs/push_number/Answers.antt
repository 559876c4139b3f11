-- `errors::push_number` meets its contract: stores its one word if it fits. Assumes nothing.
use native.Mathlib.Omega.{arith}
use Rattle.errors.proofs.Storing.{number_fits, number_full}
use Rattle.errors.proofs.push_number.Goals as goal

pub returns-then-errors-ge1 : goal.returns-then-errors-ge1
returns-then-errors-ge1 c = number_fits _ _ (omega arith)

pub returns-else-errors-ge1 : goal.returns-else-errors-ge1
returns-else-errors-ge1 c = number_full _ _ (omega arith)
