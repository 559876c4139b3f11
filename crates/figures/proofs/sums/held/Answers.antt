-- `figures::sums::held` meets its contract: the sum, or the largest number. Assumes nothing.
use native.Mathlib.Omega.{arith}
use Rattle.figures.proofs.Additions.{held_full, held_fits}
use Rattle.figures.proofs.sums.held.Goals as goal

pub returns-then-room-y : goal.returns-then-room-y
returns-then-room-y c = held_full _ _ (omega arith) (omega arith)

pub returns : goal.returns
returns c = held_fits _ _ (omega arith)
