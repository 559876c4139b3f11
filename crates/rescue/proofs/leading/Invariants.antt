-- What the loop keeps.
use Rattle.rescue.proofs.Walking.{Walking}
use Rattle.rescue.proofs.leading.Given as goal

abbrev pub invariant-loop-left : goal.invariant-loop-left
invariant-loop-left l = Walking l.names l.row l.left-iterator.left.now l.done
