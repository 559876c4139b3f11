-- What the loop keeps.
use Rattle.rescue.proofs.Leaves.{Gathering}
use Rattle.rescue.proofs.good_bytes.Given as goal

abbrev pub invariant-loop-number : goal.invariant-loop-number
invariant-loop-number l = Gathering l.bytes l.first l.total l.left l.number l.done
