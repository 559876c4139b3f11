-- What the loop keeps.
use Rattle.writer.proofs.Laying.{Laying}
use Rattle.writer.proofs.lay.Given as goal

abbrev pub invariant-loop-i : goal.invariant-loop-i
invariant-loop-i l = Laying l.initial.out l.bytes l.at l.out l.sum l.i
