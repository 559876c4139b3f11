-- What the loop keeps.
use Rattle.blocks.proofs.Judging.{Padding}
use Rattle.blocks.proofs.padded.Given as goal

abbrev pub invariant-loop-p : goal.invariant-loop-p
invariant-loop-p l = Padding l.b l.from l.total l.p
