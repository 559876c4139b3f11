-- What the loop keeps.
use Rattle.blocks.proofs.Laying.{Putting}
use Rattle.blocks.proofs.bytes.lay.Given as goal

abbrev pub invariant-loop-i : goal.invariant-loop-i
invariant-loop-i l = Putting l.initial.out l.bytes l.at l.out l.i
