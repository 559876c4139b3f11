-- What the loop keeps.
use Prim.Native.Nat.{◌-◌}
use Rattle.blocks.proofs.Sums.{Adding}
use Rattle.blocks.proofs.part_sum.Given as goal

abbrev pub invariant-loop-at : goal.invariant-loop-at
invariant-loop-at l = Adding l.b l.from l.to l.sum l.at

abbrev pub decreases-loop-at : goal.decreases-loop-at
decreases-loop-at l = l.to - l.at
