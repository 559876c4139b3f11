-- What the loop keeps.
use Prim.Native.Nat.{◌-◌}
use Rattle.soundness.proofs.Records.{Searching}
use Rattle.soundness.proofs.sound.first_from.Given as goal

abbrev pub invariant-loop-i : goal.invariant-loop-i
invariant-loop-i l = Searching l.t l.names l.first l.whole l.n l.i l.end l.file

abbrev pub decreases-loop-i : goal.decreases-loop-i
decreases-loop-i l = l.n - l.i
