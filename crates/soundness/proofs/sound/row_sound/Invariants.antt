-- What the loop keeps.
use lib.ListN.{length}
use Rattle.soundness.proofs.Ranges.{Ranging}
use Rattle.soundness.proofs.sound.row_sound.Given as goal

abbrev pub invariant-loop-left : goal.invariant-loop-left
invariant-loop-left l = Ranging l.rule l.first l.others l.t l.left l.j l.ranges

abbrev pub decreases-loop-left : goal.decreases-loop-left
decreases-loop-left l = length l.left
