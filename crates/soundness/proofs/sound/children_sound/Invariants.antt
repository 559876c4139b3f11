-- What the loop keeps.
use lib.ListN.{length}
use Rattle.soundness.specs.Packed.{children_of}
use Rattle.soundness.proofs.Records.{Fitting}
use Rattle.soundness.proofs.sound.children_sound.Given as goal

abbrev pub invariant-loop-left : goal.invariant-loop-left
invariant-loop-left l = Fitting (children_of l.rule) l.t l.left l.j

abbrev pub decreases-loop-left : goal.decreases-loop-left
decreases-loop-left l = length l.left
