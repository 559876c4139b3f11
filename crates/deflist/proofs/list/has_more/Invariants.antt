-- What the loop keeps.
use lib.ListN.{length}
use Rattle.deflist.proofs.Reading.{Limiting}
use Rattle.deflist.proofs.list.has_more.Given as goal

abbrev pub invariant-loop-left : goal.invariant-loop-left
invariant-loop-left l = Limiting l.most l.kids l.left l.n

abbrev pub decreases-loop-left : goal.decreases-loop-left
decreases-loop-left l = length l.left
