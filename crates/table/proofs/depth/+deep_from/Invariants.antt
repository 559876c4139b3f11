-- What decreases, and what the loops keep.
use lib.ListN.{length}
use Rattle.table.proofs.Deep.{Searching}
use Rattle.table.proofs.depth.+deep_from.Given as goal

abbrev pub decreases-deep_from : goal.decreases-deep_from
decreases-deep_from l = length l.t.now

abbrev pub invariant-loop-i : goal.invariant-loop-i
invariant-loop-i l = Searching l.t l.at l.depth l.i-iterator.left.now l.i-iterator.at
