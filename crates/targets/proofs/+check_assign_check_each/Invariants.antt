-- What decreases, and what the loops keep.
use lib.ListN.{length}
use Prim.Native.Nat.{◌+◌, ◌*◌}
use Rattle.targets.proofs.Counts.{Counting}
use Rattle.targets.proofs.+check_assign_check_each.Given as goal

abbrev pub decreases-check_assign : goal.decreases-check_assign
decreases-check_assign l = 2 * length l.t.now

abbrev pub decreases-check_each : goal.decreases-check_each
decreases-check_each l = 2 * length l.t.now + 1

abbrev pub invariant-check_each-loop-at : goal.invariant-check_each-loop-at
invariant-check_each-loop-at l =
    Counting l.t l.node l.count l.at-iterator.left.now l.at-iterator.at l.leaves
