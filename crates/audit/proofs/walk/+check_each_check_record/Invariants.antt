-- What decreases, and what the loops keep.
use lib.ListN.{length}
use Prim.Native.Nat.{◌+◌, ◌*◌}
use Rattle.forest.specs.Forest.{forest}
use Rattle.audit.specs.Roles.{placed}
use Rattle.audit.specs.Refusals.{refusals}
use Rattle.audit.proofs.Walks.{Auditing}
use Rattle.audit.proofs.walk.+check_each_check_record.Given as goal

abbrev pub decreases-check_each : goal.decreases-check_each
decreases-check_each l = 2 * length l.t.now + 1

abbrev pub decreases-check_record : goal.decreases-check_record
decreases-check_record l = 2 * length l.t.now

abbrev pub invariant-check_each-loop-left : goal.invariant-check_each-loop-left
invariant-check_each-loop-left l =
    Auditing l.d l.edition l.names
    (refusals l.d l.edition l.names (placed l.initial.roles (forest l.at l.t))) l.t l.initial.errors l.left l.place
    l.roles l.total l.errors

abbrev pub decreases-check_each-loop-left : goal.decreases-check_each-loop-left
decreases-check_each-loop-left l = length l.left
