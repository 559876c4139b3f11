-- Each turn reads at least one byte more, and no more than the buffer holds.
use Rattle.std.proofs.Common.{length, ◌-◌, ◌≤◌}
use Rattle.tablecheck.proofs.fill.Given as goal

abbrev pub invariant-loop-done : goal.invariant-loop-done
invariant-loop-done g l = l.done ≤ length l.initial.file

abbrev pub decreases-loop-done : goal.decreases-loop-done
decreases-loop-done g l = length l.initial.file - l.done
