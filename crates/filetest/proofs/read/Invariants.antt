-- Each turn reads at least one byte more, and no more than the buffer holds.
use Rattle.std.proofs.Common.{length, ◌-◌, ◌≤◌}
use Rattle.filetest.proofs.read.Given as goal

abbrev pub invariant-loop-done : goal.invariant-loop-done
invariant-loop-done l = l.done ≤ length l.initial.space

abbrev pub decreases-loop-done : goal.decreases-loop-done
decreases-loop-done l = length l.initial.space - l.done
