-- Each turn reads at least one byte more.
use Rattle.std.proofs.Common.{length, ◌-◌}
use Rattle.tablefigures.proofs.fill.Given as goal

abbrev pub decreases-loop-done : goal.decreases-loop-done
decreases-loop-done g l = length l.initial.buffer - l.done
