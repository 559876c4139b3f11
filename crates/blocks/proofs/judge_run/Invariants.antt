-- What the loop keeps.
use Rattle.blocks.proofs.Runs.{Running}
use Rattle.blocks.proofs.judge_run.Given as goal

abbrev pub invariant-loop-number : goal.invariant-loop-number
invariant-loop-number l = Running l.bytes l.first l.total l.left l.number l.more
