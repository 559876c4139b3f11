-- What the loop keeps.
use Rattle.bind.proofs.Loops.{Emptying}
use Rattle.bind.proofs.walk.first_empty.Given as goal

abbrev pub invariant-loop-at : goal.invariant-loop-at
invariant-loop-at l = Emptying l.params l.first l.words l.at-iterator.nodes.left.now l.at-iterator.nodes.at l.flat
