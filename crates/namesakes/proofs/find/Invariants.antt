-- What the loop keeps.
use Rattle.namesakes.proofs.Loops.{Finding}
use Rattle.namesakes.proofs.find.Given as goal

abbrev pub invariant-loop-left : goal.invariant-loop-left
invariant-loop-left l = Finding l.names l.name l.params l.left-iterator.nodes.left.now l.flat
