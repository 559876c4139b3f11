-- What the loop keeps.
use Rattle.bind.proofs.Loops.{Finding}
use Rattle.bind.proofs.reaching.find.Given as goal

abbrev pub invariant-loop-left : goal.invariant-loop-left
invariant-loop-left l = Finding l.names l.name l.params l.initial.state l.left-iterator.nodes.left.now l.state l.flat
