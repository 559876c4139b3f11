-- What the loop keeps.
use Rattle.arguments.proofs.Walking.{Walking}
use Rattle.arguments.proofs.in_turn.Given as goal

abbrev pub invariant-loop-n : goal.invariant-loop-n
invariant-loop-n l = (goal.iterator-loop-n).can_next l.n-iterator × (
    Walking l.names l.args l.first l.initial.noted l.noted l.w l.n-iterator.iter.left.now l.n-iterator.iter.at
    l.n-iterator.count)
