-- What the loop keeps.
use Rattle.deflist.proofs.Walking.{Judging}
use Rattle.deflist.proofs.walk.run.Given as goal

abbrev pub invariant-loop-i : goal.invariant-loop-i
invariant-loop-i l = (goal.iterator-loop-i).can_next l.i-iterator × Judging l.names l.kids l.first l.initial.marks
    l.initial.u l.marks l.u l.i-iterator.iter.nodes.left.now l.i-iterator.iter.nodes.at l.i-iterator.count
