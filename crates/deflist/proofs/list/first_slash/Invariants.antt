-- What the loop keeps.
use Rattle.deflist.proofs.Reading.{Slashing}
use Rattle.deflist.proofs.list.first_slash.Given as goal

abbrev pub invariant-loop-i : goal.invariant-loop-i
invariant-loop-i l =
    (goal.iterator-loop-i).can_next l.i-iterator × Slashing l.kids l.i-iterator.iter.nodes.left.now l.i-iterator.count
