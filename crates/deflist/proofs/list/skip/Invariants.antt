-- What the loop keeps.
use Rattle.deflist.proofs.Reading.{Skipping}
use Rattle.deflist.proofs.list.skip.Given as goal

abbrev pub invariant-loop : goal.invariant-loop
invariant-loop l = Skipping l.kids l.fn.n.0 l.at l.counter
