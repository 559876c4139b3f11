-- What the loop keeps.
use Rattle.table.proofs.Naming.{Searching}
use Rattle.table.proofs.named.first_named.Given as goal

abbrev pub invariant-loop-i : goal.invariant-loop-i
invariant-loop-i l = Searching l.entries l.names l.name l.t l.n l.left l.at l.i
