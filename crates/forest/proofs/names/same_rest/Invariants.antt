-- What the loop keeps.
use Rattle.forest.proofs.Named.{Alike}
use Rattle.forest.proofs.names.same_rest.Given as goal

abbrev pub invariant-loop-i : goal.invariant-loop-i
invariant-loop-i l = Alike l.a l.b l.n l.i
