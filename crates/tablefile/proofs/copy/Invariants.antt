-- What the loop keeps.
use Rattle.tablefile.proofs.Copies.{Turns}
use Rattle.tablefile.proofs.copy.Given as goal

abbrev pub invariant-loop-i : goal.invariant-loop-i
invariant-loop-i l = Turns l.bytes l.initial.out l.first l.len l.out l.i
