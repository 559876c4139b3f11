-- What the loop keeps.
use Rattle.fstring.proofs.Laying.{Laying}
use Rattle.fstring.proofs.write_text.Given as goal

abbrev pub invariant-loop-c : goal.invariant-loop-c
invariant-loop-c l = Laying l.initial.out l.bytes l.at l.out l.p l.c-index
