-- What the loop keeps.
use Rattle.validate.proofs.Plain.{Seeking}
use Rattle.validate.proofs.statements.has_statement.Given as goal

abbrev pub invariant-loop-left : goal.invariant-loop-left
invariant-loop-left l = Seeking l.t l.left-iterator.left.now
