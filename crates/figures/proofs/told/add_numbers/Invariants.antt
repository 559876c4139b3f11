-- What the loop keeps.
use Rattle.figures.proofs.Occurring.{Counting}
use Rattle.figures.proofs.told.add_numbers.Given as goal

abbrev pub invariant-loop-i : goal.invariant-loop-i
invariant-loop-i l = Counting l.initial.figures l.found l.figures l.i
