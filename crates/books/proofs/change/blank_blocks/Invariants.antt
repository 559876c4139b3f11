-- What the loop keeps.
use Rattle.books.proofs.Blanks.{Blanking}
use Rattle.books.proofs.change.blank_blocks.Given as goal

abbrev pub invariant-loop-k : goal.invariant-loop-k
invariant-loop-k l = Blanking l.initial.book l.n l.book l.k
