-- What the loop keeps.
use Rattle.books.proofs.Marking.{Once}
use Rattle.books.proofs.search.twice_among.Given as goal

abbrev pub invariant-loop-p : goal.invariant-loop-p
invariant-loop-p l = Once l.book l.initial.noted l.noted l.p
