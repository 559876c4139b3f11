-- What the loop keeps.
use Rattle.books.proofs.Laws.{Best}
use Rattle.books.proofs.search.best_in.Given as goal

abbrev pub invariant-loop-p : goal.invariant-loop-p
invariant-loop-p l = Best l.zone l.setting l.book l.best l.top l.p
