-- What the loop keeps.
use Rattle.books.proofs.Laws.{Unseen}
use Rattle.books.proofs.search.seen_in.Given as goal

abbrev pub invariant-loop-q : goal.invariant-loop-q
invariant-loop-q l = Unseen l.zone l.setting l.book l.n l.q
