-- What the loop keeps.
use Rattle.books.specs.Book.{places_of}
use Rattle.books.specs.Change.{empty_at}
use Rattle.books.proofs.Changing.{Finding}
use Rattle.books.proofs.search.first_empty.Given as goal

abbrev pub invariant-loop-p : goal.invariant-loop-p
invariant-loop-p l = Finding (empty_at l.book) (places_of l.book) l.first l.p
