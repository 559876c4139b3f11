-- What the loop keeps.
use Rattle.books.specs.Book.{places_of}
use Rattle.books.specs.Change.{for_at}
use Rattle.books.proofs.Changing.{Searching}
use Rattle.books.proofs.search.first_for.Given as goal

abbrev pub invariant-loop-p : goal.invariant-loop-p
invariant-loop-p l = Searching (for_at l.zone l.setting l.book) (places_of l.book) l.p
