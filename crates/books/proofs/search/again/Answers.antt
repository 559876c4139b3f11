-- `books::search::again` meets its contract: the entry is searched for only if it may occur before. Assumes nothing.
use borrow.Author.Tests.{not-true}
use Rattle.books.proofs.Marking.{again_not, again_seen}
use Rattle.books.proofs.search.again.Goals as goal

pub returns-then-not-may : goal.returns-then-not-may
returns-then-not-may c = search (again_not, not-true)

pub returns : goal.returns
returns c = search again_seen
