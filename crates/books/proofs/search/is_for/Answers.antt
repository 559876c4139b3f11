-- `books::search::is_for` meets its contract: two fields, and whether it is empty. Assumes nothing.
use Rattle.books.proofs.Laws.{is_for_is}
use Rattle.books.proofs.search.is_for.Goals as goal

pub returns : goal.returns
returns c = search is_for_is
