-- `books::search::note` meets its contract: an empty place is not marked, any other by its six bytes. Assumes nothing.
use Rattle.books.proofs.Marking.{empty_new, empty_stays, note_may, note_set}
use Rattle.books.proofs.search.note.Goals as goal

pub returns-then-empty : goal.returns-then-empty
returns-then-empty c = search (empty_new, empty_stays)

pub returns : goal.returns
returns c = search (note_may, note_set)
