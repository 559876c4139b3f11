-- `books::places::entry` meets its contract: the 24 bytes at that place. Assumes nothing.
use Rattle.books.proofs.Laws.{entry_is}
use Rattle.books.proofs.places.entry.Goals as goal

pub returns : goal.returns
returns c = search entry_is
