-- `books::change::entry_of` meets its contract: zone, setting and dialect are written over zeros. Assumes nothing.
use Rattle.books.proofs.Changing.{entry_built}
use Rattle.books.proofs.change.entry_of.Goals as goal

pub returns : goal.returns
returns c = search entry_built
