-- `books::change::put_entry` meets its contract: the place is written, then the sum. Assumes nothing.
use Rattle.books.proofs.Changing.{put_entry_is}
use Rattle.books.proofs.change.put_entry.Goals as goal

pub returns : goal.returns
returns c = search put_entry_is
