-- `books::places::sound_entry` meets its contract: four tests. Assumes nothing.
use Rattle.books.proofs.Laws.{sound_entry_is}
use Rattle.books.proofs.places.sound_entry.Goals as goal

pub returns : goal.returns
returns c = search sound_entry_is
