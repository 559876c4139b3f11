-- `books::places::sound_place` meets its contract: two tests. Assumes nothing.
use Rattle.books.proofs.Laws.{sound_place_is}
use Rattle.books.proofs.places.sound_place.Goals as goal

pub returns : goal.returns
returns c = search sound_place_is
