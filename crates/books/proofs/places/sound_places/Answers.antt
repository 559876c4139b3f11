-- `books::places::sound_places` meets its contract: the earlier places are sound (`Sounding`). Assumes nothing.
use Rattle.books.proofs.Laws.{sounding_start, sounding_stop, sounding_on, sounding_end}
use Rattle.books.proofs.places.sound_places.Goals as goal

pub loop-p-init : goal.loop-p-init
loop-p-init c = sounding_start _ _

pub returns-then-not-sound_place : goal.returns-then-not-sound_place
returns-then-not-sound_place c = search sounding_stop

pub loop-p-preserved : goal.loop-p-preserved
loop-p-preserved c = search sounding_on

pub returns : goal.returns
returns c = search sounding_end
