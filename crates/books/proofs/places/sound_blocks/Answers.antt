-- `books::places::sound_blocks` meets its contract: true exactly if the run passes. Assumes nothing.
use Rattle.books.proofs.Laws.{blocks_passed, blocks_refused}
use Rattle.books.proofs.places.sound_blocks.Goals as goal

pub returns-in-Ok : goal.returns-in-Ok
returns-in-Ok c = search blocks_passed

pub returns-in-Err : goal.returns-in-Err
returns-in-Err c = search blocks_refused
