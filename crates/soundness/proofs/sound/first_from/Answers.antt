-- `soundness::sound::first_from` meets its contract: the records that are left decide, and what is kept of the source
-- files is that of the record before. Assumes nothing.
use Rattle.soundness.proofs.Records.{search_start, search_here, search_on, search_end}
use Rattle.soundness.proofs.sound.first_from.Goals as goal

pub loop-i-init : goal.loop-i-init
loop-i-init c = search_start _ _ _ _ _

pub returns-then-not-record_sound : goal.returns-then-not-record_sound
returns-then-not-record_sound c = let turn = c.turn-within in search (search_here, turn.ensures)

pub loop-i-preserved : goal.loop-i-preserved
loop-i-preserved c = let turn = c.turn-within in search (search_on, turn.ensures)

pub returns : goal.returns
returns c = search search_end
