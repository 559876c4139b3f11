-- `fstring::room_less` meets its contract: the test is that of the definition. Assumes nothing.
use Rattle.fstring.proofs.Sizes.{leaving_fits, leaving_short}
use Rattle.fstring.proofs.room_less.Goals as goal

pub returns-then-room-n : goal.returns-then-room-n
returns-then-room-n c = search leaving_short

pub returns : goal.returns
returns c = search leaving_fits
