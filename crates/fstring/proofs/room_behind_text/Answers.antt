-- `fstring::room_behind_text` meets its contract: the bytes that are left decide. Assumes nothing.
use Rattle.fstring.proofs.Sizes.{size_start, size_stop, size_on, size_end}
use Rattle.fstring.proofs.room_behind_text.Goals as goal

pub loop-c-init : goal.loop-c-init
loop-c-init c = search size_start

pub returns-then-spare-n : goal.returns-then-spare-n
returns-then-spare-n c = search size_stop

pub loop-c-preserved : goal.loop-c-preserved
loop-c-preserved c = search size_on

pub returns : goal.returns
returns c = search size_end
