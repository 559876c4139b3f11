-- `fstring::write_text` meets its contract: the rest of the text, laid over the buffer as it is, gives the buffer at
-- exit. Assumes nothing.
use Rattle.fstring.proofs.Laying.{lay_start, lay_long, lay_room, lay_on, lay_end}
use Rattle.fstring.proofs.write_text.Goals as goal

pub loop-c-init : goal.loop-c-init
loop-c-init c = search lay_start

pub write_byte-p-requires : goal.write_byte-p-requires
write_byte-p-requires c = search lay_room

pub loop-c-preserved : goal.loop-c-preserved
loop-c-preserved c = search lay_on

pub shape_of-out : goal.shape_of-out
shape_of-out c = search lay_long

pub returns : goal.returns
returns c = let all = lay_end c.loop-c.invariant c.loop-c-test.false in record { value = all.0; out_after = all.1 }
