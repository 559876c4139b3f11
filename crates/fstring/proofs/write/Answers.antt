-- `fstring::write` meets its contract: a refusal is returned as it is, and an accepted text is written. Assumes
-- nothing.
use Rattle.fstring.proofs.Jobs.{write_refused, write_whole, write_room, write_done}
use Rattle.fstring.proofs.write.Goals as goal

pub returns-then-is_refused : goal.returns-then-is_refused
returns-then-is_refused c = search write_refused

pub write_parts-requires : goal.write_parts-requires
write_parts-requires c = search (write_whole, write_room)

pub returns : goal.returns
returns c = search write_done
