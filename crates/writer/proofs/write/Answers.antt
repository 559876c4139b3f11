-- `writer::write` meets its contract: a refusal is returned, else the file is written. Assumes nothing.
use Rattle.writer.proofs.Jobs.{write_refused, write_nine, write_byte, write_few, write_room, write_done}
use Rattle.writer.proofs.write.Goals as goal

pub returns-then-is_refused : goal.returns-then-is_refused
returns-then-is_refused c = search write_refused

pub write_file-requires : goal.write_file-requires
write_file-requires c = search (write_nine, write_byte, write_few, write_room)

pub returns : goal.returns
returns c = search write_done
