-- `writer::is_byte` meets its contract: it is the definition. Assumes nothing.
use Rattle.writer.proofs.Building.{byte_number}
use Rattle.writer.proofs.is_byte.Goals as goal

pub returns-in-Some : goal.returns-in-Some
returns-in-Some c = search byte_number
