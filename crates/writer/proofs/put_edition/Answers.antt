-- `writer::put_edition` meets its contract: one byte is written, or none. Assumes nothing.
use Rattle.writer.proofs.Building.{byte_small, edition_put, edition_behind, edition_kept, edition_here}
use Rattle.writer.proofs.put_edition.Goals as goal

pub overflow_cast-out : goal.overflow_cast-out
overflow_cast-out c = record { fits = search byte_small }

pub returns-in-Some : goal.returns-in-Some
returns-in-Some c = record { out_after = search edition_put; value = search edition_behind }

pub returns-in-None : goal.returns-in-None
returns-in-None c = record { out_after = search edition_kept; value = search edition_here }
