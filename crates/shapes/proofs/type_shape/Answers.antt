-- `shapes::type_shape` meets its contract: a refusal is returned as it is, and the shapes of an accepted type are
-- written. Assumes nothing.
use Rattle.shapes.proofs.Jobs.{job_refused, job_long, job_room, job_written}
use Rattle.shapes.proofs.type_shape.Goals as goal

pub returns-then-is_refused : goal.returns-then-is_refused
returns-then-is_refused c = search job_refused

pub write-requires : goal.write-requires
write-requires c = search (job_long, job_room)

pub returns : goal.returns
returns c = search job_written
