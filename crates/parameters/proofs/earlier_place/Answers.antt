-- `parameters::earlier_place` meets its contract: an index that fits 32 bits is the same there. Assumes nothing.
use Rattle.parameters.proofs.Job.{earlier_at, earlier_small}
use Rattle.parameters.proofs.earlier_place.Goals as goal

pub overflow_cast-result : goal.overflow_cast-result
overflow_cast-result c = search earlier_small

pub returns-in-Some : goal.returns-in-Some
returns-in-Some c = search earlier_at
