-- `parameters::first_of` meets its contract: the state that the count says. Assumes nothing.
use Rattle.parameters.proofs.Job.{accepted_first}
use Rattle.parameters.proofs.first_of.Goals as goal

pub returns-in-Ok : goal.returns-in-Ok
returns-in-Ok c = search accepted_first
