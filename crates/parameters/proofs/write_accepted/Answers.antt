-- `parameters::write_accepted` meets its contract: a refusal leaves the buffer. Assumes nothing.
use Rattle.parameters.proofs.Job.{kept_left, kept_wrote}
use Rattle.parameters.proofs.write_accepted.Goals as goal

pub returns-then-is_refused : goal.returns-then-is_refused
returns-then-is_refused c = search kept_left

pub returns : goal.returns
returns c = search kept_wrote
