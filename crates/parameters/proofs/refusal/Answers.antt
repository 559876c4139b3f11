-- `parameters::refusal` meets its contract: the parameter's span and the earlier node. Assumes nothing.
use Rattle.parameters.proofs.Job.{fault_answer_lem}
use Rattle.parameters.proofs.refusal.Goals as goal

pub returns : goal.returns
returns c = search fault_answer_lem
