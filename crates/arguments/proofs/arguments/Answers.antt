-- `arguments::arguments` meets its contract: the arguments follow the first child. Assumes nothing.
use Rattle.arguments.proofs.Steps.{call_answer_lem}
use Rattle.arguments.proofs.arguments.Goals as goal

pub returns : goal.returns
returns c = search call_answer_lem
