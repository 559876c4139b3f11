-- `arguments::new_name` meets its contract: a name that is found is repeated. Assumes nothing.
use Rattle.arguments.proofs.Steps.{new_found}
use Rattle.arguments.proofs.new_name.Goals as goal

pub returns-in-Some : goal.returns-in-Some
returns-in-Some c = search new_found
