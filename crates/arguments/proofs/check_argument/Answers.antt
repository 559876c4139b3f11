-- `arguments::check_argument` meets its contract: the kind chooses the rule. Assumes nothing.
use Rattle.arguments.proofs.Steps.{rule_named}
use Rattle.arguments.proofs.check_argument.Goals as goal

pub returns-in-Named : goal.returns-in-Named
returns-in-Named c = search rule_named
