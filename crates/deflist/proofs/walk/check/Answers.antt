-- `deflist::walk::check` meets its contract: 11 comes before the rule of the kind. Assumes nothing.
use Rattle.deflist.proofs.Walking.{check_found, check_rule}
use Rattle.deflist.proofs.walk.check.Goals as goal

pub returns-in-Some : goal.returns-in-Some
returns-in-Some c = search check_found

pub returns-in-None : goal.returns-in-None
returns-in-None c = search check_rule
