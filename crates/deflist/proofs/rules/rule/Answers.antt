-- `deflist::rules::rule` meets its contract: it is the definition, kind by kind. Assumes nothing.

use Rattle.deflist.proofs.rules.rule.Goals as goal

pub returns-in-Normal : goal.returns-in-Normal
returns-in-Normal c = rw c.in-Normal.is c.normal_rule.ensures
