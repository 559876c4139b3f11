-- `deflist::rules::default_rule` meets its contract: it is the definition, case by case. Assumes nothing.

use Rattle.deflist.proofs.rules.default_rule.Goals as goal

pub returns-then-optional : goal.returns-then-optional
returns-then-optional c = cc
