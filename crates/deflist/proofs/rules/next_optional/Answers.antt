-- `deflist::rules::next_optional` meets its contract: it is the definition, kind by kind. Assumes nothing.

use Rattle.deflist.proofs.rules.next_optional.Goals as goal

pub returns-in-Normal : goal.returns-in-Normal
returns-in-Normal c = cc
