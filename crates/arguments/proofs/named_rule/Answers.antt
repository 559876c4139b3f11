-- `arguments::named_rule` meets its contract: 21, then what the search finds. Assumes nothing.
use Rattle.arguments.proofs.Steps.{named_late, named_new}
use Rattle.arguments.proofs.named_rule.Goals as goal

pub returns-then-past_named : goal.returns-then-past_named
returns-then-past_named c = search named_late

pub returns : goal.returns
returns c = search named_new
