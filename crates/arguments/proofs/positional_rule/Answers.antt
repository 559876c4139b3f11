-- `arguments::positional_rule` meets its contract: each return is one case of the rule. Assumes nothing.
use mathlib.Core.Path.{refl}
use Rattle.arguments.proofs.positional_rule.Goals as goal

pub returns-then-past_positional : goal.returns-then-past_positional
returns-then-past_positional c = rw (← c.past_positional.ensures, c.if-past_positional.true) refl
