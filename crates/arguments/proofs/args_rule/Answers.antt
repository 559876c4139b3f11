-- `arguments::args_rule` meets its contract: each return is one case of the rule. Assumes nothing.
use mathlib.Core.Path.{refl}
use Rattle.arguments.proofs.args_rule.Goals as goal

pub returns-then-past_named : goal.returns-then-past_named
returns-then-past_named c = rw (← c.past_named.ensures, c.if-past_named.true) refl
