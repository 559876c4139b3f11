-- `arguments::kwargs_rule` meets its contract: each return is one case of the rule. Assumes nothing.
use mathlib.Core.Path.{refl}
use Rattle.arguments.proofs.kwargs_rule.Goals as goal

pub returns-then-in_kwargs : goal.returns-then-in_kwargs
returns-then-in_kwargs c = rw (← c.in_kwargs.ensures, c.if-in_kwargs.true) refl
