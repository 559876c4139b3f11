-- `validate::expressions::expr_errors` meets its contract: `...`, a lambda, or neither. Assumes nothing.
use Rattle.validate.proofs.Walks.{own_ellipsis, own_lambda, own_other}
use Rattle.validate.proofs.expressions.expr_errors.Goals as goal

pub returns-in-31 : goal.returns-in-31
returns-in-31 c = search own_ellipsis

pub returns-in-27 : goal.returns-in-27
returns-in-27 c = search own_lambda

pub returns-in_default : goal.returns-in_default
returns-in_default c = search own_other
