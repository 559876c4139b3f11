-- `audit::places::if_expression` meets its contract: a child that is an expression has the role, any other has none.
-- Assumes nothing.
use Rattle.audit.proofs.Walks.{return_type, return_plain}
use Rattle.audit.proofs.places.if_expression.Goals as goal

pub returns-then-class-eq-EXPRESSION : goal.returns-then-class-eq-EXPRESSION
returns-then-class-eq-EXPRESSION c = search return_type

pub returns : goal.returns
returns c = search return_plain
