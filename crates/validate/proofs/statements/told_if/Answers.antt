-- `validate::statements::told_if` meets its contract: its test. Assumes nothing.
use mathlib.Core.Path.{refl}
use Rattle.validate.proofs.statements.told_if.Goals as goal

pub returns-then-refused : goal.returns-then-refused
returns-then-refused c = rw c.if-refused.true refl

pub returns : goal.returns
returns c = rw c.if-refused.false refl
