-- `validate::statements::load_errors` meets its contract: 58, then 59. Assumes nothing.
use native.Mathlib.Omega.{arith}
use Rattle.errors.proofs.Storing.{stores_both, unless_one}
use Rattle.validate.proofs.statements.load_errors.Goals as goal

pub overflow_add-result : goal.overflow_add-result
overflow_add-result c = omega (arith, unless_one)

pub returns : goal.returns
returns c = search stores_both
