-- `validate::params::with_params` meets its contract: what may not be, then the parameters. Assumes nothing.
use native.Mathlib.Omega.{arith}
use Rattle.errors.proofs.Storing.{unless_one}
use Rattle.validate.proofs.Lists.{with_all}
use Rattle.validate.proofs.params.with_params.Goals as goal

pub overflow_add-result : goal.overflow_add-result
overflow_add-result c = omega (arith, unless_one)

pub returns : goal.returns
returns c = search with_all
