-- `validate::validate_module` meets its contract: the statements, then the expressions. Assumes nothing.
use Rattle.errors.proofs.Storing.{stores_both}
use Rattle.validate.proofs.validate_module.Goals as goal

pub returns : goal.returns
returns c = search stores_both
