-- `validate::params::mark_error` meets its contract: an error where the parameter is a mark. Assumes nothing.
use Rattle.validate.proofs.Lists.{mark_told}
use Rattle.validate.proofs.params.mark_error.Goals as goal

pub returns : goal.returns
returns c = search mark_told
