-- `validate::params::list_error` meets its contract: what is said of the list, or nothing where the form leaves
-- that out. Assumes nothing.
use Rattle.validate.proofs.Refusals.{own_judges_none}
use Rattle.validate.proofs.params.list_error.Goals as goal

pub returns-in-Own : goal.returns-in-Own
returns-in-Own c = search own_judges_none
