-- `audit::places::role_of` meets its contract: one case for each of the roles. Assumes nothing.
use Rattle.audit.proofs.Walks.{role_return}
use Rattle.audit.proofs.places.role_of.Goals as goal

pub returns-in-ReturnType : goal.returns-in-ReturnType
returns-in-ReturnType c = search role_return
