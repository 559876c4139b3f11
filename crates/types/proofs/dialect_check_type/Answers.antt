-- `types::dialect_check_type` meets its contract: 45, then the type. Assumes nothing.
use Rattle.types.proofs.Jobs.{check_disabled, check_type}
use Rattle.types.proofs.dialect_check_type.Goals as goal

pub returns-then-not-permits_types : goal.returns-then-not-permits_types
returns-then-not-permits_types c = search check_disabled

pub returns : goal.returns
returns c = search check_type
