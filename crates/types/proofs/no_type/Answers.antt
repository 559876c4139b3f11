-- `types::no_type` meets its contract: 45, then 40. Assumes nothing.
use Rattle.types.proofs.Jobs.{none_disabled, none_invalid}
use Rattle.types.proofs.no_type.Goals as goal

pub returns-then-not-permits_types : goal.returns-then-not-permits_types
returns-then-not-permits_types c = search none_disabled

pub returns : goal.returns
returns c = search none_invalid
