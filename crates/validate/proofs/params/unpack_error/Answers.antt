-- `validate::params::unpack_error` meets its contract: what is said of the list. Assumes nothing.
use Rattle.validate.proofs.Lists.{fault_small, error_none, error_one}
use Rattle.validate.proofs.params.unpack_error.Goals as goal

pub error_of-requires : goal.error_of-requires
error_of-requires c = search fault_small

pub returns-in-Ok : goal.returns-in-Ok
returns-in-Ok c = search error_none

pub returns-in-Err : goal.returns-in-Err
returns-in-Err c = search error_one
