-- `errors::push_own` meets its contract: the error with its node, or nothing. Assumes nothing.
use Rattle.errors.proofs.Storing.{push_left, push_own}
use Rattle.errors.proofs.push_own.Goals as goal

pub returns-then-not-is_list_error : goal.returns-then-not-is_list_error
returns-then-not-is_list_error c = search push_own

pub returns : goal.returns
returns c = search push_left
