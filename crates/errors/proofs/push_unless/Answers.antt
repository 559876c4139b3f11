-- `errors::push_unless` meets its contract: nothing, or the error. Assumes nothing.
use Rattle.errors.proofs.Storing.{unless_permitted, unless_not}
use Rattle.errors.proofs.push_unless.Goals as goal

pub returns-then-permitted : goal.returns-then-permitted
returns-then-permitted c = search unless_permitted

pub returns : goal.returns
returns c = search unless_not
