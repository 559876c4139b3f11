-- `validate::params::marks_of` meets its contract: nothing, or every mark. Assumes nothing.
use Rattle.validate.proofs.Lists.{marks_permitted, marks_not}
use Rattle.validate.proofs.params.marks_of.Goals as goal

pub returns-then-permitted : goal.returns-then-permitted
returns-then-permitted c = search marks_permitted

pub returns : goal.returns
returns c = search marks_not
