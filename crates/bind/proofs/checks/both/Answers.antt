-- `bind::checks::both` meets its contract: the list before the call. Assumes nothing.
use Rattle.std.proofs.Common.{rules}
use Rattle.bind.specs.Reading.{both}
use Rattle.bind.proofs.checks.both.Goals as goal

pub returns-in_err-counted : goal.returns-in_err-counted
unfolding both
returns-in_err-counted c = search rules

pub returns-in_err-called : goal.returns-in_err-called
unfolding both
returns-in_err-called c = search rules

pub returns : goal.returns
unfolding both
returns c = search rules
