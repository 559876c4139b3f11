-- `table::enter_dialect` meets its contract: 1 to 4, then 5. Assumes nothing.
use Rattle.std.proofs.Common.{rules}
use Rattle.table.specs.Check.{given_of}
use Rattle.table.proofs.Entering.{given_refused, given_read}
use Rattle.table.proofs.enter_dialect.Goals as goal

pub returns-in_err-check : goal.returns-in_err-check
returns-in_err-check c = search (rules, given_refused)

pub returns : goal.returns
unfolding given_of
returns c = search (rules, given_read)
