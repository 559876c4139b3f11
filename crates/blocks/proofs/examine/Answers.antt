-- `blocks::examine` meets its contract: each return is one of the tests. Assumes nothing.
use borrow.Author.Tests.{not-true, not-false}
use Rattle.blocks.proofs.Judging.{examine_check, examine_number, examine_used, examine_padding}
use Rattle.blocks.proofs.Judging.{examine_passed}
use Rattle.blocks.proofs.examine.Goals as goal

pub returns-then-not-right : goal.returns-then-not-right
returns-then-not-right c = search (examine_check, not-true)

pub returns-then-not-numbered : goal.returns-then-not-numbered
returns-then-not-numbered c = search (examine_number, not-false, not-true)

pub returns-then-said-used : goal.returns-then-said-used
returns-then-said-used c = search (examine_used, not-false)

pub returns-then-not-padded : goal.returns-then-not-padded
returns-then-not-padded c = search (examine_padding, not-false)

pub returns : goal.returns
returns c = search (examine_passed, not-false)
