-- `starlark_checks::starlark_book_blank` meets its contract: 0 or 95, and no word is written. Assumes nothing.
use borrow.Author.Rules.{rules}
use Rattle.starlark_checks.proofs.Places.{blank_made, blank_refused}
use Rattle.starlark_checks.proofs.starlark_book_blank.Goals as goal

pub returns-then-answer-eq0 : goal.returns-then-answer-eq0
returns-then-answer-eq0 c = search (rules, blank_made)

pub returns : goal.returns
returns c = search (rules, blank_refused)
