-- `starlark_checks::put_refused` meets its contract: each variant writes what it carries. Assumes nothing.
use borrow.Author.Rules.{rules}
use Rattle.starlark_checks.proofs.Told.{spanned_number, spanned_laid}
use Rattle.starlark_checks.proofs.put_refused.Goals as goal

pub returns-in-Placed : goal.returns-in-Placed
returns-in-Placed c = search (rules, c.in-Placed.is)

pub returns-in-Spanned : goal.returns-in-Spanned
returns-in-Spanned c = search (spanned_number, spanned_laid)
