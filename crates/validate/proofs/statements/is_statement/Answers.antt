-- `validate::statements::is_statement` meets its contract: statements are the kinds 1 to 12. Assumes nothing.
use Rattle.validate.proofs.Walks.{statement_range}
use borrow.Author.Rules.{rules}
use Rattle.validate.proofs.statements.is_statement.Goals as goal

pub returns : goal.returns
returns c = statement_range _ (search rules)
