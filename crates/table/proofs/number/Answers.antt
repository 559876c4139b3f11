-- `table::number` meets its contract: every refusal has one. Assumes nothing.
use Rattle.table.proofs.Answers.{number_spanned}
use Rattle.table.proofs.number.Goals as goal

pub returns-in-Spanned : goal.returns-in-Spanned
returns-in-Spanned c = search number_spanned
