-- `table::extent_of` meets its contract: a refusal with a span carries it. Assumes nothing.
use Rattle.table.proofs.Answers.{extent_spanned}
use Rattle.table.proofs.extent_of.Goals as goal

pub returns-in-Spanned : goal.returns-in-Spanned
returns-in-Spanned c = search extent_spanned
