-- `table::earlier_of` meets its contract: a refusal with a span may carry an earlier node. Assumes nothing.
use Rattle.table.proofs.Answers.{earlier_spanned}
use Rattle.table.proofs.earlier_of.Goals as goal

pub returns-in-Spanned : goal.returns-in-Spanned
returns-in-Spanned c = search earlier_spanned
