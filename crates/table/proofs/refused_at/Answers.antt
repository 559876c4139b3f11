-- `table::refused_at` meets its contract: the span is the record's. Assumes nothing.
use Rattle.table.proofs.Answers.{refused_there_lem}
use Rattle.table.proofs.refused_at.Goals as goal

pub returns : goal.returns
returns c = refused_there_lem _ _ _ c.refused_in.ensures c.span_of.ensures
