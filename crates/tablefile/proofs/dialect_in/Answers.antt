-- `tablefile::dialect_in` meets its contract: nine for 13 or 14 used bytes, else none. Assumes nothing.
use Rattle.tablefile.proofs.Fronts.{dialect_nine, dialect_none}
use Rattle.tablefile.proofs.dialect_in.Goals as goal

pub returns-then-used : goal.returns-then-used
returns-then-used c = dialect_nine _ c.if-used.true

pub returns-else-used : goal.returns-else-used
returns-else-used c = dialect_none _ c.if-used.false
