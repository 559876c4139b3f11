-- `tablefile::dialect_of` meets its contract: the bytes of block 0 are written over zeros. Assumes nothing.
use Rattle.tablefile.proofs.Copies.{dialect_laid}
use Rattle.tablefile.proofs.dialect_of.Goals as goal

pub returns : goal.returns
returns c = search dialect_laid
