-- `tablefile::names_of` meets its contract: the content of the blocks is written over zeros. Assumes nothing.
use Rattle.tablefile.proofs.Copies.{laid_names}
use Rattle.tablefile.proofs.names_of.Goals as goal

pub returns : goal.returns
returns c = search laid_names
