-- `tablefile::put` meets its contract: the first len bytes are written over the front of out. Assumes nothing.
use Rattle.blocks.proofs.Laying.{laid_part}
use Rattle.tablefile.proofs.put.Goals as goal

pub returns : goal.returns
returns c = search laid_part
