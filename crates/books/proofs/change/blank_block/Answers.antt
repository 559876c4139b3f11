-- `books::change::blank_block` meets its contract: the head is written over zeros, then the sum. Assumes nothing.
use Rattle.books.proofs.Blanks.{blank_block_is}
use Rattle.books.proofs.change.blank_block.Goals as goal

pub returns : goal.returns
returns c = search blank_block_is
