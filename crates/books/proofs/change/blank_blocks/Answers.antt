-- `books::change::blank_blocks` meets its contract: the first k blocks are written (`Blanking`). Assumes nothing.
use Rattle.books.proofs.Blanks.{blank_start, blank_same, blank_on, blank_end}
use borrow.Author.Rules.{rules}
use Rattle.books.proofs.change.blank_blocks.Goals as goal

pub loop-k-init : goal.loop-k-init
loop-k-init c = search blank_start

pub put-requires : goal.put-requires
put-requires c = search rules

pub loop-k-preserved : goal.loop-k-preserved
loop-k-preserved c = search blank_on

pub shape_of-book : goal.shape_of-book
shape_of-book c = search blank_same

pub returns : goal.returns
returns c = search blank_end
