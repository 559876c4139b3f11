-- `books::search::twice_among` meets its contract: no earlier entry repeats another, and the marks cover them
-- (`Once`). Assumes nothing.
use Rattle.books.proofs.Marking.{once_start, once_stop, once_on, once_long, noted_once, once_end}
use Rattle.books.proofs.search.twice_among.Goals as goal

pub loop-p-init : goal.loop-p-init
loop-p-init c = once_start _ _ (λ i. (c.type_inv.book i).fits)

pub shape_of-noted-then-again : goal.shape_of-noted-then-again
shape_of-noted-then-again c = search noted_once

pub returns-then-again : goal.returns-then-again
returns-then-again c = search once_stop

pub loop-p-preserved : goal.loop-p-preserved
loop-p-preserved c = search once_on

pub shape_of-noted : goal.shape_of-noted
shape_of-noted c = search once_long

pub returns : goal.returns
returns c = search once_end
