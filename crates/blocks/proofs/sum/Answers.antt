-- `blocks::sum` meets its contract: a short list is one part, and a block is eight parts, each of which begins where
-- the one before ends. Assumes nothing.
use Rattle.blocks.proofs.Sums.{sum_short, sum_parts}
use Rattle.blocks.proofs.sum.Goals as goal

pub returns-then-b-lt508 : goal.returns-then-b-lt508
returns-then-b-lt508 c = search sum_short

pub returns : goal.returns
returns c = search sum_parts
