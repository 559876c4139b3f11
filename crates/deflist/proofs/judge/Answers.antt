-- `deflist::judge` meets its contract: 19 for a list that is too long, otherwise unpack's outcome, whatever the marks.
-- Assumes nothing.
use Rattle.deflist.proofs.Limited.{judge_long, judge_short, fault_inside, node_inside}
use Rattle.deflist.proofs.judge.Goals as goal

pub returns-then-has_more : goal.returns-then-has_more
returns-then-has_more c = search (judge_long, fault_inside, node_inside)

pub returns-then-span-ge-SHORT : goal.returns-then-span-ge-SHORT
returns-then-span-ge-SHORT c = search judge_short

pub returns : goal.returns
returns c = search judge_short
