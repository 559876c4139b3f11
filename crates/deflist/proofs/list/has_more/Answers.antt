-- `deflist::list::has_more` meets its contract: where `most` entries are counted, a further one is one too many.
-- Assumes nothing.
use Rattle.deflist.proofs.Reading.{limit_start, limit_over, limit_on, limit_end, is_over_lem}
use Rattle.deflist.proofs.Reading.{after_less, after_long}
use Rattle.deflist.proofs.Theorems.{records_few}
use Rattle.deflist.proofs.list.has_more.Goals as goal

pub returns-then-kids-most : goal.returns-then-kids-most
returns-then-kids-most c = search (is_over_lem, records_few)

pub loop-left-init : goal.loop-left-init
loop-left-init c = limit_start _ _

pub returns-then-most-n : goal.returns-then-most-n
returns-then-most-n c = search (is_over_lem, limit_over)

pub after-next-requires : goal.after-next-requires
after-next-requires c = search after_long

pub loop-left-smaller : goal.loop-left-smaller
loop-left-smaller c = search after_less

pub loop-left-preserved : goal.loop-left-preserved
loop-left-preserved c = search limit_on

pub returns : goal.returns
returns c = search (is_over_lem, limit_end)
