-- `books::search::seen_in` meets its contract: no earlier place is for this zone and setting (`Unseen`). Assumes
-- nothing.
use Rattle.books.proofs.Laws.{unseen_start, unseen_place, unseen_stop, unseen_on, unseen_end}
use Rattle.books.proofs.search.seen_in.Goals as goal

pub loop-q-init : goal.loop-q-init
loop-q-init c = unseen_start _ _ _ _ c.requires

pub entry-requires : goal.entry-requires
entry-requires c = search unseen_place

pub returns-then-is_for : goal.returns-then-is_for
returns-then-is_for c = search unseen_stop

pub loop-q-preserved : goal.loop-q-preserved
loop-q-preserved c = search unseen_on

pub returns : goal.returns
returns c = search unseen_end
