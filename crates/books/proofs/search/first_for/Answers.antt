-- `books::search::first_for` meets its contract: no earlier place is for this zone and setting. Assumes
-- nothing.
use Rattle.books.proofs.Changing.{search_start, for_hit, for_miss, search_end}
use Rattle.books.proofs.search.first_for.Goals as goal

pub loop-p-init : goal.loop-p-init
loop-p-init c = search_start _ _

pub returns-then-is_for : goal.returns-then-is_for
returns-then-is_for c = search for_hit

pub loop-p-preserved : goal.loop-p-preserved
loop-p-preserved c = search for_miss

pub returns : goal.returns
returns c = search search_end
