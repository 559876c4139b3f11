-- `books::places::belongs` meets its contract: zone 0 or another. Assumes nothing.
use Rattle.books.proofs.Laws.{belongs_line, belongs_zone}
use Rattle.books.proofs.places.belongs.Goals as goal

pub returns-then-line : goal.returns-then-line
returns-then-line c = search belongs_line

pub returns-else-line : goal.returns-else-line
returns-else-line c = search belongs_zone
