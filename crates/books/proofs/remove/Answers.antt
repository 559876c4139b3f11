-- `books::remove` meets its contract: zone 0 goes to the line book. Assumes nothing.
use Rattle.books.proofs.Changing.{remove_line, remove_zone, zone_left, zone_loses, line_left, line_loses}
use Rattle.books.proofs.remove.Goals as goal

pub returns-then-zone-eq0 : goal.returns-then-zone-eq0
returns-then-zone-eq0 c = search (remove_line, zone_left, line_loses)

pub returns : goal.returns
returns c = search (remove_zone, zone_loses, line_left)
