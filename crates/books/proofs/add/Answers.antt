-- `books::add` meets its contract: zone 0 goes to the line book. Assumes nothing.
use Rattle.books.proofs.Changing.{add_line, add_zone, zone_stays, zone_changes, line_stays, line_changes}
use Rattle.books.proofs.add.Goals as goal

pub returns-then-zone-eq0 : goal.returns-then-zone-eq0
returns-then-zone-eq0 c = search (add_line, zone_stays, line_changes)

pub returns : goal.returns
returns c = search (add_zone, zone_changes, line_stays)
