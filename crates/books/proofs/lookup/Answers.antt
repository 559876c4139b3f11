-- `books::lookup` meets its contract: the part is the one that the answer gives. Assumes nothing.
use Rattle.books.proofs.Laws.{part_zone, part_line, part_refused, part_nothing}
use Rattle.books.proofs.lookup.Goals as goal

pub returns-in-Zone : goal.returns-in-Zone
returns-in-Zone c = search part_zone

pub returns-in-Line : goal.returns-in-Line
returns-in-Line c = search part_line

pub returns-in-Refused : goal.returns-in-Refused
returns-in-Refused c = search part_refused

pub returns-in-Nothing : goal.returns-in-Nothing
returns-in-Nothing c = search part_nothing
