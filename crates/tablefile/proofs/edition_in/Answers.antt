-- `tablefile::edition_in` meets its contract: one for 14 used bytes, else none. Assumes nothing.
use Rattle.tablefile.proofs.Fronts.{edition_one, edition_none}
use Rattle.tablefile.proofs.edition_in.Goals as goal

pub returns-then-used-eq14 : goal.returns-then-used-eq14
returns-then-used-eq14 c = edition_one c.if-used-eq14.true

pub returns-else-used-eq14 : goal.returns-else-used-eq14
returns-else-used-eq14 c = edition_none c.if-used-eq14.false
