-- `deflist::walk::earlier` meets its contract: what is found among the children, counted from the table. Assumes
-- nothing.
use Rattle.deflist.proofs.Entries.{earlier_room, earlier_at, earlier_none}
use Rattle.deflist.proofs.walk.earlier.Goals as goal

pub overflow_add-result : goal.overflow_add-result
overflow_add-result c = search earlier_room

pub returns-in-Some : goal.returns-in-Some
returns-in-Some c = search earlier_at

pub returns-in-None : goal.returns-in-None
returns-in-None c = search earlier_none
