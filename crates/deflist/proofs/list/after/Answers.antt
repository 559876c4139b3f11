-- `deflist::list::after` meets its contract: a node of one record takes 24 bytes. Assumes nothing.
use Rattle.deflist.proofs.Reading.{after_one, after_any}
use Rattle.deflist.proofs.list.after.Goals as goal

pub returns-then-size-eq1 : goal.returns-then-size-eq1
returns-then-size-eq1 c = search after_one

pub returns : goal.returns
returns c = search after_any
