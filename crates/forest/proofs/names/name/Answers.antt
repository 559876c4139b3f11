-- `forest::names::name` meets its contract: each part is what the name bytes have of the name. Assumes nothing.
use Rattle.forest.proofs.Named.{name_outside, name_short, name_inside}
use Rattle.forest.proofs.names.name.Goals as goal

pub returns-then-n-a : goal.returns-then-n-a
returns-then-n-a c = search name_outside

pub returns-then-n-e : goal.returns-then-n-e
returns-then-n-e c = search name_short

pub returns : goal.returns
returns c = search name_inside
