-- `rescue::can_keep` meets its contract: no statement, an unsound record, a node too deep, or a child to keep.
-- Assumes nothing.
use Rattle.rescue.proofs.Leaves.{keep_other, keep_unsound, keep_deep, keep_flat}
use Rattle.rescue.proofs.can_keep.Goals as goal

pub returns-then-class-ne-STATEMENT : goal.returns-then-class-ne-STATEMENT
returns-then-class-ne-STATEMENT c = search keep_other

pub returns-in-Some : goal.returns-in-Some
returns-in-Some c = search keep_unsound

pub returns-in-Some-deep : goal.returns-in-Some-deep
returns-in-Some-deep c = search keep_deep

pub returns-in-None : goal.returns-in-None
returns-in-None c = search keep_flat
