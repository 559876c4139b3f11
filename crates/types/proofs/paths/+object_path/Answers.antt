-- `types::paths::object_path` meets its contract: an Identifier, a Dot whose object is read, or 42.
-- Assumes nothing.
use Rattle.types.proofs.Dots.{object_none, object_banned, object_free, object_other, object_dot}
use Rattle.types.proofs.paths.+object_path.Goals as goal

pub returns-then-t-lt-RECORD : goal.returns-then-t-lt-RECORD
returns-then-t-lt-RECORD t c = object_none _ _ _ c.if-t-lt-RECORD.true

pub returns-then-ban : goal.returns-then-ban
returns-then-ban t c = search object_banned

pub returns-then-kind-eq-IDENTIFIER : goal.returns-then-kind-eq-IDENTIFIER
returns-then-kind-eq-IDENTIFIER t c = search object_free

pub returns-then-kind-ne-DOT : goal.returns-then-kind-ne-DOT
returns-then-kind-ne-DOT t c = search object_other

pub returns : goal.returns
returns t c = search object_dot
