-- `types::paths::unpack_path` meets its contract: an Identifier, a Dot whose object is read, or 43.
-- Assumes nothing.
use Rattle.types.proofs.Dots.{path_identifier, path_other, path_dot}
use Rattle.types.proofs.paths.unpack_path.Goals as goal

pub returns-then-kind-eq-IDENTIFIER : goal.returns-then-kind-eq-IDENTIFIER
returns-then-kind-eq-IDENTIFIER c = search path_identifier

pub returns-then-kind-ne-DOT : goal.returns-then-kind-ne-DOT
returns-then-kind-ne-DOT c = search path_other

pub returns : goal.returns
returns c = search path_dot
