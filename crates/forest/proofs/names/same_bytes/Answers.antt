-- `forest::names::same_bytes` meets its contract: lists of different lengths differ. Assumes nothing.
use Rattle.forest.proofs.Named.{same_length}
use Rattle.forest.proofs.names.same_bytes.Goals as goal

pub returns-then-n-b : goal.returns-then-n-b
returns-then-n-b c = search same_length
