-- `types::judging::index2_base` meets its contract: the base is a path. Assumes nothing.
use Rattle.types.proofs.Bases.{index2_none, index2_path}
use Rattle.types.proofs.judging.index2_base.Goals as goal

pub returns-then-k-lt-RECORD : goal.returns-then-k-lt-RECORD
returns-then-k-lt-RECORD c = search index2_none

pub returns : goal.returns
returns c = search index2_path
