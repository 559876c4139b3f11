-- `types::judging::index_base` meets its contract: the base is an Identifier, else 40. Assumes nothing.
use Rattle.types.proofs.Bases.{index_none, index_other, index_good}
use Rattle.types.proofs.judging.index_base.Goals as goal

pub returns-then-k-lt-RECORD : goal.returns-then-k-lt-RECORD
returns-then-k-lt-RECORD c = search index_none

pub returns-then-kind-ne-IDENTIFIER : goal.returns-then-kind-ne-IDENTIFIER
returns-then-kind-ne-IDENTIFIER c = search index_other

pub returns : goal.returns
returns c = search index_good
