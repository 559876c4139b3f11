-- `types::judging::list_length` meets its contract: no item is 41, one item is 40. Assumes nothing.
use Rattle.types.proofs.Bases.{list_none, list_one, list_more}
use Rattle.types.proofs.judging.list_length.Goals as goal

pub returns-then-k-lt-RECORD : goal.returns-then-k-lt-RECORD
returns-then-k-lt-RECORD c = search list_none

pub returns-then-k-a : goal.returns-then-k-a
returns-then-k-a c = search list_one

pub returns : goal.returns
returns c = search list_more
