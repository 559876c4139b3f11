-- `forest::names::same_rest` meets its contract: what is left from i on decides. Assumes nothing.
use Rattle.forest.proofs.Named.{same_start, same_go, same_stop, same_end}
use Rattle.forest.proofs.names.same_rest.Goals as goal

pub loop-i-init : goal.loop-i-init
loop-i-init c = search same_start

pub returns-then-a-i : goal.returns-then-a-i
returns-then-a-i c = search same_stop

pub loop-i-preserved : goal.loop-i-preserved
loop-i-preserved c = search same_go

pub returns : goal.returns
returns c = search same_end
