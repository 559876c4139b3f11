-- `deflist::list::skip` meets its contract: each step takes one parameter more. Assumes nothing.
use Rattle.deflist.proofs.Reading.{skip_start, skip_on, skip_end}
use Rattle.deflist.proofs.list.skip.Goals as goal

pub loop-init : goal.loop-init
loop-init c = skip_start _ _

pub loop-preserved : goal.loop-preserved
loop-preserved c = search skip_on

pub returns : goal.returns
returns c = search skip_end
