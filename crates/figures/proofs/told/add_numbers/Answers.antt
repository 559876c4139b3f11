-- `figures::told::add_numbers` meets its contract: the first i numbers are counted. Assumes nothing.
use Rattle.figures.proofs.Occurring.{counting_start, counting_on, counting_end}
use Rattle.figures.proofs.told.add_numbers.Goals as goal

pub loop-i-init : goal.loop-i-init
loop-i-init c = search counting_start

pub loop-i-preserved : goal.loop-i-preserved
loop-i-preserved c = search counting_on

pub returns : goal.returns
returns c = search counting_end
