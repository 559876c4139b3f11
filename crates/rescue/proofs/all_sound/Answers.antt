-- `rescue::all_sound` meets its contract: too few records, or the check decides. Assumes nothing.
use Rattle.rescue.proofs.Leaves.{all_short, all_there}
use Rattle.rescue.proofs.all_sound.Goals as goal

pub returns-then-table-nodes : goal.returns-then-table-nodes
returns-then-table-nodes c = search all_short

pub returns : goal.returns
returns c = search all_there
