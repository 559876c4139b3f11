-- `rescue::sound` meets its contract: the check decides. Assumes nothing.
use Rattle.rescue.proofs.Leaves.{sound_yes, sound_no}
use Rattle.rescue.proofs.sound.Goals as goal

pub returns-in-Ok : goal.returns-in-Ok
returns-in-Ok c = search sound_yes

pub returns-in-Err : goal.returns-in-Err
returns-in-Err c = search sound_no
