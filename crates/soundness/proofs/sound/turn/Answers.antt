-- `soundness::sound::turn` meets its contract: each return is one case of where the record is. Assumes nothing.
use Rattle.soundness.proofs.Tops.{turn_opens}
use Rattle.soundness.proofs.sound.turn.Goals as goal

pub returns : goal.returns
returns c = search turn_opens
