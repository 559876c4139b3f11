-- `soundness::sound::last_from` meets its contract: the children past it are the last ones, or there are none. Assumes
-- nothing.
use Rattle.soundness.proofs.Records.{no_last}
use Rattle.soundness.proofs.sound.last_from.Goals as goal

pub returns-then-backs-eq0 : goal.returns-then-backs-eq0
returns-then-backs-eq0 c = no_last _ c.if-backs-eq0.true
