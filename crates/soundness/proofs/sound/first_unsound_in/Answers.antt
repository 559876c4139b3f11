-- `soundness::sound::first_unsound_in` meets its contract: the search's promise for one statement. Assumes nothing.
use Rattle.soundness.proofs.Records.{statement_found}
use Rattle.soundness.proofs.sound.first_unsound_in.Goals as goal

pub returns : goal.returns
returns c = search statement_found
