-- `soundness::sound::file_sound` meets its contract: it is the definition. Assumes nothing.
use borrow.Author.Rules.{rules}
use Rattle.soundness.specs.Files.{file_sound}
use Rattle.soundness.proofs.sound.file_sound.Goals as goal

pub returns : goal.returns
unfolding file_sound
returns c = search rules
