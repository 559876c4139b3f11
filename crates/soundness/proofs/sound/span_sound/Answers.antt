-- `soundness::sound::span_sound` meets its contract: it is the definition. Assumes nothing.
use borrow.Author.Rules.{rules}
use Rattle.soundness.specs.Sound.{span_sound}
use Rattle.soundness.proofs.sound.span_sound.Goals as goal

pub returns : goal.returns
unfolding span_sound
returns c = search rules
