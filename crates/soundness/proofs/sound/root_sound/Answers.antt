-- `soundness::sound::root_sound` meets its contract: it is the definition. Assumes nothing.
use Rattle.soundness.specs.Sound.{root_sound}
use borrow.Author.Rules.{rules}
use Rattle.soundness.proofs.sound.root_sound.Goals as goal

pub kind-requires : goal.kind-requires
unfolding root_sound
kind-requires c = search rules

pub class-requires : goal.class-requires
unfolding root_sound
class-requires c = search rules

pub size-requires : goal.size-requires
unfolding root_sound
size-requires c = search rules

pub returns : goal.returns
unfolding root_sound
returns c = cc
