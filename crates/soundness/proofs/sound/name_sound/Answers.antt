-- `soundness::sound::name_sound` meets its contract: each kind of record has its case. Assumes nothing.
use Rattle.soundness.specs.Sound.{name_sound}
use borrow.Author.Rules.{rules}
use Rattle.soundness.proofs.sound.name_sound.Goals as goal

pub returns-then-named : goal.returns-then-named
unfolding name_sound
returns-then-named c = rw c.if-named.true (search rules)

pub returns : goal.returns
unfolding name_sound
returns c = rw c.if-named.false (search rules)
