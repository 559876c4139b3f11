-- `soundness::sound::source_sound` meets its contract: kind 61 has its case. Assumes nothing.
use mathlib.Core.Path.{refl}
use borrow.Author.Tests.{ne_eqb}
use Rattle.soundness.specs.Sound.{source_sound}
use Rattle.soundness.proofs.sound.source_sound.Goals as goal

pub returns-then-kind-eq-NAMED : goal.returns-then-kind-eq-NAMED
unfolding source_sound
returns-then-kind-eq-NAMED c = rw c.if-kind-eq-NAMED.true refl

pub returns : goal.returns
unfolding source_sound
returns c = rw (ne_eqb _ _ c.if-kind-eq-NAMED.false) refl
