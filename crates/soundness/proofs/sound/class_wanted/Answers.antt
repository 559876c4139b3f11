-- `soundness::sound::class_wanted` meets its contract: a child is among the first, between, or among the last. Assumes
-- nothing.
use Rattle.soundness.proofs.Packing.{at_front, at_middle, at_back}
use Rattle.soundness.proofs.sound.class_wanted.Goals as goal

pub returns-then-j-fronts : goal.returns-then-j-fronts
returns-then-j-fronts c = search at_front

pub returns-then-j-m : goal.returns-then-j-m
returns-then-j-m c = search at_middle

pub returns : goal.returns
returns c = search at_back
