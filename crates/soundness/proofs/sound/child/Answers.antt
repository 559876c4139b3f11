-- `soundness::sound::child` meets its contract: each test is one part of the child. Assumes nothing.
use Rattle.soundness.proofs.Records.{child_cut, child_class, child_fits}
use Rattle.soundness.proofs.sound.child.Goals as goal

pub returns-then-not-whole : goal.returns-then-not-whole
returns-then-not-whole c = search child_cut

pub returns-then-class-want : goal.returns-then-class-want
returns-then-class-want c = search child_class

pub returns : goal.returns
returns c = search child_fits
