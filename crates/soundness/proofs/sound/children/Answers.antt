-- `soundness::sound::children` meets its contract: the walk counts what it gives. Assumes nothing.
use Rattle.std.proofs.Common.{◌∙◌}
use Rattle.soundness.proofs.Records.{classes_counted}
use Rattle.soundness.proofs.sound.children.Goals as goal

pub returns : goal.returns
returns c = let ran = c.count.ensures.ran in ran.2 ∙ classes_counted ran.0 _ ran.1
