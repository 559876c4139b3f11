-- `soundness::sound::root_end` meets its contract: each return is one case of the root's kind. Assumes nothing.
use Rattle.soundness.proofs.Tops.{root_end_one, root_end_zero}
use Rattle.soundness.proofs.sound.root_end.Goals as goal

pub returns-then-kind-eq-STATEMENTS : goal.returns-then-kind-eq-STATEMENTS
returns-then-kind-eq-STATEMENTS c = search root_end_one

pub returns : goal.returns
returns c = search root_end_zero
