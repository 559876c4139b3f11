-- `soundness::rows::back` meets its contract: each class of the last has its digit. Assumes nothing.
use mathlib.Core.Path.{refl}
use Rattle.soundness.proofs.Packing.{class_none}
use Rattle.soundness.proofs.rows.back.Goals as goal

pub returns-in-0 : goal.returns-in-0
returns-in-0 c = rw c.in-0.is refl

pub returns-in-1 : goal.returns-in-1
returns-in-1 c = rw c.in-1.is refl

pub returns-in-2 : goal.returns-in-2
returns-in-2 c = rw c.in-2.is refl

pub returns-in_default : goal.returns-in_default
returns-in_default c = search class_none
