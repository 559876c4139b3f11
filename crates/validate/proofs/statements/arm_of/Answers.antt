-- `validate::statements::arm_of` meets its contract: each arm of the match is the arm of its kind. Assumes nothing.
use mathlib.Core.Path.{refl}
use Rattle.validate.specs.Module.{arm_of}
use Rattle.validate.proofs.Walks.{arm_other}
use Rattle.validate.proofs.statements.arm_of.Goals as goal

pub returns-in-2 : goal.returns-in-2
unfolding arm_of
returns-in-2 c = rw c.in-2.is refl

pub returns-in-3 : goal.returns-in-3
unfolding arm_of
returns-in-3 c = rw (c.in-3.is, c.told_if.ensures, c.is_banned-banned.ensures) refl

pub returns-in-4 : goal.returns-in-4
unfolding arm_of
returns-in-4 c = rw (c.in-4.is, c.told_if-in-4.ensures, c.is_banned-banned.ensures) refl

pub returns-in-5 : goal.returns-in-5
unfolding arm_of
returns-in-5 c = rw (c.in-5.is, c.told_if-in-5.ensures, c.is_banned-banned.ensures) refl

pub returns-in-6 : goal.returns-in-6
unfolding arm_of
returns-in-6 c = rw (c.in-6.is, c.told_if-in-6.ensures) refl

pub returns-in-7 : goal.returns-in-7
unfolding arm_of
returns-in-7 c = rw (c.in-7.is, c.told_if-in-7.ensures) refl

pub returns-in-8 : goal.returns-in-8
unfolding arm_of
returns-in-8 c = rw (c.in-8.is, c.told_if-in-8.ensures) refl

pub returns-in-9 : goal.returns-in-9
unfolding arm_of
returns-in-9 c = rw c.in-9.is refl

pub returns-in_default : goal.returns-in_default
unfolding arm_of
returns-in_default c = search arm_other
