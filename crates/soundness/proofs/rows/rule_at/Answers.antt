-- `soundness::rows::rule_at` meets its contract: each arm is the rule of its number, and no other number has one.
-- Assumes nothing.
use borrow.Author.Rules.{rules}
use mathlib.Core.Path.{refl}
use Rattle.soundness.specs.Packed.{children_of, rule_at}
use Rattle.soundness.proofs.Packing.{rule_none}
use Rattle.soundness.proofs.rows.rule_at.Goals as goal

pub returns-in-0 : goal.returns-in-0
unfolding children_of rule_at
returns-in-0 c = rw c.in-0.is refl

pub returns-in-1 : goal.returns-in-1
unfolding children_of rule_at
returns-in-1 c = rw c.in-1.is refl

pub returns-in-2 : goal.returns-in-2
unfolding children_of rule_at
returns-in-2 c = rw c.in-2.is refl

pub returns-in-3 : goal.returns-in-3
unfolding children_of rule_at
returns-in-3 c = rw c.in-3.is refl

pub returns-in-4 : goal.returns-in-4
unfolding children_of rule_at
returns-in-4 c = rw c.in-4.is refl

pub returns-in_default : goal.returns-in_default
unfolding children_of rule_at
returns-in_default c = rule_none _ (search rules)
