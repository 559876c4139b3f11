-- `soundness::rows::ranges_of` meets its contract: each arm has the ranges of its kind, and no other number is a kind.
-- Assumes nothing.
use borrow.Author.Rules.{rules}
use mathlib.Core.Path.{refl}
use Rattle.soundness.specs.Kinds.{kind_of, kind_in}
use Rattle.soundness.specs.Packed.{ranges_from, range_of, class_for, classed, rule_of}
use Rattle.soundness.proofs.Ranges.{range_arm, range_none}
use Rattle.soundness.proofs.rows.ranges_of.Goals as goal

pub returns-in-1 : goal.returns-in-1
unfolding ranges_from range_of class_for classed rule_of kind_of kind_in
returns-in-1 c = range_arm _ _ _ c.in-1.is refl refl

pub returns-in-2 : goal.returns-in-2
unfolding ranges_from range_of class_for classed rule_of kind_of kind_in
returns-in-2 c = range_arm _ _ _ c.in-2.is refl refl

pub returns-in-3 : goal.returns-in-3
unfolding ranges_from range_of class_for classed rule_of kind_of kind_in
returns-in-3 c = range_arm _ _ _ c.in-3.is refl refl

pub returns-in-4 : goal.returns-in-4
unfolding ranges_from range_of class_for classed rule_of kind_of kind_in
returns-in-4 c = range_arm _ _ _ c.in-4.is refl refl

pub returns-in-5 : goal.returns-in-5
unfolding ranges_from range_of class_for classed rule_of kind_of kind_in
returns-in-5 c = range_arm _ _ _ c.in-5.is refl refl

pub returns-in-6 : goal.returns-in-6
unfolding ranges_from range_of class_for classed rule_of kind_of kind_in
returns-in-6 c = range_arm _ _ _ c.in-6.is refl refl

pub returns-in-7 : goal.returns-in-7
unfolding ranges_from range_of class_for classed rule_of kind_of kind_in
returns-in-7 c = range_arm _ _ _ c.in-7.is refl refl

pub returns-in-8 : goal.returns-in-8
unfolding ranges_from range_of class_for classed rule_of kind_of kind_in
returns-in-8 c = range_arm _ _ _ c.in-8.is refl refl

pub returns-in-9 : goal.returns-in-9
unfolding ranges_from range_of class_for classed rule_of kind_of kind_in
returns-in-9 c = range_arm _ _ _ c.in-9.is refl refl

pub returns-in-10 : goal.returns-in-10
unfolding ranges_from range_of class_for classed rule_of kind_of kind_in
returns-in-10 c = range_arm _ _ _ c.in-10.is refl refl

pub returns-in-11 : goal.returns-in-11
unfolding ranges_from range_of class_for classed rule_of kind_of kind_in
returns-in-11 c = range_arm _ _ _ c.in-11.is refl refl

pub returns-in-12 : goal.returns-in-12
unfolding ranges_from range_of class_for classed rule_of kind_of kind_in
returns-in-12 c = range_arm _ _ _ c.in-12.is refl refl

pub returns-in-20 : goal.returns-in-20
unfolding ranges_from range_of class_for classed rule_of kind_of kind_in
returns-in-20 c = range_arm _ _ _ c.in-20.is refl refl

pub returns-in-21 : goal.returns-in-21
unfolding ranges_from range_of class_for classed rule_of kind_of kind_in
returns-in-21 c = range_arm _ _ _ c.in-21.is refl refl

pub returns-in-22 : goal.returns-in-22
unfolding ranges_from range_of class_for classed rule_of kind_of kind_in
returns-in-22 c = range_arm _ _ _ c.in-22.is refl refl

pub returns-in-23 : goal.returns-in-23
unfolding ranges_from range_of class_for classed rule_of kind_of kind_in
returns-in-23 c = range_arm _ _ _ c.in-23.is refl refl

pub returns-in-24 : goal.returns-in-24
unfolding ranges_from range_of class_for classed rule_of kind_of kind_in
returns-in-24 c = range_arm _ _ _ c.in-24.is refl refl

pub returns-in-25 : goal.returns-in-25
unfolding ranges_from range_of class_for classed rule_of kind_of kind_in
returns-in-25 c = range_arm _ _ _ c.in-25.is refl refl

pub returns-in-26 : goal.returns-in-26
unfolding ranges_from range_of class_for classed rule_of kind_of kind_in
returns-in-26 c = range_arm _ _ _ c.in-26.is refl refl

pub returns-in-27 : goal.returns-in-27
unfolding ranges_from range_of class_for classed rule_of kind_of kind_in
returns-in-27 c = range_arm _ _ _ c.in-27.is refl refl

pub returns-in-28 : goal.returns-in-28
unfolding ranges_from range_of class_for classed rule_of kind_of kind_in
returns-in-28 c = range_arm _ _ _ c.in-28.is refl refl

pub returns-in-29 : goal.returns-in-29
unfolding ranges_from range_of class_for classed rule_of kind_of kind_in
returns-in-29 c = range_arm _ _ _ c.in-29.is refl refl

pub returns-in-30 : goal.returns-in-30
unfolding ranges_from range_of class_for classed rule_of kind_of kind_in
returns-in-30 c = range_arm _ _ _ c.in-30.is refl refl

pub returns-in-31 : goal.returns-in-31
unfolding ranges_from range_of class_for classed rule_of kind_of kind_in
returns-in-31 c = range_arm _ _ _ c.in-31.is refl refl

pub returns-in-32 : goal.returns-in-32
unfolding ranges_from range_of class_for classed rule_of kind_of kind_in
returns-in-32 c = range_arm _ _ _ c.in-32.is refl refl

pub returns-in-33 : goal.returns-in-33
unfolding ranges_from range_of class_for classed rule_of kind_of kind_in
returns-in-33 c = range_arm _ _ _ c.in-33.is refl refl

pub returns-in-34 : goal.returns-in-34
unfolding ranges_from range_of class_for classed rule_of kind_of kind_in
returns-in-34 c = range_arm _ _ _ c.in-34.is refl refl

pub returns-in-35 : goal.returns-in-35
unfolding ranges_from range_of class_for classed rule_of kind_of kind_in
returns-in-35 c = range_arm _ _ _ c.in-35.is refl refl

pub returns-in-36 : goal.returns-in-36
unfolding ranges_from range_of class_for classed rule_of kind_of kind_in
returns-in-36 c = range_arm _ _ _ c.in-36.is refl refl

pub returns-in-37 : goal.returns-in-37
unfolding ranges_from range_of class_for classed rule_of kind_of kind_in
returns-in-37 c = range_arm _ _ _ c.in-37.is refl refl

pub returns-in-38 : goal.returns-in-38
unfolding ranges_from range_of class_for classed rule_of kind_of kind_in
returns-in-38 c = range_arm _ _ _ c.in-38.is refl refl

pub returns-in-39 : goal.returns-in-39
unfolding ranges_from range_of class_for classed rule_of kind_of kind_in
returns-in-39 c = range_arm _ _ _ c.in-39.is refl refl

pub returns-in-40 : goal.returns-in-40
unfolding ranges_from range_of class_for classed rule_of kind_of kind_in
returns-in-40 c = range_arm _ _ _ c.in-40.is refl refl

pub returns-in-41 : goal.returns-in-41
unfolding ranges_from range_of class_for classed rule_of kind_of kind_in
returns-in-41 c = range_arm _ _ _ c.in-41.is refl refl

pub returns-in-42 : goal.returns-in-42
unfolding ranges_from range_of class_for classed rule_of kind_of kind_in
returns-in-42 c = range_arm _ _ _ c.in-42.is refl refl

pub returns-in-43 : goal.returns-in-43
unfolding ranges_from range_of class_for classed rule_of kind_of kind_in
returns-in-43 c = range_arm _ _ _ c.in-43.is refl refl

pub returns-in-50 : goal.returns-in-50
unfolding ranges_from range_of class_for classed rule_of kind_of kind_in
returns-in-50 c = range_arm _ _ _ c.in-50.is refl refl

pub returns-in-51 : goal.returns-in-51
unfolding ranges_from range_of class_for classed rule_of kind_of kind_in
returns-in-51 c = range_arm _ _ _ c.in-51.is refl refl

pub returns-in-52 : goal.returns-in-52
unfolding ranges_from range_of class_for classed rule_of kind_of kind_in
returns-in-52 c = range_arm _ _ _ c.in-52.is refl refl

pub returns-in-53 : goal.returns-in-53
unfolding ranges_from range_of class_for classed rule_of kind_of kind_in
returns-in-53 c = range_arm _ _ _ c.in-53.is refl refl

pub returns-in-54 : goal.returns-in-54
unfolding ranges_from range_of class_for classed rule_of kind_of kind_in
returns-in-54 c = range_arm _ _ _ c.in-54.is refl refl

pub returns-in-60 : goal.returns-in-60
unfolding ranges_from range_of class_for classed rule_of kind_of kind_in
returns-in-60 c = range_arm _ _ _ c.in-60.is refl refl

pub returns-in-61 : goal.returns-in-61
unfolding ranges_from range_of class_for classed rule_of kind_of kind_in
returns-in-61 c = range_arm _ _ _ c.in-61.is refl refl

pub returns-in-62 : goal.returns-in-62
unfolding ranges_from range_of class_for classed rule_of kind_of kind_in
returns-in-62 c = range_arm _ _ _ c.in-62.is refl refl

pub returns-in-63 : goal.returns-in-63
unfolding ranges_from range_of class_for classed rule_of kind_of kind_in
returns-in-63 c = range_arm _ _ _ c.in-63.is refl refl

pub returns-in_default : goal.returns-in_default
unfolding ranges_from range_of class_for classed rule_of kind_of kind_in
returns-in_default c = range_none _ (search rules)
