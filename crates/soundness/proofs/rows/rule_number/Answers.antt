-- `soundness::rows::rule_number` meets its contract: each detail has its digit. Assumes nothing.
use Rattle.soundness.specs.Packed.{rules_in}
use Rattle.soundness.proofs.Packing.{rule_beyond}
use Rattle.soundness.proofs.rows.rule_number.Goals as goal

pub returns-in-1 : goal.returns-in-1
unfolding rules_in
returns-in-1 c = cc

pub returns-in-2 : goal.returns-in-2
unfolding rules_in
returns-in-2 c = cc

pub returns-in-3 : goal.returns-in-3
unfolding rules_in
returns-in-3 c = cc

pub returns-in_default : goal.returns-in_default
unfolding rules_in
returns-in_default c = search rule_beyond
