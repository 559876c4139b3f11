-- `soundness::sound::child_in` meets its contract: each test is one part of the child. Assumes nothing.
use borrow.Author.Rules.{rules}
use Rattle.soundness.specs.Packed.{in_range}
use Rattle.soundness.proofs.Records.{in_cut, in_outside, in_fits}
use Rattle.soundness.proofs.sound.child_in.Goals as goal

pub size-size-requires : goal.size-size-requires
unfolding in_range
size-size-requires c = search rules

pub whole-requires : goal.whole-requires
unfolding in_range
whole-requires c = search rules

pub returns-then-not-whole : goal.returns-then-not-whole
unfolding in_range
returns-then-not-whole c = search in_cut

pub kind-kind-requires : goal.kind-kind-requires
unfolding in_range
kind-kind-requires c = search rules

pub returns-then-not-range-kind : goal.returns-then-not-range-kind
unfolding in_range
returns-then-not-range-kind c = search in_outside

pub returns : goal.returns
unfolding in_range
returns c = search in_fits
