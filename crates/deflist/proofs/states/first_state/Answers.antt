-- `deflist::states::first_state` meets its contract: the test is the definition's. Assumes nothing.
use mathlib.Core.Path.{refl}
use borrow.Author.Tests.{eq-eqb, ne_eqb}
use Rattle.deflist.proofs.states.first_state.Goals as goal

pub returns-then-only-eq0 : goal.returns-then-only-eq0
returns-then-only-eq0 c = rw (eq-eqb _ _ c.if-only-eq0.true) refl

pub returns : goal.returns
returns c = rw (ne_eqb _ _ c.if-only-eq0.false) refl
