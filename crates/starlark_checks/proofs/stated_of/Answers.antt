-- `starlark_checks::stated_of` meets its contract: by cases of the test. Assumes nothing.
use borrow.Author.Tests.{eq-eqb, ne_eqb}
use Rattle.starlark_checks.proofs.stated_of.Goals as goal

pub returns-then-edition-eq4294967295 : goal.returns-then-edition-eq4294967295
returns-then-edition-eq4294967295 c = simp (eq-eqb _ _ c.if-edition-eq4294967295.true)

pub returns : goal.returns
returns c = simp (ne_eqb _ _ c.if-edition-eq4294967295.false)
