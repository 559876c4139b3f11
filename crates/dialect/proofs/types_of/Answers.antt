-- `dialect::types_of` meets its contract: each return is behind the tests of `types_of`. Assumes nothing.
use borrow.Author.Tests.{eq-eqb, ne_eqb}
use Rattle.dialect.proofs.types_of.Goals as goal

pub returns-then-number-eq0 : goal.returns-then-number-eq0
returns-then-number-eq0 c = simp (eq-eqb _ _ c.if-number-eq0.true)

pub returns-then-number-eq1 : goal.returns-then-number-eq1
returns-then-number-eq1 c = search (ne_eqb, eq-eqb)

pub returns : goal.returns
returns c = search ne_eqb
