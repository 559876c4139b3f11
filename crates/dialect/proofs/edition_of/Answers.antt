-- `dialect::edition_of` meets its contract: each return is behind the tests of `edition_of`. Assumes nothing.
use mathlib.Core.Path.{sym}
use Rattle.dialect.proofs.Editions.{edition_one, edition_two, edition_none}
use Rattle.dialect.proofs.edition_of.Goals as goal

pub returns-then-number-eq1 : goal.returns-then-number-eq1
returns-then-number-eq1 c = sym (search edition_one)

pub returns-then-number-eq2 : goal.returns-then-number-eq2
returns-then-number-eq2 c = sym (search edition_two)

pub returns : goal.returns
returns c = sym (search edition_none)
