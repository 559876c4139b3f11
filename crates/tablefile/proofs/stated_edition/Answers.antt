-- `tablefile::stated_edition` meets its contract: the file ends before the byte, no edition is stated, or the byte is
-- it. Assumes nothing.
use native.Mathlib.Omega.{arith}
use Rattle.tablefile.proofs.Lends.{edition_away, edition_absent, edition_there}
use Rattle.tablefile.proofs.stated_edition.Goals as goal

pub returns-then-file-lt18 : goal.returns-then-file-lt18
returns-then-file-lt18 c = search edition_away

pub returns-then-edition_in-eq0 : goal.returns-then-edition_in-eq0
returns-then-edition_in-eq0 c = search edition_absent

pub overflow_cast-result : goal.overflow_cast-result
overflow_cast-result c = record { fits = omega (arith, (c.type_inv.file 17).fits) }

pub returns : goal.returns
returns c =
    let test = c.if-edition_in-eq0 in
    let edition-in = c.edition_in in
    let half = c.half in
    let long = c.if-file-lt18 in
    edition_there _ half.ensures edition-in.ensures test.false long.false
