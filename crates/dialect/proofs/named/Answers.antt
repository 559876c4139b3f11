-- `dialect::named` meets its contract: the record of the row that `row_named` chose. Assumes nothing.

use Rattle.dialect.proofs.named.Goals as goal

pub returns : goal.returns
returns c = cc
