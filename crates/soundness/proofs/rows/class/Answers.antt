-- `soundness::rows::class` meets its contract: it is a digit of the packed row. Assumes nothing.

use Rattle.soundness.proofs.rows.class.Goals as goal

pub returns : goal.returns
returns c = c.row_of.ensures.class
