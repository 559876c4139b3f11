-- `table::span_of` meets its contract: begin, end and file are the record's. Assumes nothing.

use Rattle.table.proofs.span_of.Goals as goal

pub returns : goal.returns
returns c = cc
