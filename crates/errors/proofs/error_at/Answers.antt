-- `errors::error_at` meets its contract: the span is that of the record. Assumes nothing.

use Rattle.errors.proofs.error_at.Goals as goal

pub returns : goal.returns
returns c = cc
