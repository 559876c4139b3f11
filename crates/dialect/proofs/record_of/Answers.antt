-- `dialect::record_of` meets its contract: field by field it is `record_of`. Assumes nothing.
use Rattle.dialect.specs.Rows.{record_of}
use Rattle.dialect.proofs.record_of.Goals as goal

pub returns : goal.returns
unfolding record_of
returns c = cc
