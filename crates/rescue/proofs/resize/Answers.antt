-- `rescue::resize` meets its contract: two bytes are stored. Assumes nothing.
use borrow.Author.Rules.{rules}
use Rattle.rescue.specs.Cut.{resized}
use Rattle.rescue.proofs.Leaves.{resize_fits}
use Rattle.rescue.proofs.resize.Goals as goal

pub bounds-table-17 : goal.bounds-table-17
unfolding resized
bounds-table-17 c = search resize_fits

pub returns : goal.returns
unfolding resized
returns c = search rules
