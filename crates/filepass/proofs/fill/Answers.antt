-- `filepass::fill` meets its contract: both copies are made, because the blocks are there and the arrays have room.
-- Assumes nothing.
use Rattle.filepass.proofs.Listing.{fill_fits, filled}
use Rattle.filepass.proofs.fill.Goals as goal

pub overflow_mul-h : goal.overflow_mul-h
overflow_mul-h c =
    record {
      fits = fill_fits _ c.args.table.now c.args.names.now c.requires c.header-h.ensures;
    }

pub returns : goal.returns
returns c =
    let names = c.copy_content-2 in
    let header = c.header-h in
    filled _ c.args.table.now c.args.names.now c.requires header.ensures c.copy_content.ensures
    names.ensures
