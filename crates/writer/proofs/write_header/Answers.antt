-- `writer::write_header` meets its contract: the counts, the dialect and the edition are block 0's content.
-- Assumes nothing.
use borrow.Author.Rules.{rules}
use Rattle.writer.proofs.Building.{header_room, header_used, header_small, header_whole}
use Rattle.writer.proofs.write_header.Goals as goal

pub put_edition-used-requires : goal.put_edition-used-requires
put_edition-used-requires c = search (rules, header_room)

pub slice_bounds-write_block-end : goal.slice_bounds-write_block-end
slice_bounds-write_block-end c = search header_used

pub write_block-requires : goal.write_block-requires
write_block-requires c = search (rules, header_small)

pub returns : goal.returns
returns c = search header_whole
