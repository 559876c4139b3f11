-- `tablefile::copy_content` meets its contract: a block is missing, the buffer is short, or the content is copied.
-- Assumes nothing.
use Rattle.tablefile.proofs.Copies.{copied_far, copied_cut, copied_long, copied_there, copied_all}
use Rattle.tablefile.proofs.copy_content.Goals as goal

pub returns-then-there-first : goal.returns-then-there-first
returns-then-there-first c = search copied_far

pub returns-then-there-first-2 : goal.returns-then-there-first-2
returns-then-there-first-2 c = search copied_cut

pub returns-then-out-len : goal.returns-then-out-len
returns-then-out-len c = search copied_long

pub copy-requires : goal.copy-requires
copy-requires c =
    let there = c.if-there-first-2 in
    let count = c.blocks_for in
    let first = c.if-there-first in
    (copied_there _ _ _ first.false count.ensures there.false, c.if-out-len.false)

pub returns : goal.returns
returns c = search copied_all
