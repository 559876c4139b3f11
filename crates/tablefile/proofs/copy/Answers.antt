-- `tablefile::copy` meets its contract: the copied bytes and the remaining blocks make the content (`Copying`).
-- Assumes nothing.
use native.Mathlib.Omega.{arith}
use Rattle.tablefile.proofs.Copies.{begun, turns_start, turns_room, turns_fit, turns_on, turns_end}
use Rattle.tablefile.proofs.copy.Goals as goal

pub loop-i-init : goal.loop-i-init
loop-i-init c = search turns_start

pub put-requires : goal.put-requires
put-requires c =
    let blocks = c.blocks_for-i-end in
    let used = c.used_here-used in
    turns_fit c.loop-i.invariant blocks.ensures c.loop-i-test.true used.ensures c.content.ensures

pub overflow_sub-len : goal.overflow_sub-len
overflow_sub-len c = let before = begun c.args.len c.blocks_for-i-end.ensures c.loop-i-test.true in omega arith

pub slice_bounds-put-count : goal.slice_bounds-put-count
slice_bounds-put-count c = search turns_room

pub slice_bounds-put-start : goal.slice_bounds-put-start
slice_bounds-put-start c = search turns_room

pub loop-i-preserved : goal.loop-i-preserved
loop-i-preserved c = search turns_on

pub returns : goal.returns
returns c = search turns_end
