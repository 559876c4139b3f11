-- `rescue::good_bytes` meets its contract: the blocks so far and the good ones of the rest are all (`Gathering`).
-- Assumes nothing.
use Rattle.blocks.proofs.Runs.{blocks_few}
use Rattle.rescue.proofs.Leaves.{gather_start, gather_end, gather_stop, gather_long, gather_on}
use Rattle.rescue.proofs.good_bytes.Goals as goal

pub overflow_add-number-end : goal.overflow_add-number-end
overflow_add-number-end c = record { fits = search (blocks_few, c.requires, c.ranges.total.fits) }

pub loop-number-init : goal.loop-number-init
loop-number-init c = gather_start _ _ _

pub returns-in-Err : goal.returns-in-Err
returns-in-Err c = search gather_stop

pub slice_bounds-left-count : goal.slice_bounds-left-count
slice_bounds-left-count c = search gather_long

pub slice_bounds-left-start : goal.slice_bounds-left-start
slice_bounds-left-start c =
    let blocks = c.blocks_for in
    let judge = c.judge-here in
    gather_long c.loop-number.invariant blocks.ensures c.loop-number-test.true c.used_here-used.ensures _ judge.ensures
    c.in_default.is

pub loop-number-preserved : goal.loop-number-preserved
loop-number-preserved c =
    let blocks = c.blocks_for in
    let judge = c.judge-here in
    gather_on c.loop-number.invariant blocks.ensures c.loop-number-test.true c.used_here-used.ensures _ judge.ensures
    c.in_default.is

pub returns : goal.returns
returns c = search gather_end
