-- `namesakes::along` meets its contract: the arguments that are left decide. Assumes nothing.
use native.Mathlib.Omega.{arith}
use Rattle.std.proofs.Common.{rules, sym}
use Rattle.namesakes.proofs.Loops.{scan_start, scan_fits, scan_lent, put_few, scan_on, scan_end}
use Rattle.namesakes.proofs.along.Goals as goal

pub loop-at-init : goal.loop-at-init
loop-at-init c = search (rules, scan_start)

pub overflow_mul-next : goal.overflow_mul-next
overflow_mul-next c = omega (arith, scan_fits)

pub offset_bounds-list-next : goal.offset_bounds-list-next
offset_bounds-list-next c = omega (arith, scan_fits)

pub slice_bounds-put-count : goal.slice_bounds-put-count
slice_bounds-put-count c = omega (arith, scan_fits)

pub slice_bounds-put-start : goal.slice_bounds-put-start
slice_bounds-put-start c = omega (arith, scan_fits)

pub slice_bounds-put-end : goal.slice_bounds-put-end
slice_bounds-put-end c = omega (arith, scan_fits)

pub put-found-requires : goal.put-found-requires
put-found-requires c = let given = c.in-Some.ensures.steps in
    let here = rw (sym given.index, sym given.stretch) at c.loop-at.invariant in
    search (scan_lent, here, given)

pub overflow_add-found : goal.overflow_add-found
overflow_add-found c = omega (arith, scan_fits, put_few _ _ _ _ c.put-found.ensures.value)

pub loop-at-preserved : goal.loop-at-preserved
loop-at-preserved c = let given = c.in-Some.ensures.steps in
    let here = rw (sym given.index, sym given.stretch) at c.loop-at.invariant in
    let put = c.put-found.ensures in
    scan_on here given.there c.namesake-q.ensures c.word-p.ensures given.next given.rest put.value put.list_after
    (omega arith)

pub returns : goal.returns
returns c = let all = scan_end c.loop-at.invariant c.in-None.ensures.steps in
    record { by_index = all.0; result_in_bounds = all.1.0; by_index_2 = all.1.1 }
