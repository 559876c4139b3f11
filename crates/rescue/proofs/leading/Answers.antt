-- `rescue::leading` meets its contract: the bytes so far and the leading children of the rest are all. Assumes nothing.
use Rattle.std.proofs.Common.{rules, sym}
use Rattle.rescue.proofs.Walking.{walk_start, walk_few, walk_end, walk_stop, walk_on}
use Rattle.rescue.proofs.leading.Goals as goal

pub loop-left-init : goal.loop-left-init
loop-left-init c = search (rules, walk_start)

pub returns-then-not-can_keep : goal.returns-then-not-can_keep
returns-then-not-can_keep c = let given = c.in-Some.ensures.steps in
    let here = rw (sym given.stretch) at c.loop-left.invariant in
    search (walk_stop, walk_few, here, given)

pub loop-left-preserved : goal.loop-left-preserved
loop-left-preserved c = let given = c.in-Some.ensures.steps in
    let here = rw (sym given.stretch) at c.loop-left.invariant in
    search (walk_on, here, given)

pub returns : goal.returns
returns c = let ended = c.in-None.ensures.steps in search (walk_end, walk_few, ended)
