-- `table::depth::deep_from` meets its contract: of nodes side by side one is too deep, or one below it, or one after
-- it.
-- Assumes nothing.
use Rattle.std.proofs.Common.{rules, sym}
use Rattle.table.proofs.Deep.{deep_start, deep_none, deep_here, deep_below, deep_on, deep_few, deep_end}
use Rattle.table.proofs.depth.+deep_from.Goals as goal

pub loop-i-init : goal.loop-i-init
loop-i-init t c = search (rules, deep_start)

pub returns-then-depth-left-le-MOST_DEPTH : goal.returns-then-depth-left-le-MOST_DEPTH
returns-then-depth-left-le-MOST_DEPTH t c = let given = c.in-Some.ensures.steps in
    let here = rw (sym given.index, sym given.stretch) at c.loop-i.invariant in
    search (deep_none, here)

pub returns-then-here-gt-MOST_DEPTH : goal.returns-then-here-gt-MOST_DEPTH
returns-then-here-gt-MOST_DEPTH t c = let given = c.in-Some.ensures.steps in
    let here = rw (sym given.index, sym given.stretch) at c.loop-i.invariant in
    search (deep_here, here)

pub returns-in-Some-below : goal.returns-in-Some-below
returns-in-Some-below t c = let given = c.in-Some.ensures.steps in
    let here = rw (sym given.index, sym given.stretch) at c.loop-i.invariant in
    search (deep_below, here)

pub loop-i-preserved-in_default : goal.loop-i-preserved-in_default
loop-i-preserved-in_default t c = let given = c.in-Some.ensures.steps in
    let here = rw (sym given.index, sym given.stretch) at c.loop-i.invariant in
    deep_on here c.if-depth-left-le-MOST_DEPTH.false c.weight_of.ensures.0 c.if-here-gt-MOST_DEPTH.false
    c.span-e.ensures _ c.deep_from-below.ensures c.in_default.is given.next given.rest

pub loop-i-preserved : goal.loop-i-preserved
loop-i-preserved t c = let given = c.in-Some.ensures.steps in
    let here = rw (sym given.index, sym given.stretch) at c.loop-i.invariant in
    deep_few here c.if-depth-left-le-MOST_DEPTH.false c.weight_of.ensures.0 c.if-here-gt-MOST_DEPTH.false
    c.span-e.ensures c.if-here-e-gt-MOST_DEPTH.false given.next given.rest

pub returns : goal.returns
returns t c = let ended = c.in-None.ensures.steps in search (deep_end, ended)
