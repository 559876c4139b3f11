-- `bind::walk::first_empty` meets its contract: the parameters that are left decide. Assumes nothing.
use native.Mathlib.Omega.{arith}
use Rattle.std.proofs.Common.{rules, sym}
use Rattle.bind.proofs.Loops.{empty_start, empty_room, empty_here, empty_on, empty_end}
use Rattle.bind.proofs.walk.first_empty.Goals as goal

pub loop-at-init : goal.loop-at-init
loop-at-init c = search (rules, empty_start)

pub returns-then-is_empty : goal.returns-then-is_empty
returns-then-is_empty c = let given = c.in-Some.ensures.steps in
    let here = rw (sym given.index, sym given.stretch) at c.loop-at.invariant in
    search (empty_here, here, given)

pub overflow_add-flat : goal.overflow_add-flat
overflow_add-flat c = omega (arith, empty_room)

pub loop-at-preserved : goal.loop-at-preserved
loop-at-preserved c = let given = c.in-Some.ensures.steps in
    let here = rw (sym given.index, sym given.stretch) at c.loop-at.invariant in
    search (empty_on, here, given)

pub returns : goal.returns
returns c = let ended = c.in-None.ensures.steps in search (empty_end, ended)
