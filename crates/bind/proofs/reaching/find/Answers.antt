-- `bind::reaching::find` meets its contract: the parameters that are left decide. Assumes nothing.
use native.Mathlib.Omega.{arith}
use Rattle.std.proofs.Common.{rules, sym}
use Rattle.bind.proofs.Loops.{find_start, find_room, find_here, find_on, find_end}
use Rattle.bind.proofs.reaching.find.Goals as goal

pub loop-left-init : goal.loop-left-init
loop-left-init c = search (rules, find_start)

pub returns-then-takes : goal.returns-then-takes
returns-then-takes c = let given = c.in-Some.ensures.steps in
    let here = rw (sym given.stretch) at c.loop-left.invariant in
    search (find_here, here, given)

pub overflow_add-flat : goal.overflow_add-flat
overflow_add-flat c = omega (arith, find_room)

pub loop-left-preserved : goal.loop-left-preserved
loop-left-preserved c = let given = c.in-Some.ensures.steps in
    let here = rw (sym given.stretch) at c.loop-left.invariant in
    find_on here given.listed c.kind_of-kind.ensures c.takes.ensures c.if-takes.false c.flats_of-flat.ensures.0
    c.next_state-state.ensures given.rest

pub returns : goal.returns
returns c = let ended = c.in-None.ensures.steps in search (find_end, ended)
