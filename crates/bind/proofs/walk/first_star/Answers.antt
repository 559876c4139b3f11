-- `bind::walk::first_star` meets its contract: the arguments that are left decide. Assumes nothing.
use Rattle.std.proofs.Common.{rules, sym}
use Rattle.bind.proofs.Loops.{star_start, star_here, star_on, star_end}
use Rattle.bind.proofs.walk.first_star.Goals as goal

pub loop-at-init : goal.loop-at-init
loop-at-init c = search (rules, star_start)

pub returns-then-is_star : goal.returns-then-is_star
returns-then-is_star c = let given = c.in-Some.ensures.steps in
    let here = rw (sym given.index, sym given.stretch) at c.loop-at.invariant in
    search (star_here, here, given)

pub loop-at-preserved : goal.loop-at-preserved
loop-at-preserved c = let given = c.in-Some.ensures.steps in
    let here = rw (sym given.index, sym given.stretch) at c.loop-at.invariant in
    search (star_on, here, given)

pub returns : goal.returns
returns c = let ended = c.in-None.ensures.steps in search (star_end, ended)
