-- `bind::walk::along` meets its contract: the arguments that are left decide. Assumes nothing.
use Rattle.std.proofs.Common.{rules, sym}
use Rattle.std.proofs.lemmas.Result.{err_from_is_err_and}
use Rattle.bind.proofs.Loops.{turn_start, turn_refused, turn_on, turn_end}
use Rattle.bind.proofs.walk.along.Goals as goal

pub loop-at-init : goal.loop-at-init
loop-at-init c = search (rules, turn_start)

pub returns-in_err-turn : goal.returns-in_err-turn
returns-in_err-turn c = let given = c.in-Some.ensures.steps in
    let here = rw (sym given.index, sym given.stretch) at c.loop-at.invariant in
    let told = err_from_is_err_and c.from_residual.result c.from_residual.ensures.1 in
    rw (told.1, told.2) (turn_refused here given.there c.reaches-r.ensures _ _ c.turn.ensures c.in_err-turn.was)

pub loop-at-preserved : goal.loop-at-preserved
loop-at-preserved c = let given = c.in-Some.ensures.steps in
    let here = rw (sym given.index, sym given.stretch) at c.loop-at.invariant in
    turn_on here given.there c.reaches-r.ensures _ _ c.turn.ensures c.in_ok-turn.was given.next given.rest

pub returns : goal.returns
returns c = let ended = c.in-None.ensures.steps in search (turn_end, ended)
