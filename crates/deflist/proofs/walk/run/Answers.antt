-- `deflist::walk::run` meets its contract: what is known of the parameters that are read, and those that are left,
-- decide. Assumes nothing.
use Rattle.std.proofs.lemmas.Result.{err_from_is_err_and}
use native.Mathlib.Omega.{arith}
use mathlib.Core.Logic.{inl}
use Rattle.std.proofs.Common.{rules, sym}
use Rattle.deflist.proofs.Walking.{judge_start, judge_stop, judge_on, judge_end}
use Rattle.deflist.proofs.walk.run.Goals as goal

pub loop-i-init : goal.loop-i-init
loop-i-init c = let walk = c.enumerate-i-items.ensures in
    rw (c.into_iter-i-iterator.ensures.into_iter_gives, walk.source, walk.count)
    ((tt, tt, inl (omega arith)), search (rules, judge_start))

pub returns-in_err-turn : goal.returns-in_err-turn
returns-in_err-turn c = let given = c.in-Some.ensures.steps in
    let here = rw (sym given.0.index, sym given.0.stretch, sym given.1) at c.loop-i.invariant.1 in
    let told = err_from_is_err_and c.from_residual.result c.from_residual.ensures.1 in
    rw (told.1, told.2) (search (judge_stop here given.0.listed c.repeated-found.ensures, c.in_err-turn.was))

pub loop-i-preserved : goal.loop-i-preserved
loop-i-preserved c = let given = c.in-Some.ensures.steps in
    let here = rw (sym given.0.index, sym given.0.stretch, sym given.1) at c.loop-i.invariant.1 in (
      c.in-Some.ensures.goes.keeps,
      rw (given.2, sym given.1)
          (judge_on here given.0.listed c.repeated-found.ensures c.kind_of-kind.ensures (search rules)
          c.turn.ensures c.in_ok-turn.was c.advance-u.ensures given.0.next given.0.rest),
    )

pub returns : goal.returns
returns c = let ended = c.in-None.ensures.steps in search (judge_end, ended)
