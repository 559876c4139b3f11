-- `arguments::in_turn` meets its contract: the arguments that are read and those that are left decide. Assumes nothing.
use Rattle.std.proofs.Common.{rules, sym}
use Rattle.std.proofs.lemmas.Result.{err_from_is_err_and}
use Rattle.arguments.proofs.Walking.{walk_start, walk_small}
use Rattle.arguments.proofs.Walking.{walk_refused, walk_on, walk_end}
use Rattle.arguments.proofs.in_turn.Goals as goal

pub loop-n-init : goal.loop-n-init
loop-n-init c = search (rules, walk_start)

pub returns-in_err-refused : goal.returns-in_err-refused
returns-in_err-refused c = let given = c.in-Some.ensures.steps in
    let here = rw (sym given.0.index, sym given.0.stretch, sym given.1) at c.loop-n.invariant.1 in
    let told = err_from_is_err_and c.from_residual.result c.from_residual.ensures.1 in
    rw (told.1, told.2) (search (walk_refused here given.0.there c.repeated-found.ensures, c.in_err-refused.was))

pub advance-w-requires : goal.advance-w-requires
advance-w-requires c = search walk_small

pub loop-n-preserved : goal.loop-n-preserved
loop-n-preserved c = let given = c.in-Some.ensures.steps in
    let here = rw (sym given.0.index, sym given.0.stretch, sym given.1) at c.loop-n.invariant.1 in (
      c.in-Some.ensures.goes.keeps,
      rw (given.2, sym given.1)
          (search (walk_on here given.0.there c.repeated-found.ensures, given, c.in_ok-refused.was)),
    )

pub returns : goal.returns
returns c = let ended = c.in-None.ensures.steps in search (walk_end, ended)
