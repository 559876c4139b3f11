-- `blocks::judge_run` meets its contract: the blocks that remain decide the answer (`Running`). Assumes nothing.
use Rattle.std.proofs.lemmas.Result.{err_from_is_err_and}
use Rattle.blocks.proofs.Runs.{blocks_few, running_start, running_stop, running_long, running_on, running_end}
use Rattle.blocks.proofs.judge_run.Goals as goal

pub overflow_add-number-end : goal.overflow_add-number-end
overflow_add-number-end c = record { fits = search (blocks_few, c.ranges.first.fits, c.ranges.total.fits) }

pub loop-number-init : goal.loop-number-init
loop-number-init c = running_start _ _ _

pub returns-in_err-judge : goal.returns-in_err-judge
returns-in_err-judge c =
    let told = err_from_is_err_and c.from_residual.result c.from_residual.ensures.1 in
    rw (told.1, told.2) (search (running_stop, c.in_err-judge.was))

pub slice_bounds-left-count : goal.slice_bounds-left-count
slice_bounds-left-count c = search (running_long, c.in_ok-judge.was)

pub slice_bounds-left-start : goal.slice_bounds-left-start
slice_bounds-left-start c = search (running_long, c.in_ok-judge.was)

pub loop-number-preserved : goal.loop-number-preserved
loop-number-preserved c = search (running_on, c.in_ok-judge.was)

pub returns : goal.returns
returns c = search running_end
