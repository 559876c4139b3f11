-- `tablefile::judge_front` meets its contract: each return is one step of the check. Assumes nothing.
use Rattle.std.proofs.lemmas.Result.{err_from_is_err_and}
use native.Mathlib.Omega.{arith}
use Rattle.tablefile.proofs.Fronts.{used_small, front_zero, zero_long, front_counts, front_names, front_nodes}
use Rattle.tablefile.proofs.Fronts.{names_long, nodes_fit, first_word, first_bytes}
use Rattle.tablefile.proofs.judge_front.Goals as goal

pub overflow_add-h : goal.overflow_add-h
overflow_add-h c = omega (arith, used_small)

pub overflow_add-h-2 : goal.overflow_add-h-2
overflow_add-h-2 c = omega (arith, used_small)

pub returns-in_err-judge : goal.returns-in_err-judge
returns-in_err-judge c =
    let told = err_from_is_err_and c.from_residual.result c.from_residual.ensures.1 in
    rw (told.1, told.2) (search (front_zero, c.in_err-judge.was))

pub returns-then-not-counts_fit : goal.returns-then-not-counts_fit
returns-then-not-counts_fit c = search (front_counts, c.in_ok-judge.was)

pub slice_bounds-judge_run-count : goal.slice_bounds-judge_run-count
slice_bounds-judge_run-count c = search (zero_long, c.in_ok-judge.was)

pub slice_bounds-judge_run-start : goal.slice_bounds-judge_run-start
slice_bounds-judge_run-start c = search (zero_long, c.in_ok-judge.was)

pub returns-in_err-judge_run : goal.returns-in_err-judge_run
returns-in_err-judge_run c =
    let exit = c.from_residual-in_err-judge_run in
    let told = err_from_is_err_and exit.result exit.ensures.1 in
    rw (told.1, told.2) (search (front_names, c.in_ok-judge.was, c.in_err-judge_run.was))

pub overflow_mul-at : goal.overflow_mul-at
overflow_mul-at c = search first_bytes

pub slice_bounds-judge_run-count-2 : goal.slice_bounds-judge_run-count-2
slice_bounds-judge_run-count-2 c = search (names_long, zero_long, c.in_ok-judge.was, c.in_ok-judge_run.was)

pub slice_bounds-judge_run-start-2 : goal.slice_bounds-judge_run-start-2
slice_bounds-judge_run-start-2 c = search (names_long, zero_long, c.in_ok-judge.was, c.in_ok-judge_run.was)

pub overflow_cast-h : goal.overflow_cast-h
overflow_cast-h c = search first_word

pub overflow_mul-h : goal.overflow_mul-h
overflow_mul-h c = search nodes_fit

pub returns : goal.returns
returns c = search (front_nodes, c.in_ok-judge.was, c.in_ok-judge_run.was)
