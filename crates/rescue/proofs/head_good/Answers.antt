-- `rescue::head_good` meets its contract: block 0, its counts, its dialect, its edition, the name blocks.
-- Assumes nothing.
use native.Mathlib.Omega.{arith}
use Rattle.tablefile.proofs.Fronts.{used_small}
use Rattle.rescue.proofs.Leaves.{head_zero, head_long, head_counts, head_dialect, head_edition, head_names}
use Rattle.rescue.proofs.Leaves.{head_passed}
use Rattle.rescue.proofs.head_good.Goals as goal

pub overflow_add-h : goal.overflow_add-h
overflow_add-h c = omega (arith, used_small)

pub overflow_add-h-2 : goal.overflow_add-h-2
overflow_add-h-2 c = omega (arith, used_small)

pub returns-in-Err : goal.returns-in-Err
returns-in-Err c = search head_zero

pub returns-then-not-counts_fit : goal.returns-then-not-counts_fit
returns-then-not-counts_fit c = search head_counts

pub returns-in-None : goal.returns-in-None
returns-in-None c = search head_dialect

pub returns-in-None-edition : goal.returns-in-None-edition
returns-in-None-edition c = search head_edition

pub slice_bounds-judge_run-count : goal.slice_bounds-judge_run-count
slice_bounds-judge_run-count c = search head_long

pub slice_bounds-judge_run-start : goal.slice_bounds-judge_run-start
slice_bounds-judge_run-start c = search head_long

pub returns-in-Ok : goal.returns-in-Ok
returns-in-Ok c = search head_passed

pub returns-in-Err-names : goal.returns-in-Err-names
returns-in-Err-names c = search head_names
