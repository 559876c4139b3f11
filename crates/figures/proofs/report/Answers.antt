-- `figures::report` meets its contract: the counters so far and the report of the rest make the report (`Running`).
-- Assumes nothing.
use native.Mathlib.Omega.{arith}
use Rattle.figures.proofs.Running.{run_start, run_fits, run_on_lem, run_stop, run_end}
use borrow.Author.Rules.{rules}
use Rattle.figures.proofs.report.Goals as goal

pub loop-at-init : goal.loop-at-init
loop-at-init c = run_start _

pub overflow_add-at : goal.overflow_add-at
overflow_add-at c =
    let loop-test = c.loop-at-test in
    let loop = c.loop-at in
    let fits = run_fits loop.invariant loop-test.true c.step-stepped.ensures.value c.step-stepped.ensures.figures_after
    c.in-Ok.is in
    search rules

pub loop-at-smaller : goal.loop-at-smaller
loop-at-smaller c =
    let loop-test = c.loop-at-test in
    let loop = c.loop-at in
    let fits = run_fits loop.invariant loop-test.true c.step-stepped.ensures.value c.step-stepped.ensures.figures_after
    c.in-Ok.is in
    omega (arith, fits)

pub loop-at-preserved : goal.loop-at-preserved
loop-at-preserved c =
    let loop-test = c.loop-at-test in
    let loop = c.loop-at in
    run_on_lem loop.invariant loop-test.true c.step-stepped.ensures.value c.step-stepped.ensures.figures_after
    c.in-Ok.is

pub returns-in-Err : goal.returns-in-Err
returns-in-Err c =
    let loop-test = c.loop-at-test in
    let loop = c.loop-at in
    run_stop loop.invariant loop-test.true c.step-stepped.ensures.value c.step-stepped.ensures.figures_after
    c.in-Err.is

pub returns : goal.returns
returns c = run_end c.loop-at.invariant c.loop-at-test.false
