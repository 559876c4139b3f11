-- `starlark_checks::starlark_figures_step` meets its contract: the answer of the step, arm by arm, and the counters as
-- it leaves them. Assumes nothing.
use mathlib.Core.Path.{refl, ap}
use borrow.Author.Rules.{rules}
use Rattle.starlark_checks.specs.Words.{words}
use Rattle.starlark_checks.specs.FigureWords.{step_answer}
use Rattle.starlark_checks.proofs.Told.{told_with}
use Rattle.starlark_checks.proofs.FigureTold.{step_fits}
use Rattle.starlark_checks.proofs.starlark_figures_step.Goals as goal

pub put_taken-requires : goal.put_taken-requires
put_taken-requires c = search (rules, step_fits)

pub returns-in-Ok : goal.returns-in-Ok
returns-in-Ok c =
    let job = c.step-answer in
    let all = told_with words step_answer _ _ _ _ _ _ (ap step_answer job.ensures.value, job.ensures.figures_after)
    c.in-Ok.is
    (c.put_taken.ensures.value, c.put_taken.ensures.out_after) in
    record { value = all.0; out_after = all.1.0; figures_after = all.1.1 }

pub returns-in-Err : goal.returns-in-Err
returns-in-Err c =
    let job = c.step-answer in
    let all = told_with words step_answer _ _ _ _ _ _ (ap step_answer job.ensures.value, job.ensures.figures_after)
    c.in-Err.is
    (refl, refl) in record { value = all.0; out_after = all.1.0; figures_after = all.1.1 }
