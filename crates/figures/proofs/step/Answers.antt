-- `figures::step` meets its contract: an empty window, 76, or the file at the front. Assumes nothing.
use Rattle.figures.proofs.Running.{step_empty, step_many, step_front}
use native.Mathlib.Omega.{arith}
use Rattle.figures.proofs.step.Goals as goal

pub returns-then-window-eq0 : goal.returns-then-window-eq0
returns-then-window-eq0 c =
    let all = step_empty _ _ c.if-window-eq0.true in
    record { value = all.0; figures_after = all.1 }

pub returns-then-figures-ge-MOST_FILES : goal.returns-then-figures-ge-MOST_FILES
returns-then-figures-ge-MOST_FILES c =
    let all = step_many _ _ c.if-window-eq0.false c.if-figures-ge-MOST_FILES.true in
    record { value = all.0; figures_after = all.1 }

pub returns : goal.returns
returns c =
    let if2 = c.if-figures-ge-MOST_FILES in
    let if1 = c.if-window-eq0 in
    let all = step_front _ _ if1.false (omega (arith, if2.false)) c.add_front.ensures.value
    c.add_front.ensures.figures_after in
    record { value = all.0; figures_after = all.1 }
