-- `starlark_checks::starlark_type` meets its contract: the answer of the job, arm by arm, and the shapes as the
-- job leaves them.
-- Assumes nothing.
use Rattle.starlark_checks.proofs.Told.{told_with}
use Rattle.starlark_checks.specs.Words.{words}
use mathlib.Core.Path.{refl}
use Rattle.types.specs.Jobs.{shaped}
use Rattle.starlark_checks.proofs.starlark_type.Goals as goal

pub returns-in-Ok : goal.returns-in-Ok
returns-in-Ok c =
    let type-shape = c.type_shape-answer in
    let all = told_with words shaped _ _ _ _ _ _ (type-shape.ensures.result_value, type-shape.ensures.shapes_after)
    c.in-Ok.is (refl, refl) in
    record { value = all.0; out_after = all.1.0; shapes_after = all.1.1 }

pub returns-in-Err : goal.returns-in-Err
returns-in-Err c =
    let type-shape = c.type_shape-answer in
    let all = told_with words shaped _ _ _ _ _ _ (type-shape.ensures.result_value, type-shape.ensures.shapes_after)
    c.in-Err.is (c.put_refused.ensures.value, c.put_refused.ensures.out_after) in
    record { value = all.0; out_after = all.1.0; shapes_after = all.1.1 }
