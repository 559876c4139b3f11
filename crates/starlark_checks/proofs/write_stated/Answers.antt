-- `starlark_checks::write_stated` meets its contract: the answer of the job, arm by arm, and the file as the
-- job leaves it.
-- Assumes nothing.
use Rattle.starlark_checks.proofs.Told.{told_with}
use Rattle.starlark_checks.specs.Words.{words}
use Rattle.writer.specs.Writing.{written}
use Rattle.starlark_checks.proofs.write_stated.Goals as goal

pub returns-in-Ok : goal.returns-in-Ok
returns-in-Ok c =
    let write = c.write-answer in
    let all = told_with words written _ _ _ _ _ _ (write.ensures.result_value, write.ensures.file_after)
    c.in-Ok.is (c.put_count.ensures.value, c.put_count.ensures.out_after) in
    record { value = all.0; out_after = all.1.0; file_after = all.1.1 }

pub returns-in-Err : goal.returns-in-Err
returns-in-Err c =
    let write = c.write-answer in
    let all = told_with words written _ _ _ _ _ _ (write.ensures.result_value, write.ensures.file_after) c.in-Err.is
    (c.put_refused.ensures.value, c.put_refused.ensures.out_after) in
    record { value = all.0; out_after = all.1.0; file_after = all.1.1 }
