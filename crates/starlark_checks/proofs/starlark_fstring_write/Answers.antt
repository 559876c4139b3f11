-- `starlark_checks::starlark_fstring_write` meets its contract: the answer of the job, arm by arm, and the text as the
-- job leaves it. Assumes nothing.
use Rattle.fstring.specs.Writing.{written}
use Rattle.starlark_checks.specs.FormatWords.{text_words}
use Rattle.starlark_checks.proofs.Told.{told_with}
use Rattle.starlark_checks.proofs.FormatTold.{text_refused}
use Rattle.starlark_checks.proofs.starlark_fstring_write.Goals as goal

pub returns-in-Ok : goal.returns-in-Ok
returns-in-Ok c =
    let write = c.write-answer in
    let all = told_with text_words written _ _ _ _ _ _ (write.ensures.result_value, write.ensures.text_after)
    c.in-Ok.is (c.put_text.ensures.value, c.put_text.ensures.out_after) in
    record { value = all.0; out_after = all.1.0; text_after = all.1.1 }

pub returns-in-Err : goal.returns-in-Err
returns-in-Err c =
    let write = c.write-answer in
    let all = told_with text_words written _ _ _ _ _ _ (write.ensures.result_value, write.ensures.text_after)
    c.in-Err.is (search text_refused) in
    record { value = all.0; out_after = all.1.0; text_after = all.1.1 }
