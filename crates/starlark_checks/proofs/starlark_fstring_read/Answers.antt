-- `starlark_checks::starlark_fstring_read` meets its contract: the answer of the job, arm by arm, and the buffers as
-- the job leaves them. Assumes nothing.
use Rattle.fstring.specs.Reading.{got}
use Rattle.starlark_checks.specs.FormatWords.{part_words}
use Rattle.starlark_checks.proofs.Told.{told}
use Rattle.starlark_checks.proofs.FormatTold.{short_put}
use Rattle.starlark_checks.proofs.starlark_fstring_read.Goals as goal

pub returns-in-Accepted : goal.returns-in-Accepted
returns-in-Accepted c =
    let read = c.read-answer in
    let all = told part_words got _ _ _ _ _ _ read.ensures.result_value c.in-Accepted.is
    (c.put_parts.ensures.value, c.put_parts.ensures.out_after) in
    record {
      value = all.0;
      out_after = all.1;
      parts_after = c.read-answer.ensures.parts_after;
      texts_after = c.read-answer.ensures.texts_after;
    }

pub returns-in-StrayAt : goal.returns-in-StrayAt
returns-in-StrayAt c =
    let read = c.read-answer in
    let all = told part_words got _ _ _ _ _ _ read.ensures.result_value c.in-StrayAt.is
    (c.put_stray.ensures.value, c.put_stray.ensures.out_after) in
    record {
      value = all.0;
      out_after = all.1;
      parts_after = c.read-answer.ensures.parts_after;
      texts_after = c.read-answer.ensures.texts_after;
    }

pub returns-in-Short : goal.returns-in-Short
returns-in-Short c =
    let all = told part_words got _ _ _ _ _ _ c.read-answer.ensures.result_value c.in-Short.is (short_put _) in
    record {
      value = all.0;
      out_after = all.1;
      parts_after = c.read-answer.ensures.parts_after;
      texts_after = c.read-answer.ensures.texts_after;
    }
