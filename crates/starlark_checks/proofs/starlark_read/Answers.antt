-- `starlark_checks::starlark_read` meets its contract: the answer of the job, arm by arm, and the buffers as the
-- job leaves them.
-- Assumes nothing.
use Rattle.std.specs.Prelude.{Err, Ok}
use Rattle.starlark_checks.proofs.Told.{held_fit, read_told}
use Rattle.starlark_checks.proofs.starlark_read.Goals as goal

pub put_held-requires : goal.put_held-requires
put_held-requires c = held_fit _ _ _ _ {B = Unit {0}} (c.read_into-answer.ensures.result_value, tt) c.in-Ok.is

pub returns-in-Ok : goal.returns-in-Ok
returns-in-Ok c =
    let read-into = c.read_into-answer in
    let all = read_told _ _ _ _ {B = Unit {0}} (read-into.ensures.result_value, tt) (Ok tt) _ _ _ c.in-Ok.is
    (c.put_held.ensures.value, c.put_held.ensures.out_after) in
    record {
      value = all.0;
      out_after = all.1.0;
      table_after = c.read_into-answer.ensures.table_after;
      names_after = c.read_into-answer.ensures.names_after;
    }

pub returns-in-Err : goal.returns-in-Err
returns-in-Err c =
    let read-into = c.read_into-answer in
    let all = read_told _ _ _ _ {B = Unit {0}} (read-into.ensures.result_value, tt) (Err _) _ _ _ c.in-Err.is
    (c.put_refused.ensures.value, c.put_refused.ensures.out_after) in
    record {
      value = all.0;
      out_after = all.1.0;
      table_after = c.read_into-answer.ensures.table_after;
      names_after = c.read_into-answer.ensures.names_after;
    }
