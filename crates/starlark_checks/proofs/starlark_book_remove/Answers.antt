-- `starlark_checks::starlark_book_remove` meets its contract: the answer of the removal is written by `put_changed`,
-- and the books are as it leaves them. Assumes nothing.
use Rattle.starlark_checks.proofs.Places.{removed_fits, changed_told}
use Rattle.starlark_checks.proofs.starlark_book_remove.Goals as goal

pub put_changed-requires : goal.put_changed-requires
put_changed-requires c =
    let job = c.remove-answer in
    removed_fits _ _ _ _ {B = Unit {0}} (job.ensures.value, tt)

pub returns : goal.returns
returns c =
    let job = c.remove-answer in
    let all = changed_told {B = Unit {0}} _ (job.ensures.value, tt)
    (c.put_changed.ensures.value, c.put_changed.ensures.out_after) in
    record {
      value = all.0;
      out_after = all.1.0;
      zone_book_after = job.ensures.zone_book_after;
      line_book_after = job.ensures.line_book_after;
    }
