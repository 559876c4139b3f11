-- `filepass::check_file` meets its contract: 70 to 75, or the answer for a file that passes them. Assumes nothing.
use Rattle.filepass.proofs.Listing.{file_refused, file_small, file_passes}
use Rattle.filepass.proofs.check_file.Goals as goal

pub returns-in-Err : goal.returns-in-Err
returns-in-Err c =
    let judge = c.judge_file-judged in
    let all = file_refused _ _ judge.ensures _ c.in-Err.is in
    record { result_value = all.0; errors_after = all.1 }

pub check_few-requires : goal.check_few-requires
check_few-requires c = file_small _ _ c.judge_file-judged.ensures c.in_default.is c.header-h.ensures c.if-h.true

pub check_many-requires : goal.check_many-requires
check_many-requires c = file_passes _ _ c.judge_file-judged.ensures c.in_default.is
