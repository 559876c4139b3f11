-- `tablefile::judge_file` meets its contract: refused by a block, by bytes left over, or neither. Assumes nothing.
use Rattle.tablefile.proofs.Lends.{file_blocks, file_left, file_passed}
use Rattle.tablefile.proofs.judge_file.Goals as goal

pub returns-in-Err : goal.returns-in-Err
returns-in-Err c = search file_blocks

pub returns-then-h-file : goal.returns-then-h-file
returns-then-h-file c = search file_left

pub returns : goal.returns
returns c = search file_passed
