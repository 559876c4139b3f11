-- `writer::write_file` meets its contract: block 0 and the two runs are the file. Assumes nothing.
use Rattle.writer.proofs.Building.{file_whole}
use Rattle.writer.proofs.write_file.Goals as goal

pub returns : goal.returns
returns c = search file_whole
