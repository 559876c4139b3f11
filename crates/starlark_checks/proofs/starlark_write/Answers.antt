-- `starlark_checks::starlark_write` meets its contract: what is promised of the edition that the word states.
-- Assumes nothing.

use Rattle.starlark_checks.proofs.starlark_write.Goals as goal

pub returns : goal.returns
returns c =
    let wrote = c.write_stated.ensures in
    let stated = c.stated_of.ensures in
    record {
      value = rw stated at wrote.value;
      out_after = rw stated at wrote.out_after;
      file_after = rw stated at wrote.file_after;
    }
