-- `filepass::check_read` meets its contract: the answer for the bytes read; the array types fix the sizes. Assumes
-- nothing.
use Rattle.filepass.proofs.Listing.{read_so}
use borrow.Author.Rules.{rules}
use Rattle.filepass.proofs.check_read.Goals as goal

pub returns : goal.returns
returns c =
    let front = c.front in
    let answered = read_so _ _ front.ensures c.check_file.ensures.result_value c.check_file.ensures.errors_after in
    record {
      result_value = answered.0;
      errors_after = answered.1;
      buffer_len = search rules;
      errors_len = search rules;
    }
