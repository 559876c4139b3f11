-- `fstring::text_length` meets its contract: the test is that of the definition. Assumes nothing.
use Rattle.fstring.proofs.Counting.{length_text, length_other}
use Rattle.fstring.proofs.text_length.Goals as goal

pub returns-then-kind-eq-TEXT : goal.returns-then-kind-eq-TEXT
returns-then-kind-eq-TEXT c = search length_text

pub returns : goal.returns
returns c = search length_other
