-- `fstring::begun` meets its contract: the tests are those of the definition. Assumes nothing.
use Rattle.fstring.proofs.Tallying.{begun_first, begun_later, begun_part}
use Rattle.fstring.proofs.begun.Goals as goal

pub returns-then-run-eq0 : goal.returns-then-run-eq0
returns-then-run-eq0 c = search begun_first

pub returns-then-is_text : goal.returns-then-is_text
returns-then-is_text c = search begun_later

pub returns : goal.returns
returns c = search begun_part
