-- `fstring::run_on` meets its contract: the test is that of the definition. Assumes nothing.
use Rattle.fstring.proofs.Tallying.{run_text, run_none}
use Rattle.fstring.proofs.run_on.Goals as goal

pub returns-then-is_text : goal.returns-then-is_text
returns-then-is_text c = search run_text

pub returns : goal.returns
returns c = search run_none
