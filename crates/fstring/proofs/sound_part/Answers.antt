-- `fstring::sound_part` meets its contract: the test is that of the definition. Assumes nothing.
use Rattle.fstring.proofs.Counting.{sound_text, sound_other}
use Rattle.fstring.proofs.sound_part.Goals as goal

pub returns-then-kind-eq-TEXT : goal.returns-then-kind-eq-TEXT
returns-then-kind-eq-TEXT c = search sound_text

pub returns : goal.returns
returns c = search sound_other
