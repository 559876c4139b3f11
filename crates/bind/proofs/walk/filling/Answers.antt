-- `bind::walk::filling` meets its contract: 83, or both words. Assumes nothing.
use Rattle.bind.proofs.Steps.{turn_taken, turn_fills}
use Rattle.bind.proofs.walk.filling.Goals as goal

pub returns-then-word-gt0 : goal.returns-then-word-gt0
returns-then-word-gt0 c = search turn_taken

pub returns : goal.returns
returns c = search turn_fills
