-- `namesakes::word` meets its contract: beyond the last word there is 0. Assumes nothing.
use Rattle.bind.proofs.Steps.{word_beyond}
use Rattle.namesakes.proofs.word.Goals as goal

pub returns-then-words-i : goal.returns-then-words-i
returns-then-words-i c = search word_beyond
