-- `bind::words::store` meets its contract: beyond the last word nothing is written. Assumes nothing.
use Rattle.bind.proofs.Steps.{store_beyond}
use Rattle.bind.proofs.words.store.Goals as goal

pub returns-then-words-i : goal.returns-then-words-i
returns-then-words-i c = search store_beyond
