-- `fstring::put_pair` meets its contract: it stores two words. Assumes nothing.
use lib.Seq.{lt-length-set}
use Rattle.fstring.proofs.Laying.{pair_second, pair_laid}
use Rattle.fstring.proofs.put_pair.Goals as goal

pub bounds-words-at-2 : goal.bounds-words-at-2
bounds-words-at-2 c = search (pair_second, lt-length-set)

pub returns : goal.returns
returns c = pair_laid _ _ _ _ c.requires
