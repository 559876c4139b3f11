-- `tablefile::counts_fit` meets its contract: it is the definition. Assumes nothing.
use borrow.Author.Rules.{rules}
use Rattle.tablefile.specs.Reading.{counts_fit}
use Rattle.tablefile.proofs.counts_fit.Goals as goal

pub returns : goal.returns
unfolding counts_fit
returns c = search rules
