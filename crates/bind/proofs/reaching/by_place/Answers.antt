-- `bind::reaching::by_place` meets its contract: below num_positional a parameter, else `*args`. Assumes nothing.
use Rattle.bind.proofs.Steps.{place_fills, place_joins}
use Rattle.bind.proofs.reaching.by_place.Goals as goal

pub returns-then-k-d : goal.returns-then-k-d
returns-then-k-d c = search place_fills

pub returns : goal.returns
returns c = search place_joins
