-- `bind::walk::fill` meets its contract: 80, then 81 to 83, then 84. Assumes nothing.
use Rattle.bind.proofs.Whole.{filled}
use Rattle.bind.proofs.walk.fill.Goals as goal

pub returns : goal.returns
returns c =
    let first-star = c.first_star-starred in
    let along = c.along-walked in
    let first_empty = c.first_empty-empty in
    let first_of = c.first_of in
    filled _ _ _ _ _ _ _ _ first-star.result along.result first_empty.result first_of.result c.first_of-2.result
    first-star.ensures along.ensures first_empty.ensures first_of.ensures c.first_of-2.ensures
