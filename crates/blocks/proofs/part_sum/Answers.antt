-- `blocks::part_sum` meets its contract: the loop keeps what the places so far add (`Adding`). Assumes nothing.
use borrow.Author.Rules.{rules}
use Rattle.blocks.proofs.Sums.{adding_start, adding_place, adding_few, adding_fits, adding_on}
use Rattle.blocks.proofs.Sums.{adding_end, adding_small}
use Rattle.blocks.proofs.part_sum.Goals as goal

pub loop-at-init : goal.loop-at-init
loop-at-init c = adding_start _ _ _ c.requires (λ i. (c.type_inv.b i).fits)

pub overflow_cast-at : goal.overflow_cast-at
overflow_cast-at c = search (rules, adding_few)

pub bounds-b-at : goal.bounds-b-at
bounds-b-at c = search (rules, adding_place)

pub overflow_add-sum : goal.overflow_add-sum
overflow_add-sum c = search adding_fits

pub loop-at-preserved : goal.loop-at-preserved
loop-at-preserved c = search adding_on

pub returns : goal.returns
returns c = search (adding_end, adding_small)
