-- `rescue::rescue_named` meets its contract: the good records are copied. Assumes nothing.
use native.Mathlib.Omega.{arith}
use Rattle.rescue.proofs.Jobs.{into_at, into_word, into_table, into_there, into_few, into_goods}
use Rattle.rescue.proofs.rescue_named.Goals as goal

pub overflow_mul-at : goal.overflow_mul-at
overflow_mul-at c = search into_at

pub slice_bounds-good_bytes-count : goal.slice_bounds-good_bytes-count
slice_bounds-good_bytes-count c = search into_there

pub slice_bounds-good_bytes-start : goal.slice_bounds-good_bytes-start
slice_bounds-good_bytes-start c = search into_there

pub overflow_mul-h : goal.overflow_mul-h
overflow_mul-h c = search into_table

pub good_bytes-got-requires : goal.good_bytes-got-requires
good_bytes-got-requires c = search into_word

pub slice_bounds-table-end : goal.slice_bounds-table-end
slice_bounds-table-end c =
    let good-bytes = c.good_bytes-got in
    omega (arith, into_few c.requires good-bytes.ensures)

pub rescue_good-requires : goal.rescue_good-requires
rescue_good-requires c = search into_goods
