-- `rescue::cut` meets its contract: no Statements, no child, a root at fault, or the leading children. Assumes nothing.
use Rattle.rescue.proofs.Cutting.{cut_other, cut_big, cut_from, cut_row, cut_zero, cut_word, cut_part}
use Rattle.rescue.proofs.Cutting.{cut_same, cut_bad, cut_good}
use Rattle.rescue.proofs.cut.Goals as goal

pub returns-then-kind-ne-STATEMENTS : goal.returns-then-kind-ne-STATEMENTS
returns-then-kind-ne-STATEMENTS c = search cut_other

pub slice_bounds-leading-count : goal.slice_bounds-leading-count
slice_bounds-leading-count c = search cut_from

pub slice_bounds-leading-start : goal.slice_bounds-leading-start
slice_bounds-leading-start c = search cut_from

pub leading-done-requires : goal.leading-done-requires
leading-done-requires c = search cut_row

pub returns-then-done-eq0 : goal.returns-then-done-eq0
returns-then-done-eq0 c = search cut_zero

pub resize-requires : goal.resize-requires
resize-requires c = search (cut_big, cut_word)

pub slice_bounds-sound-end : goal.slice_bounds-sound-end
slice_bounds-sound-end c = search cut_part

pub shape_of-table-then-not-sound : goal.shape_of-table-then-not-sound
shape_of-table-then-not-sound c = search cut_same

pub returns-then-not-sound : goal.returns-then-not-sound
returns-then-not-sound c = search cut_bad

pub shape_of-table : goal.shape_of-table
shape_of-table c = search cut_same

pub returns : goal.returns
returns c = search cut_good
