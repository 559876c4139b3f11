-- `soundness::sound::row_sound` meets its contract: the nodes that are left decide, as in `children_sound`, and the
-- ranges that are left are those of the children that are left. Assumes nothing.
use Rattle.soundness.proofs.Ranges.{range_start, range_stop, range_on, range_end, range_room}
use Rattle.soundness.proofs.Ranges.{in_within}
use Rattle.soundness.proofs.sound.row_sound.Goals as goal

pub loop-left-init : goal.loop-left-init
loop-left-init c = search range_start

pub returns-then-e-eq0 : goal.returns-then-e-eq0
returns-then-e-eq0 c = search range_stop

pub overflow_add-ranges : goal.overflow_add-ranges
overflow_add-ranges c = search range_room

pub slice_bounds-left-count : goal.slice_bounds-left-count
slice_bounds-left-count c = search in_within

pub slice_bounds-left-start : goal.slice_bounds-left-start
slice_bounds-left-start c = search in_within

pub loop-left-preserved : goal.loop-left-preserved
loop-left-preserved c = search range_on

pub returns : goal.returns
returns c = search range_end
