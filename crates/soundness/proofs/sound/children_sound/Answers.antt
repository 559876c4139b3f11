-- `soundness::sound::children_sound` meets its contract: the nodes that are left decide, and their number at the end.
-- Assumes nothing.
use Rattle.soundness.proofs.Packing.{class_wanted}
use Rattle.soundness.proofs.Records.{child_within, fit_start, fit_index, fit_stop, fit_on, fit_end}
use Rattle.soundness.proofs.sound.children_sound.Goals as goal

pub loop-left-init : goal.loop-left-init
loop-left-init c = fit_start _ _

pub returns-then-e-eq0 : goal.returns-then-e-eq0
returns-then-e-eq0 c = search (fit_stop, class_wanted, fit_index, c.class_wanted.ensures)

pub slice_bounds-left-count : goal.slice_bounds-left-count
slice_bounds-left-count c = search child_within

pub slice_bounds-left-start : goal.slice_bounds-left-start
slice_bounds-left-start c = search child_within

pub loop-left-preserved : goal.loop-left-preserved
loop-left-preserved c = search (fit_on, class_wanted, fit_index, c.class_wanted.ensures)

pub returns : goal.returns
returns c = search fit_end
