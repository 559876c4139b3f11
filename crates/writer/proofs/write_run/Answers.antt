-- `writer::write_run` meets its contract: the remaining blocks, written over the buffer, make the run (`Writing`).
-- Assumes nothing.
use borrow.Author.Rules.{rules}
use native.Mathlib.Omega.{arith}
use mathlib.Core.Path.{◌∙◌}
use Rattle.writer.proofs.Building.{run_place, run_block, run_on_lem, run_end}
use Rattle.writer.proofs.write_run.Goals as goal

pub slice_bounds-write_block-count : goal.slice_bounds-write_block-count
slice_bounds-write_block-count c =
    let ((_, (_, _, more)), at, _, _) = c.in-Some.ensures.steps in
    run_place c.loop-done.invariant.writing more at

pub write_block-requires : goal.write_block-requires
write_block-requires c =
    let loop = c.loop-done.invariant in
    let ((_, (_, few, more)), at, _, _) = c.in-Some.ensures.steps in
    (omega (arith, loop.size, few), run_block loop.writing more at)

pub loop-done-preserved : goal.loop-done-preserved
loop-done-preserved c =
    let loop = c.loop-done.invariant in
    let ((size, (is, few, more)), at, next, _) = c.in-Some.ensures.steps in
    record {
      can_next = search rules;
      finite = search rules;
      size = size ∙ loop.size;
      writing = run_on_lem loop.writing more c.in-Some.piece.now at next loop.size is few c.write_block.ensures;
    }

pub returns : goal.returns
returns c =
    let ((_, (none, _)), _) = c.in-None.ensures.steps in
    run_end c.loop-done.invariant.writing none
