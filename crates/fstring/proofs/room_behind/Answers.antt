-- `fstring::room_behind` meets its contract: the parts that are left decide. Assumes nothing.
use borrow.Author.Rules.{rules}
use mathlib.Core.Path.{ap, ◌∙◌}
use Rattle.std.specs.Slice.Iter.{chunks_exact_rest, chunks_exact_size}
use Rattle.fstring.proofs.Counting.{pair_of, spend_start, spend_fits, spend_stop, spend_on, spend_end}
use Rattle.fstring.proofs.room_behind.Goals as goal

pub loop-part-init : goal.loop-part-init
loop-part-init c =
    let pairs = c.chunks_exact-part-items.ensures in
    let over = c.into_iter-part-iterator.ensures.into_iter_gives in
    record {
      can_next = search rules;
      finite = search rules;
      size = ap chunks_exact_size over ∙ pairs.size;
      spending = spend_start _ _ _ (ap chunks_exact_rest over ∙ pairs.rest) c.requires;
    }

pub slice_bounds-room_behind_part-end : goal.slice_bounds-room_behind_part-end
slice_bounds-room_behind_part-end c =
    let loop = c.loop-part.invariant in
    let (_, (is, long), _) = c.in-Some.ensures.steps in
    let pair = pair_of c.in-Some.part.now _ loop.size is long in
    spend_fits loop.spending pair c.text_length-n.ensures

pub returns-in_err-spare : goal.returns-in_err-spare
returns-in_err-spare c =
    let loop = c.loop-part.invariant in
    let (_, (is, long), _) = c.in-Some.ensures.steps in
    let pair = pair_of c.in-Some.part.now _ loop.size is long in
    rw c.from_residual.ensures
    (spend_stop loop.spending pair c.text_length-n.ensures c.room_behind_part.ensures c.in_err-spare.was)

pub slice_bounds-more-count : goal.slice_bounds-more-count
slice_bounds-more-count c =
    let loop = c.loop-part.invariant in
    let (_, (is, long), _) = c.in-Some.ensures.steps in
    let pair = pair_of c.in-Some.part.now _ loop.size is long in
    spend_fits loop.spending pair c.text_length-n.ensures

pub loop-part-preserved : goal.loop-part-preserved
loop-part-preserved c =
    let loop = c.loop-part.invariant in
    let (size, (is, long), _) = c.in-Some.ensures.steps in
    let pair = pair_of c.in-Some.part.now _ loop.size is long in
    record {
      can_next = search rules;
      finite = search rules;
      size = size ∙ loop.size;
      spending = spend_on loop.spending pair c.text_length-n.ensures c.room_behind_part.ensures c.in_ok-spare.was;
    }

pub returns : goal.returns
returns c =
    let loop = c.loop-part.invariant in
    let (_, (few, _), _) = c.in-None.ensures.steps in
    spend_end loop.spending loop.size few
