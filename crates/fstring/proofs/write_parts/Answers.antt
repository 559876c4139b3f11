-- `fstring::write_parts` meets its contract: the rest of the parts, laid over the buffer as it is, gives the buffer at
-- exit. Assumes nothing.
use borrow.Author.Rules.{rules}
use mathlib.Core.Path.{ap, ◌∙◌}
use Rattle.std.specs.Slice.Iter.{chunks_exact_rest, chunks_exact_size}
use Rattle.fstring.proofs.Counting.{pair_of}
use Rattle.fstring.proofs.Laying.{parts_start, parts_long, part_fits, part_room, parts_on, parts_end}
use Rattle.fstring.proofs.write_parts.Goals as goal

pub loop-part-init : goal.loop-part-init
loop-part-init c =
    let pairs = c.chunks_exact-part-items.ensures in
    let over = c.into_iter-part-iterator.ensures.into_iter_gives in
    record {
      can_next = search rules;
      finite = search rules;
      size = ap chunks_exact_size over ∙ pairs.size;
      writing = parts_start _ _ _ (ap chunks_exact_rest over ∙ pairs.rest) c.requires;
    }

pub slice_bounds-write_part-end : goal.slice_bounds-write_part-end
slice_bounds-write_part-end c =
    let loop = c.loop-part.invariant in
    let (_, (is, long), _) = c.in-Some.ensures.steps in
    let pair = pair_of c.in-Some.part.now _ loop.size is long in
    part_fits loop.writing pair c.text_length-n.ensures

pub write_part-at-requires : goal.write_part-at-requires
write_part-at-requires c =
    let loop = c.loop-part.invariant in
    let (_, (is, long), _) = c.in-Some.ensures.steps in
    let pair = pair_of c.in-Some.part.now _ loop.size is long in
    part_room loop.writing pair c.text_length-n.ensures

pub slice_bounds-more-count : goal.slice_bounds-more-count
slice_bounds-more-count c =
    let loop = c.loop-part.invariant in
    let (_, (is, long), _) = c.in-Some.ensures.steps in
    let pair = pair_of c.in-Some.part.now _ loop.size is long in
    part_fits loop.writing pair c.text_length-n.ensures

pub loop-part-preserved : goal.loop-part-preserved
loop-part-preserved c =
    let loop = c.loop-part.invariant in
    let (size, (is, long), _) = c.in-Some.ensures.steps in
    let pair = pair_of c.in-Some.part.now _ loop.size is long in
    let part = c.write_part-at.ensures in
    record {
      can_next = search rules;
      finite = search rules;
      size = size ∙ loop.size;
      writing = parts_on loop.writing pair c.text_length-n.ensures part.value part.out_after;
    }

pub shape_of-out : goal.shape_of-out
shape_of-out c = parts_long c.loop-part.invariant.writing

pub returns : goal.returns
returns c =
    let loop = c.loop-part.invariant in
    let (_, (few, _), _) = c.in-None.ensures.steps in
    parts_end loop.writing loop.size few
