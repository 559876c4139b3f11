-- `fstring::is_whole` meets its contract: the words that are left decide. Assumes nothing.
use borrow.Author.Rules.{rules}
use mathlib.Core.Path.{ap, ◌∙◌}
use Rattle.std.specs.Slice.Iter.{chunks_exact_rest, chunks_exact_size}
use Rattle.fstring.proofs.Counting.{pair_of, count_start, count_unsound, count_over, count_on, count_end}
use Rattle.fstring.proofs.is_whole.Goals as goal

pub loop-part-init : goal.loop-part-init
loop-part-init c =
    let pairs = c.chunks_exact-part-items.ensures in
    let over = c.into_iter-part-iterator.ensures.into_iter_gives in
    record {
      can_next = search rules;
      finite = search rules;
      size = ap chunks_exact_size over ∙ pairs.size;
      counting = count_start _ _ (ap chunks_exact_rest over ∙ pairs.rest);
    }

pub returns-then-not-sound : goal.returns-then-not-sound
returns-then-not-sound c =
    let loop = c.loop-part.invariant in
    let (_, (is, long), _) = c.in-Some.ensures.steps in
    let pair = pair_of c.in-Some.part.now _ loop.size is long in
    count_unsound loop.counting pair c.sound_part-sound.ensures c.text_length-n.ensures c.if-not-sound.true

pub returns-then-more-n : goal.returns-then-more-n
returns-then-more-n c =
    let loop = c.loop-part.invariant in
    let (_, (is, long), _) = c.in-Some.ensures.steps in
    let pair = pair_of c.in-Some.part.now _ loop.size is long in
    count_over loop.counting pair c.sound_part-sound.ensures c.text_length-n.ensures c.if-more-n.true

pub loop-part-preserved : goal.loop-part-preserved
loop-part-preserved c =
    let loop = c.loop-part.invariant in
    let (size, (is, long), _) = c.in-Some.ensures.steps in
    let pair = pair_of c.in-Some.part.now _ loop.size is long in
    record {
      can_next = search rules;
      finite = search rules;
      size = size ∙ loop.size;
      counting = count_on loop.counting pair c.sound_part-sound.ensures c.text_length-n.ensures c.if-not-sound.false
          c.if-more-n.false;
    }

pub returns : goal.returns
returns c =
    let loop = c.loop-part.invariant in
    let (_, (few, _), _) = c.in-None.ensures.steps in
    count_end loop.counting loop.size few
