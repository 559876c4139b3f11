-- `forest::marks::hash` meets its contract: what is mixed, and the bytes that are left, decide. Assumes nothing.
use borrow.Author.Rules.{rules}
use mathlib.Core.Path.{ap, ◌∙◌}
use Rattle.std.specs.Slice.Iter.{chunks_exact_rest, chunks_exact_size}
use Rattle.forest.proofs.Marked.{hash_start, hash_on, hash_end}
use Rattle.forest.proofs.marks.hash.Goals as goal

pub mix-requires : goal.mix-requires
mix-requires c = c.loop-group.invariant.hashing.small

pub loop-group-init : goal.loop-group-init
loop-group-init c =
    let groups = c.chunks_exact-groups.ensures in
    let over = c.into_iter-group-iterator.ensures.into_iter_gives in
    record {
      can_next = search rules;
      finite = search rules;
      size = ap chunks_exact_size over ∙ groups.size;
      hashing = hash_start _ (ap chunks_exact_rest over ∙ groups.rest);
    }

pub loop-group-preserved : goal.loop-group-preserved
loop-group-preserved c =
    let loop = c.loop-group.invariant in
    let (size, (is, long), _) = c.in-Some.ensures.steps in
    record {
      can_next = search rules;
      finite = search rules;
      size = size ∙ loop.size;
      hashing = hash_on loop.hashing c.mix-h.ensures c.in-Some.group.now loop.size is long c.long.ensures;
    }

pub returns : goal.returns
returns c =
    let loop = c.loop-group.invariant in
    let groups = c.chunks_exact-groups.ensures in
    let (_, (few, _), _) = c.in-None.ensures.steps in
    let rest = c.remainder-rest.ensures ∙ groups.remainder in
    hash_end loop.hashing c.mix.ensures loop.size few rest c.long-2.ensures
