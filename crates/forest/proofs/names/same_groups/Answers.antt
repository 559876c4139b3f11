-- `forest::names::same_groups` meets its contract: what is left decides. Assumes nothing.
use borrow.Author.Rules.{rules}
use mathlib.Core.Path.{ap, ◌∙◌}
use mathlib.Core.Logic.{◌⊎◌, inl, inr, ⊎_elim}
use Prim.Native.Nat.{◌<◌}
use lib.ListN.{length}
use Rattle.std.specs.Iterator.Adapters.{zip_first, zip_second}
use Rattle.std.specs.Slice.Iter.{chunks_exact_rest, chunks_exact_size}
use Rattle.forest.proofs.Named.{grouping_start, grouping_on, grouping_stop, rests_long, grouping_end}
use Rattle.forest.proofs.names.same_groups.Goals as goal

pub loop-x-init : goal.loop-x-init
loop-x-init c =
    let groups = c.chunks_exact-groups.ensures in
    let others = c.chunks_exact-others.ensures in
    let pairs = c.zip-x-items.ensures in
    let over = c.into_iter-x-iterator.ensures.into_iter_gives in
    let first = ap zip_first over ∙ pairs.first in
    let second = ap zip_second over ∙ pairs.second in
    record {
      can_next = search rules;
      finite = search rules;
      size = ap chunks_exact_size first ∙ groups.size;
      size' = ap chunks_exact_size second ∙ others.size;
      grouping = grouping_start _ _ (λ i. (c.type_inv.a i).fits) (λ i. (c.type_inv.b i).fits) c.requires
          (ap chunks_exact_rest first ∙ groups.rest) (ap chunks_exact_rest second ∙ others.rest);
    }

pub returns-then-long : goal.returns-then-long
returns-then-long c =
    let loop = c.loop-x.invariant in
    let ((_, (first, long), _), (_, (second, long'), _)) = c.in-Some.ensures.steps in
    grouping_stop loop.grouping _ _ _ _ loop.size loop.size' first long second long' c.long.ensures
    c.long-in-loop-x.ensures c.if-long.true

pub loop-x-preserved : goal.loop-x-preserved
loop-x-preserved c =
    let loop = c.loop-x.invariant in
    let ((size, (first, long), _), (size', (second, long'), _)) = c.in-Some.ensures.steps in
    record {
      can_next = search rules;
      finite = search rules;
      size = size ∙ loop.size;
      size' = size' ∙ loop.size';
      grouping = grouping_on loop.grouping _ _ _ _ loop.size loop.size' first long second long' c.long.ensures
          c.long-in-loop-x.ensures c.if-long.false;
    }

pub same_rest-requires : goal.same_rest-requires
same_rest-requires c =
    let loop = c.loop-x.invariant in
    let rest = c.remainder-rest.ensures ∙ c.chunks_exact-groups.ensures.remainder in
    let other = c.remainder-other.ensures ∙ c.chunks_exact-others.ensures.remainder in
    let pairs = c.loop-x.x-iterator in
    let few : (length (chunks_exact_rest (zip_first pairs)) < chunks_exact_size (zip_first pairs))
    ⊎ (length (chunks_exact_rest (zip_second pairs)) < chunks_exact_size (zip_second pairs)) =
    ⊎_elim (λ p. inl p.1.1.0) (λ p. inr p.1.1.0) c.in-None.ensures.steps in
    rests_long loop.grouping loop.size loop.size' few rest other

pub returns : goal.returns
returns c =
    let loop = c.loop-x.invariant in
    let rest = c.remainder-rest.ensures ∙ c.chunks_exact-groups.ensures.remainder in
    let other = c.remainder-other.ensures ∙ c.chunks_exact-others.ensures.remainder in
    let pairs = c.loop-x.x-iterator in
    let few : (length (chunks_exact_rest (zip_first pairs)) < chunks_exact_size (zip_first pairs))
    ⊎ (length (chunks_exact_rest (zip_second pairs)) < chunks_exact_size (zip_second pairs)) =
    ⊎_elim (λ p. inl p.1.1.0) (λ p. inr p.1.1.0) c.in-None.ensures.steps in
    grouping_end loop.grouping loop.size loop.size' few rest other c.same_rest.ensures
