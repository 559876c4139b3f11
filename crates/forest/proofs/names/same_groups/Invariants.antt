-- What the loop keeps.
use Rattle.std.specs.Iterator.Adapters.{zip_first, zip_second}
use Rattle.std.specs.Slice.Iter.{chunks_exact_rest, chunks_exact_size}
use mathlib.Core.Path.{◌≡◌}
use Rattle.forest.proofs.Named.{Grouping}
use Rattle.forest.proofs.names.same_groups.Given as goal

abbrev pub invariant-loop-x : goal.invariant-loop-x
invariant-loop-x l = record {
  can_next : goal.iterator-loop-x.can_next l.x-iterator;
  finite : goal.iterator-loop-x.is_finite l.x-iterator;
  size : chunks_exact_size (zip_first l.x-iterator) ≡ 8;
  size' : chunks_exact_size (zip_second l.x-iterator) ≡ 8;
  grouping : Grouping l.a l.b (chunks_exact_rest (zip_first l.x-iterator))
      (chunks_exact_rest (zip_second l.x-iterator));
}
