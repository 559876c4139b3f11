-- What the loop keeps.
use Rattle.std.specs.Slice.Iter.{chunks_exact_rest, chunks_exact_size}
use mathlib.Core.Path.{◌≡◌}
use Rattle.forest.proofs.Marked.{Hashing}
use Rattle.forest.proofs.marks.hash.Given as goal

abbrev pub invariant-loop-group : goal.invariant-loop-group
invariant-loop-group l = record {
  can_next : goal.iterator-loop-group.can_next l.group-iterator;
  finite : goal.iterator-loop-group.is_finite l.group-iterator;
  size : chunks_exact_size l.group-iterator ≡ 8;
  hashing : Hashing l.name l.h (chunks_exact_rest l.group-iterator);
}
