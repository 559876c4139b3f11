-- What the loop keeps.
use Rattle.std.specs.Slice.Iter.{chunks_exact_rest, chunks_exact_size}
use mathlib.Core.Path.{◌≡◌}
use Rattle.fstring.proofs.Counting.{Spending}
use Rattle.fstring.proofs.room_behind.Given as goal

abbrev pub invariant-loop-part : goal.invariant-loop-part
invariant-loop-part l = record {
  can_next : goal.iterator-loop-part.can_next l.part-iterator;
  finite : goal.iterator-loop-part.is_finite l.part-iterator;
  size : chunks_exact_size l.part-iterator ≡ 2;
  spending : Spending l.parts l.texts l.room (chunks_exact_rest l.part-iterator) l.more l.spare;
}
