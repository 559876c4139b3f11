-- What the loop keeps.
use Rattle.std.specs.Slice.Iter.{chunks_rest, chunks_size}
use Rattle.std.specs.Iterator.Adapters.{enumerate_source, enumerate_count}
use mathlib.Core.Path.{◌≡◌}
use Rattle.writer.proofs.Building.{Writing}
use Rattle.writer.proofs.write_run.Given as goal

abbrev pub invariant-loop-done : goal.invariant-loop-done
invariant-loop-done l = record {
  can_next : goal.iterator-loop-done.can_next l.done-iterator;
  finite : goal.iterator-loop-done.is_finite l.done-iterator;
  size : chunks_size (enumerate_source l.done-iterator) ≡ 504;
  writing : Writing l.initial.out l.content l.first l.out (chunks_rest (enumerate_source l.done-iterator))
      (enumerate_count l.done-iterator);
}
