-- What the loop keeps.
use Rattle.std.proofs.Common.{◌≡◌}
use Rattle.validate.proofs.Sites.{Scanning}
use Rattle.validate.proofs.expressions.has_site.Given as goal

abbrev pub invariant-loop-record : goal.invariant-loop-record
invariant-loop-record l = (l.record-iterator.size ≡ 24) × Scanning l.t l.record-iterator.rest.now
