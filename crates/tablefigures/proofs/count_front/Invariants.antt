-- What is unread is no longer than the buffer.
use Rattle.std.proofs.Common.{◌≤◌, length}
use Rattle.tablefigures.proofs.count_front.Given as goal

abbrev pub invariant-loop : goal.invariant-loop
invariant-loop l = length l.unread ≤ length l.buffer
