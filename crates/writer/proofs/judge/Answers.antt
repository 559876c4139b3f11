-- `writer::judge` meets its contract: 1 to 5, then 7. Assumes nothing.
use Rattle.std.proofs.Common.{rules}
use Rattle.writer.proofs.Jobs.{job_refused, job_few, job_room}
use Rattle.writer.proofs.judge.Goals as goal

pub room_for-requires : goal.room_for-requires
room_for-requires c = search (job_few, c.in_ok-enter_rules.was)

pub returns : goal.returns
returns c = search (job_room, c.in_ok-enter_rules.was)

pub returns-in_err-enter_rules : goal.returns-in_err-enter_rules
returns-in_err-enter_rules c = search (rules, job_refused)
