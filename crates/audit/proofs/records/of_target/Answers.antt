-- `audit::records::of_target` meets its contract: the refusal, if there is one. Assumes nothing.
use Rattle.std.proofs.Common.{rules}
use Rattle.audit.proofs.Refused.{target_refused}
use Rattle.audit.proofs.records.of_target.Goals as goal

pub returns-in_err-answer : goal.returns-in_err-answer
returns-in_err-answer c = search (rules, target_refused)
