-- `audit::records::of_call` meets its contract: the refusal, if there is one. Assumes nothing.
use Rattle.std.proofs.Common.{rules}
use Rattle.audit.proofs.Refused.{call_refused}
use Rattle.audit.proofs.records.of_call.Goals as goal

pub returns-in_err-answer : goal.returns-in_err-answer
returns-in_err-answer c = search (rules, call_refused)
