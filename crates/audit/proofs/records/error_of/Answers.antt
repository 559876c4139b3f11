-- `audit::records::error_of` meets its contract: one case for each form of a refusal. Assumes nothing.
use Rattle.audit.proofs.Refused.{error_bare, error_placed, error_spanned}
use Rattle.audit.proofs.records.error_of.Goals as goal

pub returns-in-Bare : goal.returns-in-Bare
returns-in-Bare c = search error_bare

pub returns-in-Placed : goal.returns-in-Placed
returns-in-Placed c = search error_placed

pub returns-in-Spanned : goal.returns-in-Spanned
returns-in-Spanned c = search error_spanned
