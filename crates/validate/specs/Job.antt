-- The module job: its errors, its answer, and the list of words at exit. These are definitions.
use Rattle.std.specs.Prelude.{List, [], ◌∷◌, ℕ, length, take, Err, Ok, Result}
use Rattle.table.specs.declared.Refusal.{Refusal}
use Rattle.dialect.specs.declared.Dialect.{Dialect}
use Rattle.forest.specs.Forest.{forest}
use Rattle.table.specs.Answer.{Answer, accepted, refusal}
use Rattle.table.specs.Check.{most_bytes, Handing, in_dialect, turned_away, given_of, in_given}
use Rattle.errors.specs.declared.Finding.{Finding}
use Rattle.errors.specs.Errors.{stored}
use Rattle.errors.specs.declared.Listing.TheVariants.{Module}
use Rattle.validate.specs.Module.{validate_module}

-- what an answer of the job means: accepted with the total, or refused
abbrev pub listed : Result ℕ Refusal → Answer
listed (Ok n) = accepted (n ∷ [])
listed (Err r) = refusal r

-- the errors of any bytes in a dialect, unchecked: those of as many records as a table has at most
unfoldable pub pass_errors : Dialect → List ℕ → List ℕ → List Finding
pass_errors d names t = validate_module d names (forest 0 (take most_bytes t))

-- the errors of a module in the dialect that the job is given; a job that is turned away has none
abbrev pub errors_in : Handing → List ℕ → List ℕ → List Finding
errors_in (in_dialect d) names t = validate_module d names (forest 0 t)
errors_in (turned_away n vs) names t = []

unfoldable pub errors_of : List ℕ → List ℕ → List ℕ → List Finding
errors_of t names bytes = errors_in (given_of t names bytes) names t

-- the answer: a refusal, or how many errors there are, whether they fit or not
abbrev pub module_of : List ℕ → List ℕ → List ℕ → Answer
module_of t names bytes = in_given (given_of t names bytes) (λ _. accepted (length (errors_of t names bytes) ∷ []))

-- the list of words at exit, four an error
abbrev pub errors_after : List ℕ → List ℕ → List ℕ → List ℕ → List ℕ
errors_after t names bytes words = stored Module (errors_of t names bytes) words
