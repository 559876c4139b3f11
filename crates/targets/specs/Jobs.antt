-- The target and assignment jobs, with their refusals in the order in which they are tested (docs/RULES.md), and the
-- meaning of their answers. These are definitions.
use Rattle.std.specs.Prelude.{List, [], ◌∷◌, ℕ, Err, Ok, Result}
use Rattle.table.specs.declared.Refusal.{Refusal}
use Rattle.table.specs.Answer.{Answer, accepted, refusal}
use Rattle.table.specs.Check.{on_node}
use Rattle.table.specs.declared.Wanted.TheVariants.{Assignment, Expression}
use Rattle.targets.specs.Targets.{counted, check_assignment}

-- the meaning of an answer of the two jobs: accepted with the number of leaves, or refused
abbrev pub targeted : Result ℕ Refusal → Answer
targeted (Ok n) = accepted (n ∷ [])
targeted (Err r) = refusal r

-- the target job: 30 (not a target), or the number of leaves
abbrev pub target_of : List ℕ → List ℕ → ℕ → Answer
target_of t names i = on_node Expression (counted 0) t names i

-- the assignment job: 31, 30, 32, 33, or the number of leaves; it does not read the type, and takes no dialect
abbrev pub assignment_of : List ℕ → List ℕ → ℕ → Answer
assignment_of t names i = on_node Assignment check_assignment t names i
