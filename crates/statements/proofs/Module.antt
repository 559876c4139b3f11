-- THE MODULE PASS
--
-- Theorems of the crate `validate` about the answer of `validate::module` and the list of words at exit. Each statement
-- is proved by citing the theorem. Assumes nothing.
use Rattle.std.specs.Prelude.{Ok}
use mathlib.Core.Path.{◌≡◌}
use mathlib.Core.List.{List, ◌++◌}
use Prim.Native.Nat.{ℕ, ◌*◌, ◌/◌, ◌≤◌}
use lib.ListN.{length, drop}
use Rattle.table.specs.Answer.{refused}
use Rattle.errors.specs.Errors.{width}
use Rattle.errors.specs.declared.Listing.TheVariants.{Module}
use Rattle.errors.proofs.Storing.{all_words}
use Rattle.validate.specs.Job.{errors_of, module_of, errors_after, listed}
use Rattle.validate.proofs.Theorems as theorem

-- "No refusal changes a buffer": errors
-- In words: if the job refuses, the list of words at exit is the list at entry.
pub refusal_keeps : (t names bytes : List ℕ) {n : ℕ} {vs : List ℕ} (xs : List ℕ)
    → module_of t names bytes ≡ refused n vs
    → errors_after t names bytes xs ≡ xs
refusal_keeps = theorem.refusal_keeps

-- "Answer: the total, never more than twice the node count"
-- In words: a table has at most twice as many errors as nodes.
pub errors_few : (t names bytes : List ℕ) → length (errors_of t names bytes) ≤ 2 * (length t / 24)
errors_few = theorem.errors_few

-- "never more than twice the node count": the total that is returned
-- In words: a total that the job returns is at most twice the number of nodes.
pub total_few : (t names bytes : List ℕ) (n : ℕ)
    → listed (Ok n) ≡ module_of t names bytes
    → n ≤ 2 * (length t / 24)
total_few = theorem.total_few

-- "the first errors that fit whole are stored, other words stay"
-- In words: a list of words with room for twice the number of nodes holds all errors in order, and its other words are
-- unchanged.
pub list_holds_all : (t names bytes xs : List ℕ)
    → width Module * (2 * (length t / 24)) ≤ length xs
    → errors_after t names bytes xs
    ≡ all_words Module (errors_of t names bytes) ++ drop (width Module * length (errors_of t names bytes)) xs
list_holds_all = theorem.list_holds_all
