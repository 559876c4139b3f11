-- THE AUDIT: ITS LIST OF WORDS
--
-- Theorems of the crate `audit` about the answer of `audit::audit` and the list of words at exit. Each statement is
-- proved by citing the theorem. Assumes nothing.
use Rattle.std.specs.Prelude.{Ok}
use mathlib.Core.Path.{◌≡◌}
use mathlib.Core.List.{List, ◌++◌}
use Prim.Native.Nat.{ℕ, ◌*◌, ◌/◌, ◌≤◌}
use lib.ListN.{length, drop}
use Rattle.table.specs.Answer.{refused}
use Rattle.errors.specs.Errors.{width}
use Rattle.errors.specs.declared.Listing.TheVariants.{Audit}
use Rattle.errors.proofs.Storing.{all_words}
use Rattle.validate.specs.Job.{listed}
use Rattle.audit.specs.Job.{all_errors, audit_of, audit_after, enough_words}
use Rattle.audit.proofs.Theorems as theorem

-- "No refusal changes a buffer": the audit's errors
-- In words: if the audit refuses, the list of words at exit is the list at entry.
pub refusal_keeps : (t names bytes : List ℕ) (edition : ℕ) {n : ℕ} {vs : List ℕ} (xs : List ℕ)
    → audit_of t names bytes edition ≡ refused n vs
    → audit_after t names bytes edition xs ≡ xs
refusal_keeps = theorem.refusal_keeps

-- the number of errors has a limit
-- In words: the audit of a table has at most four times as many errors as nodes.
pub errors_few : (t names bytes : List ℕ) (edition : ℕ)
    → length (all_errors t names bytes edition) ≤ 4 * (length t / 24)
errors_few = theorem.errors_few

-- the same for the total that is returned
-- In words: a total that the audit returns is at most four times the number of nodes.
pub total_few : (t names bytes : List ℕ) (edition n : ℕ)
    → listed (Ok n) ≡ audit_of t names bytes edition
    → n ≤ 4 * (length t / 24)
total_few = theorem.total_few

-- a list that is large enough holds every error
-- In words: a list of words with room for four times the number of nodes holds all errors in order, and its other words
-- are unchanged.
pub list_holds_all : (t names bytes : List ℕ) (edition : ℕ) (xs : List ℕ)
    → width Audit * (4 * (length t / 24)) ≤ length xs
    → audit_after t names bytes edition xs
    ≡ all_words Audit (all_errors t names bytes edition)
    ++ drop (width Audit * length (all_errors t names bytes edition)) xs
list_holds_all = theorem.list_holds_all

-- 42,000 words are enough for every table
-- In words: a list of `enough_words` words holds all errors of any table in order, and its other words are unchanged.
pub list_has_room : (t names bytes : List ℕ) (edition : ℕ) (xs : List ℕ)
    → length xs ≡ enough_words
    → audit_after t names bytes edition xs
    ≡ all_words Audit (all_errors t names bytes edition)
    ++ drop (width Audit * length (all_errors t names bytes edition)) xs
list_has_room = theorem.list_has_room
