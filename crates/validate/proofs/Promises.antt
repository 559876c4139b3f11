-- Two answers that meet the promise of a public function coincide, and so do the two lists of words: a promise is an
-- equation for each of them, and an answer is determined by what it means (`listed_injective`). Each statement is
-- written from its function's contract, which tools/promises.py checks. Assumes nothing.
use Rattle.std.specs.Prelude.{Err, Ok, Result, ℕ}
use Rattle.table.specs.declared.Refusal.{Refusal}
use mathlib.Core.Path.{◌≡◌, sym, ap}
use mathlib.Core.List.{List}
use Prim.Native.Nat.{ℕ}
use lib.ListN.{length}
use Rattle.dialect.specs.declared.Dialect.{Dialect}
use Rattle.errors.specs.Errors.{kept, stored}
use Rattle.errors.specs.declared.Listing.{Listing}
use Rattle.fields.proofs.Coincide.{coincide, coincide_by}
use Rattle.table.proofs.Answers.{refusal_injective, never_accepted}
use Rattle.validate.specs.Job.{listed, pass_errors, module_of, errors_after}

pub listed_injective : (r s : Result ℕ Refusal) → listed r ≡ listed s → r ≡ s
listed_injective (Ok m) (Ok n) e = cc
listed_injective (Ok m) (Err r) e = never_accepted r (sym e)
listed_injective (Err r) (Ok n) e = never_accepted r e
listed_injective (Err r) (Err s) e = ap Err (refusal_injective r s e)

-- of `module`
pub module_one : (table names dialect errors : List ℕ) {r s : Result ℕ Refusal} {errors-r errors-s : List ℕ}
    → listed r ≡ module_of table names dialect → errors-r ≡ errors_after table names dialect errors
    → listed s ≡ module_of table names dialect → errors-s ≡ errors_after table names dialect errors
    → (r ≡ s) × (errors-r ≡ errors-s)
module_one table names dialect errors r-is errors-is s-is errors-are =
    (coincide_by listed listed_injective r-is s-is, coincide errors-is errors-are)

-- of `pass`
pub pass_one : (listing : Listing) (table names : List ℕ) (d : Dialect) (errors : List ℕ) {r s : ℕ}
    {errors-r errors-s : List ℕ} → r ≡ length (kept listing (pass_errors d names table))
    → errors-r ≡ stored listing (kept listing (pass_errors d names table)) errors
    → s ≡ length (kept listing (pass_errors d names table))
    → errors-s ≡ stored listing (kept listing (pass_errors d names table)) errors → (r ≡ s) × (errors-r ≡ errors-s)
pass_one listing table names d errors r-is errors-is s-is errors-are =
    (coincide r-is s-is, coincide errors-is errors-are)
