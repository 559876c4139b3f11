-- The contract of each public function leaves one answer: two answers that meet it are equal, and so are the two lists
-- of words at exit, for every input. The contracts equate the meaning of the answer, or the answer itself, and the
-- words with definitions; no two answers have the same meaning (`listed_injective` of validate). Assumes nothing.
use Rattle.std.specs.Prelude.{Result, ℕ}
use Rattle.table.specs.declared.Refusal.{Refusal}
use mathlib.Core.Path.{◌≡◌}
use mathlib.Core.List.{List}
use Prim.Native.Nat.{ℕ}
use lib.ListN.{length}
use Rattle.fields.proofs.Coincide.{coincide, coincide_by}
use Rattle.dialect.specs.declared.Dialect.{Dialect}
use Rattle.dialect.specs.declared.Edition.{Edition}
use Rattle.errors.specs.Errors.{stored}
use Rattle.errors.specs.declared.Listing.TheVariants.{Audit}
use Rattle.validate.specs.Job.{listed}
use Rattle.validate.proofs.Promises.{listed_injective}
use Rattle.audit.specs.Job.{audit_errors, audit_of, audit_after}

-- of `audit`
pub audit_one : (table names dialect : List ℕ) (edition : ℕ) (errors : List ℕ) {r s : Result ℕ Refusal}
    {errors-r errors-s : List ℕ}
    → listed r ≡ audit_of table names dialect edition → errors-r ≡ audit_after table names dialect edition errors
    → listed s ≡ audit_of table names dialect edition → errors-s ≡ audit_after table names dialect edition errors
    → (r ≡ s) × (errors-r ≡ errors-s)
audit_one table names dialect edition errors r-is errors-is s-is errors-are =
    (coincide_by listed listed_injective r-is s-is, coincide errors-is errors-are)

-- of `pass`
pub pass_one : (table names : List ℕ) (d : Dialect) (edition : Edition) (errors : List ℕ) {r s : ℕ}
    {errors-r errors-s : List ℕ}
    → r ≡ length (audit_errors d edition names table)
    → errors-r ≡ stored Audit (audit_errors d edition names table) errors
    → s ≡ length (audit_errors d edition names table)
    → errors-s ≡ stored Audit (audit_errors d edition names table) errors
    → (r ≡ s) × (errors-r ≡ errors-s)
pass_one table names d edition errors r-is errors-is s-is errors-are =
    (coincide r-is s-is, coincide errors-is errors-are)
