-- W-212, PATHS THAT END IN TYPE: WHEN THE EDITION IS CHECKED
--
-- Theorems of the crate `table` about the checks before a job that reads types. Each is proved by citing the
-- theorem. Assumes nothing.
use Rattle.std.specs.Prelude.{None, Some}
use mathlib.Core.Path.{◌≡◌}
use mathlib.Core.List.{List, []}
use Prim.Native.Nat.{ℕ}
use Rattle.dialect.specs.declared.Edition.{Edition}
use Rattle.table.specs.Numbers.{bad_dialect}
use Rattle.table.specs.Answer.{refused, and_then}
use Rattle.table.specs.Check.{given_check, rules_check}
use Rattle.table.proofs.Ruling as theorem

-- "after the dialect bytes"
-- In words: with a number that is not an edition, the checks 1 to 5 give the answer for the table and the dialect
-- bytes; if these pass, the answer is 5.
pub edition_last : (t names bytes : List ℕ)
    → rules_check t names bytes None ≡ and_then (given_check t names bytes) (λ _. refused bad_dialect [])
edition_last = theorem.rules_unknown

-- a known edition adds no refusal
-- In words: in either edition the checks 1 to 5 give the answer for the table and the dialect bytes.
pub edition_free : (t names bytes : List ℕ) (edition : Edition)
    → rules_check t names bytes (Some edition) ≡ given_check t names bytes
edition_free = theorem.rules_given
