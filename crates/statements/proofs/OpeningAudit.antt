-- W-209: OPENING A DIALECT, AND THE AUDIT
--
-- Theorems of the crate `openaudit`: what happens to the errors of the audit, for the number of any edition, if a
-- second dialect permits all that a first one does. Each statement is proved by citing the theorem. Assumes nothing.
use Rattle.std.specs.Prelude.{Some}
use mathlib.Core.Path.{◌≡◌}
use mathlib.Core.Bool.{Bool, true}
use mathlib.Core.List.{List, [], ◌∷◌}
use Prim.Native.Nat.{ℕ}
use lib.ListN.{length}
use Rattle.dialect.specs.declared.Dialect.{Dialect}
use Rattle.dialect.specs.Rows.{permits_types}
use Rattle.dialect.specs.Editions.{edition_of}
use Rattle.dialect.specs.Bytes.{from_bytes}
use Rattle.table.specs.Answer.{accepted}
use Rattle.table.specs.Check.{rules_of, in_rules}
use Rattle.opening.specs.Opening.{permits_all, opened, without}
use Rattle.opening.specs.Example.{closed}
use Rattle.audit.specs.Job.{all_errors, audit_of}
use Rattle.openaudit.specs.Example.{bad_type, bad_names, types_open}
use Rattle.openaudit.proofs.Theorems as theorem
use Rattle.openaudit.proofs.Example as theorem_example

-- "`errors 0` stays `errors 0`": every job
-- In words: for any bytes that mean two dialects, of which the second permits all that the first does, an audit that
-- finds nothing under the first finds nothing under the second.
pub audit_zero_stays : (t names first second : List ℕ) (n : ℕ) {d e : Dialect}
    → from_bytes first ≡ Some d
    → from_bytes second ≡ Some e
    → permits_all d e ≡ true
    → audit_of t names first n ≡ accepted (0 ∷ [])
    → audit_of t names second n ≡ accepted (0 ∷ [])
audit_zero_stays = theorem.audit_zero_stays

-- the errors that are left: every job
-- In words: if both agree on top-level statements, and both have types or neither has, the errors of the audit under
-- the second are those under the first without the numbers of the newly opened switches, in order.
pub audit_opened : (t names first second : List ℕ) (n : ℕ) {d e : Dialect}
    → from_bytes first ≡ Some d
    → from_bytes second ≡ Some e
    → permits_all d e ≡ true
    → d.enable_top_level_stmt ≡ e.enable_top_level_stmt
    → permits_types d.enable_types ≡ permits_types e.enable_types
    → all_errors t names second n ≡ without (opened d e) (all_errors t names first n)
audit_opened = theorem.audit_opened

-- the errors that are left: the audit's answer
-- In words: under the same conditions the answer is the number of the errors that are left, or the same refusal.
pub audit_total_opened : (t names first second : List ℕ) (n : ℕ) {d e : Dialect}
    → from_bytes first ≡ Some d
    → from_bytes second ≡ Some e
    → permits_all d e ≡ true
    → d.enable_top_level_stmt ≡ e.enable_top_level_stmt
    → permits_types d.enable_types ≡ permits_types e.enable_types
    → audit_of t names second n
    ≡ in_rules (rules_of t names first (edition_of n))
    (λ _ _. accepted (length (without (opened d e) (all_errors t names first n)) ∷ []))
audit_total_opened = theorem.audit_total_opened

-- why types must not be newly opened
-- In words: for `x: 1 = 0`, in Standard and in Standard with types, no choice of numbers makes the second list what is
-- left of the first: 45 gives way to 40.
pub not_tied : (out : ℕ → Bool)
    → all_errors bad_type bad_names types_open 1 ≡ without out (all_errors bad_type bad_names closed 1)
    → ⊥
not_tied = theorem_example.not_tied
