-- W-212, PATHS THAT END IN TYPE: THE AUDIT
--
-- Theorems of the crate `audit` about its list of errors in the two editions. That a list has no 44 is an arrow over
-- its numbers; 0 is read past the end of the list. Each statement is proved by citing the theorem. Assumes nothing.
use mathlib.Core.Path.{◌≡◌}
use mathlib.Core.List.{List, [], ◌∷◌, map}
use Prim.Native.Nat.{ℕ, suc}
use lib.ListN.{get_or}
use Rattle.dialect.specs.declared.Dialect.{Dialect}
use Rattle.dialect.specs.declared.Edition.TheVariants.{One, Two}
use Rattle.table.specs.Numbers.{dot_type_ban}
use Rattle.errors.specs.declared.Finding.{Finding}
use Rattle.audit.specs.Job.{audit_errors, all_errors, audit_of, audit_after}
use Rattle.audit.proofs.Editions as theorem

-- a list without 44, in the words of the theorem
no_bans : (es : List Finding) → ((i : ℕ) → get_or (map (λ (e : Finding). e.number) es) i 0 ≡ dot_type_ban → ⊥)
    → theorem.NoBans es
no_bans [] h = tt
no_bans (e ∷ es) h = (h 0, no_bans es (λ i. h (suc i)))

-- "so 44 isn't given", and nothing else changes: the audit's errors
-- In words: if the audit's list in edition 1 has no 44, the list in edition 2 is the same.
pub same_errors : (t names bytes : List ℕ)
    → ((i : ℕ) → get_or (map (λ (e : Finding). e.number) (all_errors t names bytes 1)) i 0 ≡ dot_type_ban → ⊥)
    → all_errors t names bytes 2 ≡ all_errors t names bytes 1
same_errors t names bytes free = theorem.list_same t names bytes (no_bans (all_errors t names bytes 1) free)

-- the audit's answer
-- In words: if the audit's list in edition 1 has no 44, the answer in edition 2 is the same.
pub same_total : (t names bytes : List ℕ)
    → ((i : ℕ) → get_or (map (λ (e : Finding). e.number) (all_errors t names bytes 1)) i 0 ≡ dot_type_ban → ⊥)
    → audit_of t names bytes 2 ≡ audit_of t names bytes 1
same_total t names bytes free = theorem.job_same t names bytes (no_bans (all_errors t names bytes 1) free)

-- the words that the audit leaves
-- In words: if the audit's list in edition 1 has no 44, the words at exit are the same in edition 2.
pub same_words : (t names bytes words : List ℕ)
    → ((i : ℕ) → get_or (map (λ (e : Finding). e.number) (all_errors t names bytes 1)) i 0 ≡ dot_type_ban → ⊥)
    → audit_after t names bytes 2 words ≡ audit_after t names bytes 1 words
same_words t names bytes words free =
    theorem.words_same t names bytes (no_bans (all_errors t names bytes 1) free) words

-- the same for bytes that are not checked first
-- In words: for any bytes, in any dialect, a list of the audit's pass in edition 1 without 44 is the list in edition 2.
pub same_pass : (d : Dialect) (names t : List ℕ)
    → ((i : ℕ) → get_or (map (λ (e : Finding). e.number) (audit_errors d One names t)) i 0 ≡ dot_type_ban → ⊥)
    → audit_errors d Two names t ≡ audit_errors d One names t
same_pass d names t free = theorem.audit_same d names t (no_bans (audit_errors d One names t) free)
