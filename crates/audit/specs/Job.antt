-- The audit: its errors, its answer, and the list of words at exit. These are definitions.
use Rattle.std.specs.Prelude.{List, [], ◌∷◌, ◌++◌, ℕ, ◌*◌, length, take}
use Rattle.dialect.specs.declared.Dialect.{Dialect}
use Rattle.dialect.specs.declared.Edition.{Edition}
use Rattle.dialect.specs.Editions.{edition_of}
use Rattle.forest.specs.Forest.{Forest, forest}
use Rattle.table.specs.Answer.{Answer, accepted}
use Rattle.table.specs.Check.{most_nodes, most_bytes, Ruling, by_rules, unruled, rules_of, in_rules}
use Rattle.errors.specs.declared.Finding.{Finding}
use Rattle.errors.specs.declared.Listing.TheVariants.{Own, Audit}
use Rattle.errors.specs.Errors.{kept, width, stored}
use Rattle.validate.specs.Job.{pass_errors}
use Rattle.audit.specs.declared.Roles.TheVariants.{Nowhere}
use Rattle.audit.specs.Roles.{placed}
use Rattle.audit.specs.Refusals.{refusals}

-- the refusals of the jobs, record by record; the top records have no role
abbrev pub refusals_in : Dialect → Edition → List ℕ → Forest → List Finding
refusals_in d edition names ts = refusals d edition names (placed Nowhere ts)

-- the errors of any bytes in a dialect and an edition, without 1 to 5: those of the module pass without 10 to 19, then
-- the refusals of the jobs, in at most as many records as a table has
unfoldable pub audit_errors : Dialect → Edition → List ℕ → List ℕ → List Finding
audit_errors d edition names t = kept Own (pass_errors d names t) ++ refusals_in d edition names
    (forest 0 (take most_bytes t))

-- the errors in the given dialect and edition; a job that 1 to 5 refuse has none
abbrev pub audit_in : Ruling → List ℕ → List ℕ → List Finding
audit_in (by_rules d edition) names t = audit_errors d edition names t
audit_in (unruled n vs) names t = []

-- the same for the number n of an edition
unfoldable pub all_errors : List ℕ → List ℕ → List ℕ → ℕ → List Finding
all_errors t names bytes n = audit_in (rules_of t names bytes (edition_of n)) names t

-- the answer: a refusal, or the number of errors, whether they fit or not
abbrev pub audit_of : List ℕ → List ℕ → List ℕ → ℕ → Answer
audit_of t names bytes n =
    in_rules (rules_of t names bytes (edition_of n)) (λ _ _. accepted (length (all_errors t names bytes n) ∷ []))

-- the number of words for the largest number of errors of a table: four errors for each of 2,100 nodes
abbrev pub enough_words : ℕ
enough_words = width Audit * (4 * most_nodes)

-- the list of words at exit
abbrev pub audit_after : List ℕ → List ℕ → List ℕ → ℕ → List ℕ → List ℕ
audit_after t names bytes n words = stored Audit (all_errors t names bytes n) words
