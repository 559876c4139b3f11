-- The audit in the two editions (W-212): an error list without 44 is the same in both. The list is made of the errors
-- of the module pass, which do not depend on the edition, and of the refusals of the jobs at each record. Of the jobs
-- only the type job depends on the edition, and types' `type_lifted` says that its answers are the same except 44. A
-- list without 44 has no part with 44, so the lists are equal part by part (`parts_same`); the induction is on the list
-- of trees (`refusals_same`). Cite `audit_same` and `job_same`. Assumes nothing.
use Rattle.std.specs.Prelude.{Some}
use mathlib.Core.Path.{◌≡◌, refl, ap}
use mathlib.Core.List.{List, [], ◌∷◌, ◌++◌}
use Prim.Native.Nat.{ℕ}
use lib.ListN.{length, take}
use Rattle.dialect.specs.declared.Dialect.{Dialect}
use Rattle.dialect.specs.declared.Edition.TheVariants.{One, Two}
use Rattle.dialect.specs.Editions.{edition_of}
use Rattle.forest.specs.Forest.{Tree, forest}
use Rattle.table.specs.Numbers.{dot_type_ban}
use Rattle.table.specs.Answer.{Answer, accepted, refused}
use Rattle.table.specs.Check.{most_bytes, Handing, in_dialect, turned_away, given_of, ruling, rules_of, in_rules}
use Rattle.errors.specs.declared.Finding.{Finding}
use Rattle.errors.specs.declared.Listing.TheVariants.{Own, Audit}
use Rattle.errors.specs.Errors.{kept, stored}
use Rattle.types.specs.Types.{dialect_check_type}
use Rattle.types.proofs.Editions.{Lifted, type_lifted}
use Rattle.validate.specs.Job.{pass_errors}
use Rattle.audit.specs.declared.Role.{Role}
use Rattle.audit.specs.declared.Role.TheVariants.{AsTarget, AsType, Plain}
use Rattle.audit.specs.declared.Roles.TheVariants.{Nowhere}
use Rattle.audit.specs.Roles.{Placed, placed}
use Rattle.audit.specs.Refusals.{answer_errors, kind_errors, role_errors, refused_there, refusals}
use Rattle.audit.specs.Job.{audit_errors, audit_in, all_errors, audit_of, audit_after}

-- a list of errors without 44
abbrev pub NoBans : List Finding → Type 0
NoBans [] = Unit {0}
NoBans (e ∷ es) = (e.number ≡ dot_type_ban → ⊥) × NoBans es

-- both parts of a list without 44 are without 44
bans_apart : (es fs : List Finding) → NoBans (es ++ fs) → NoBans es × NoBans fs
bans_apart [] fs h = (tt, h)
bans_apart (e ∷ es) fs h = let rest = bans_apart es fs h.1 in ((h.0, rest.0), rest.1)

-- two lists that are the same part by part, if the list of edition 1 has no 44
parts_same : (es : List Finding) {fs es₂ fs₂ : List Finding} → (NoBans es → es₂ ≡ es) → (NoBans fs → fs₂ ≡ fs)
    → NoBans (es ++ fs)
    → es₂ ++ fs₂ ≡ es ++ fs
parts_same es {fs} first rest h =
    let apart = bans_apart es fs h in
    let a = first apart.0 in
    let b = rest apart.1 in
    λ i. a i ++ b i

-- the errors of an answer
answer_same : (x y : Answer) → Lifted x y → NoBans (answer_errors x) → answer_errors y ≡ answer_errors x
answer_same (accepted vs) y l h = ap answer_errors (l.same tt)
answer_same (refused n vs) y l h = ap answer_errors (l.same h.0)

module _ (d : Dialect) (names : List ℕ) where
  role_same : (role : Role) (t : Tree) → NoBans (role_errors d One names role t)
      → role_errors d Two names role t ≡ role_errors d One names role t
  unfolding role_errors
  role_same AsTarget t h = refl
  role_same AsType t h = answer_same (dialect_check_type One names d.enable_types t)
      (dialect_check_type Two names d.enable_types t) (type_lifted names d.enable_types t) h
  role_same Plain t h = refl

  there_same : (p : Placed) → NoBans (refused_there d One names p)
      → refused_there d Two names p ≡ refused_there d One names p
  unfolding refused_there
  there_same p = parts_same (kind_errors names p.tree) (λ _. refl) (role_same p.role p.tree)

  refusals_same : (ps : List Placed) → NoBans (refusals d One names ps)
      → refusals d Two names ps ≡ refusals d One names ps
  unfolding refusals
  refusals_same [] h = refl
  refusals_same (p ∷ ps) h = parts_same (refused_there d One names p) (there_same p) (refusals_same ps) h

  -- THEOREM: for any bytes, an error list of edition 1 without 44 is the list of edition 2
  pub audit_same : (t : List ℕ) → NoBans (audit_errors d One names t)
      → audit_errors d Two names t ≡ audit_errors d One names t
  unfolding audit_errors
  audit_same t = parts_same (kept Own (pass_errors d names t)) (λ _. refl)
      (refusals_same (placed Nowhere (forest 0 (take most_bytes t))))

-- THEOREM: the same for the job: if edition 1 lists no 44, edition 2 gives the same list and the same answer, refusals
-- included, and leaves the same words
module _ (t names bytes : List ℕ) (free : NoBans (all_errors t names bytes 1)) where
  pub list_same : all_errors t names bytes 2 ≡ all_errors t names bytes 1
  unfolding all_errors rules_of edition_of
  list_same = go (given_of t names bytes) free
    where
      go : (h : Handing) → NoBans (audit_in (ruling h (Some One)) names t)
          → audit_in (ruling h (Some Two)) names t ≡ audit_in (ruling h (Some One)) names t
      go (in_dialect d) h = audit_same d names t h
      go (turned_away n vs) h = refl

  pub job_same : audit_of t names bytes 2 ≡ audit_of t names bytes 1
  unfolding rules_of edition_of
  job_same = rw list_same (go (given_of t names bytes))
    where
      go : (h : Handing) → in_rules (ruling h (Some Two)) (λ _ _. accepted (length (all_errors t names bytes 1) ∷ []))
          ≡ in_rules (ruling h (Some One)) (λ _ _. accepted (length (all_errors t names bytes 1) ∷ []))
      go (in_dialect d) = refl
      go (turned_away n vs) = refl

  pub words_same : (words : List ℕ) → audit_after t names bytes 2 words ≡ audit_after t names bytes 1 words
  words_same words = ap (λ (es : List Finding). stored Audit es words) list_same
