-- The audit as a job: the tests 1 to 5 give a refusal, which stores nothing (`job_refused`), or a dialect and an
-- edition, in which the pass runs (`job_total`). The pass stores the errors of the module pass first, and then the
-- refusals of the jobs in the words that are still free; together these are `audit_errors` (`pass_all`, by errors'
-- `stores_both`). The module pass stores its errors in the form Own, which has the same words as the form Audit
-- (`own_words`, by induction on the errors). The sums fit, because a table has at most 4,200 errors of the module pass
-- (`own_few`). The proofs of audit and pass cite these laws. Assumes nothing.
use Rattle.std.specs.Prelude.{Err, Ok, Option, Result}
use mathlib.Core.Path.{◌≡◌, refl, sym, ◌∙◌}
use mathlib.Core.List.{List, [], ◌∷◌}
use Prim.Native.Nat.{ℕ, ◌+◌, ◌≤◌}
use native.Mathlib.Omega.{arith}
use lib.ListN.{length, take, drop, length-take}
use Rattle.dialect.specs.declared.Dialect.{Dialect}
use Rattle.dialect.specs.declared.Edition.{Edition}
use Rattle.dialect.specs.Editions.{edition_of}
use Rattle.forest.specs.Forest.{forest}
use Rattle.forest.proofs.Stretch.{count_forest}
use Rattle.table.specs.Answer.{Answer, accepted, number_of, carried, refusal}
use Rattle.table.specs.Check.{by_rules, unruled, ruled, rules_of}
use Rattle.table.specs.declared.Refusal.{Refusal}
use Rattle.table.proofs.Ruling.{unruled_is, by_is}
use Rattle.errors.specs.declared.Finding.{Finding}
use Rattle.errors.specs.declared.Listing.TheVariants.{Own, Audit}
use Rattle.errors.specs.Errors.{kept, width, stored, Stores}
use Rattle.errors.proofs.Storing.{kept_few, free_at, after, back, stored_none, stores_both}
use Rattle.validate.specs.Job.{pass_errors}
use Rattle.validate.proofs.Bounds.{module_few}
use Rattle.audit.specs.declared.Roles.TheVariants.{Nowhere}
use Rattle.audit.specs.Roles.{placed}
use Rattle.audit.specs.Refusals.{refusals}
use Rattle.audit.specs.Job.{audit_errors, all_errors, audit_of, audit_after}

-- LAW: errors in the form Own have the same words as in the form Audit
own_words : (es : List Finding) (xs : List ℕ) → stored Own es xs ≡ stored Audit es xs
unfolding stored
own_words [] xs = refl
own_words (e ∷ es) xs = rw (own_words es (drop (width Audit) xs)) refl

-- the errors of the module pass, stored as the audit stores them; there are at most 4,200
module _ (d : Dialect) (names t : List ℕ) {m : ℕ} (m_is : m ≡ length (kept Own (pass_errors d names t))) where
  own_stores : (xs : List ℕ) {ys : List ℕ} → ys ≡ stored Own (kept Own (pass_errors d names t)) xs
      → Stores Audit (kept Own (pass_errors d names t)) xs m ys
  own_stores xs words = record { count = m_is; words = words ∙ own_words (kept Own (pass_errors d names t)) xs }

  pub own_few : m ≤ 4200
  unfolding pass_errors
  own_few = omega (
    arith,
    kept_few Own (pass_errors d names t),
    module_few d names (forest 0 (take 50400 t)),
    count_forest 0 (take 50400 t),
    length-take 50400 t,
  )

  -- and then the refusals of the jobs, in at most as many bytes as a table has
  pub pass_all : (edition : Edition) (xs : List ℕ) {ys : List ℕ} → ys ≡ stored Own (kept Own (pass_errors d names t)) xs
      → {at : ℕ} → at ≡ free_at Audit m ys → {w : List ℕ} → w ≡ take 50400 t → {n : ℕ} {zs : List ℕ}
      → Stores Audit (refusals d edition names (placed Nowhere (forest 0 w))) (after at ys) n zs
      → (m + n ≡ length (audit_errors d edition names t))
      × (back at ys zs ≡ stored Audit (audit_errors d edition names t) xs)
  unfolding audit_errors
  pass_all edition xs words at-is w-is rest =
      let both = stores_both _ _ (own_stores xs words) at-is (rw w-is at rest) in (both.count, both.words)

-- the two contracts of the job, for an answer r and words ys at exit
abbrev pub Promised : List ℕ → List ℕ → List ℕ → ℕ → List ℕ → Answer → List ℕ → Type 0
Promised t names bytes n xs r ys = (r ≡ audit_of t names bytes n) × (ys ≡ audit_after t names bytes n xs)

module _ (t names bytes : List ℕ) (n : ℕ) (xs : List ℕ) {x : Option Edition} (x-is : x ≡ edition_of n)
    {g : Result (Dialect × Edition) Refusal}
    (g-is : ruled g ≡ rules_of t names bytes x) where
  pub job_refused : {why : Refusal} → g ≡ Err why → Promised t names bytes n xs (refusal why) xs
  unfolding all_errors
  job_refused {why} h =
      let told : rules_of t names bytes (edition_of n) ≡ unruled (number_of why) (carried why) =
      rw (← x-is) (unruled_is t names bytes x g-is h) in
      (rw told refl, rw told (sym (stored_none Audit xs)))

  pub job_total : {p : Dialect × Edition} {m : ℕ} {ys : List ℕ} → g ≡ Ok p
      → m ≡ length (audit_errors p.0 p.1 names t) → ys ≡ stored Audit (audit_errors p.0 p.1 names t) xs
      → Promised t names bytes n xs (accepted (m ∷ [])) ys
  unfolding all_errors
  job_total {p} h total words =
      let told : rules_of t names bytes (edition_of n) ≡ by_rules p.0 p.1 =
      rw (← x-is) (by_is t names bytes x g-is h) in
      (rw (told, total) refl, rw told words)
