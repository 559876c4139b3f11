-- The module job is the check of 1 to 5 and then the pass. The pass reads 50,400 bytes at most, and of a table that
-- has passed the check that is all (`pass_is`), so that it counts and stores what the job's definition says. There is
-- one law for each return: a refusal changes no word (`job_refused`), and a total is the number of errors
-- (`job_total`). Assumes nothing.
use Rattle.std.specs.Prelude.{Err, Ok, Result}
use mathlib.Core.Path.{◌≡◌, refl, sym}
use mathlib.Core.List.{List, [], ◌∷◌}
use Prim.Native.Nat.{ℕ, ◌*◌, ◌≤◌}
use native.Mathlib.Omega.{arith}
use lib.ListN.{length, take}
use Rattle.dialect.specs.declared.Dialect.{Dialect}
use Rattle.forest.specs.Forest.{forest, count}
use Rattle.forest.proofs.Stretch.{count_forest}
use Rattle.table.specs.Answer.{Answer, accepted, refusal}
use Rattle.table.specs.Check.{given, given_of}
use Rattle.table.specs.declared.Refusal.{Refusal}
use Rattle.table.proofs.Heads.{all_within}
use Rattle.table.proofs.Entering.{given_known, away_is, in_is}
use Rattle.errors.specs.Errors.{kept, stored, Stores}
use Rattle.errors.specs.declared.Listing.{Listing}
use Rattle.errors.specs.declared.Listing.TheVariants.{Module}
use Rattle.validate.specs.Module.{validate_module}
use Rattle.validate.specs.Job.{pass_errors, errors_of, module_of, errors_after}
use Rattle.errors.proofs.Storing.{stored_none, stores_few}
use Rattle.validate.proofs.Bounds.{module_few}

-- a total is little
pub total_short : {l : Listing} (d : Dialect) (names t : List ℕ) {xs ys : List ℕ} {n : ℕ}
    → Stores l (validate_module d names (forest 0 t)) xs n ys → 12 * n ≤ length t
total_short d names t s = omega (arith, stores_few _ s, module_few d names (forest 0 t), count_forest 0 t)

-- the pass alone, over so much
pub pass_all : {l : Listing} (d : Dialect) (names t : List ℕ) {w xs ys : List ℕ} {n : ℕ} → w ≡ take 50400 t
    → Stores l (validate_module d names (forest 0 w)) xs n ys
    → (n ≡ length (kept l (pass_errors d names t))) × (ys ≡ stored l (kept l (pass_errors d names t)) xs)
unfolding pass_errors
pass_all d names t w-is s = (rw (← w-is) s.count, rw (← w-is) s.words)

-- LAW: of a table that is not too long the pass looks at all
pub pass_is : (d : Dialect) (names t : List ℕ) → length t ≤ 50400
    → pass_errors d names t ≡ validate_module d names (forest 0 t)
unfolding pass_errors
pass_is d names t h = rw (← all_within t h) refl

-- what the promises say where the job refuses, and where it does not
abbrev pub Promised : List ℕ → List ℕ → List ℕ → List ℕ → Answer → List ℕ → Type 0
Promised t names bytes xs r ys = (r ≡ module_of t names bytes) × (ys ≡ errors_after t names bytes xs)

module _ (t names bytes xs : List ℕ) {g : Result Dialect Refusal} (g-is : given g ≡ given_of t names bytes) where
  pub job_refused : {why : Refusal} → g ≡ Err why → Promised t names bytes xs (refusal why) xs
  unfolding errors_of
  job_refused h = let told = away_is t names bytes g-is h in (rw told refl, rw told (sym (stored_none Module xs)))

  pub job_total : {d : Dialect} {n : ℕ} {ys : List ℕ} → g ≡ Ok d → n ≡ length (pass_errors d names t)
      → ys ≡ stored Module (pass_errors d names t) xs → Promised t names bytes xs (accepted (n ∷ [])) ys
  unfolding errors_of
  job_total {d} h count words =
      let told = in_is t names bytes g-is h in
      let all = pass_is d names t (given_known t names bytes told).0.most in
      (rw (told, ← all, count) refl, rw (told, ← all) words)
