-- W-212, PATHS THAT END IN TYPE: WHICH NUMBERS ARE EDITIONS
--
-- Theorems of the crate `dialect` about the numbers of editions. Each is proved by citing the theorem. Assumes
-- nothing.
use Rattle.std.specs.Prelude.{None, Some}
use mathlib.Core.Path.{◌≡◌}
use Prim.Native.Nat.{ℕ}
use Rattle.dialect.specs.declared.Edition.TheVariants.{One, Two}
use Rattle.dialect.specs.Editions.{edition_of}
use Rattle.dialect.proofs.Editions as theorem

-- "Edition 1 is today's type rules. Edition 2 reads a path that ends in `type` as a Path"
-- In words: 1 is the first edition, and 2 the second.
pub editions : (edition_of 1 ≡ Some One) × (edition_of 2 ≡ Some Two)
editions = (theorem.number_known One, theorem.number_known Two)

-- "an edition other than 1 or 2 is 5": which numbers are none
-- In words: a number that is neither 1 nor 2 is not an edition.
pub no_edition : (n : ℕ) → (n ≡ 1 → ⊥) → (n ≡ 2 → ⊥) → edition_of n ≡ None
no_edition = theorem.edition_none

-- "an edition other than 1 or 2 is 5": each edition has one number
-- In words: a number that is the first edition is 1, and one that is the second is 2.
pub edition_numbers : (n : ℕ) → (edition_of n ≡ Some One → n ≡ 1) × (edition_of n ≡ Some Two → n ≡ 2)
edition_numbers n = (λ h. theorem.edition_back n h, λ h. theorem.edition_back n h)
