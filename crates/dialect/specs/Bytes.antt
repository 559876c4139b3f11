-- What dialect bytes mean: nine bytes in the order of the fields of `Dialect`, or none at all.
use Rattle.std.specs.Prelude.{Bool, true, false, ◌&&◌, List, [], ◌∷◌, ℕ, leb, None, Option, Some}
use Rattle.dialect.specs.declared.Dialect.{Dialect}
use Rattle.dialect.specs.Rows.{record_of, dialect_named, none_given}
use Rattle.fields.specs.Choice.{if'}

-- as many numbers as limits, and none above its limit
unfoldable pub within : List ℕ → List ℕ → Bool
within [] [] = true
within [] (n ∷ ns) = false
within (m ∷ ms) [] = false
within (m ∷ ms) (n ∷ ns) = leb n m && within ms ns

-- the largest number at each of the nine places: 1, and 2 for enable_types
abbrev pub limits : List ℕ
limits = 1 ∷ 1 ∷ 1 ∷ 1 ∷ 1 ∷ 2 ∷ 1 ∷ 1 ∷ 1 ∷ []

-- nine bytes: 0 or 1 each, enable_types 0, 1 or 2
unfoldable pub valid_bytes : List ℕ → Bool
valid_bytes bytes = within limits bytes

-- no bytes give the default dialect (`none_given`), nine valid bytes give their dialect, and all other bytes give none
unfoldable pub from_bytes : List ℕ → Option Dialect
from_bytes [] = Some (dialect_named none_given)
from_bytes (b ∷ bs) = if' (valid_bytes (b ∷ bs)) (λ _. Some (record_of (b ∷ bs))) (λ _. None)
