-- Adding figures to counters, limited to 64 bits. These are definitions.
use Rattle.std.specs.Prelude.{List, [], ◌∷◌, ℕ, ◌+◌, ◌-◌, min}

-- the largest number of 64 bits
abbrev pub most64 : ℕ
most64 = 18446744073709551615

-- a sum limited to 64 bits: as much of y is added as x leaves room for
unfoldable pub held : ℕ → ℕ → ℕ
held x y = x + min y (most64 - x)

-- the counters after figures are added to them one by one; counters beyond the figures stay
unfoldable pub added : List ℕ → List ℕ → List ℕ
added [] ys = []
added (x ∷ xs) [] = x ∷ xs
added (x ∷ xs) (y ∷ ys) = held x y ∷ added xs ys
