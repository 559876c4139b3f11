-- Numbers that pass the test `within` against a list of limits: there are as many of them as limits (`within_length`),
-- and each is at most its limit (`within_at`). Both are by induction on the two lists together, since `within` is a
-- joined test at each place. A list is also its elements from a place on (`elements_drop`; the induction is on their
-- number), by which Laws takes nine bytes apart. Assumes nothing.
use mathlib.Core.Path.{◌≡◌, refl, sym, ap}
use mathlib.Core.Bool.{Bool, true, false, ◌&&◌, false≢true}
use mathlib.Core.List.{List, [], ◌∷◌}
use Prim.Native.Nat.{ℕ, zero, suc, ◌+◌, ◌≤◌}
use native.Mathlib.Omega.{arith}
use lib.Dec.{leb}
use lib.ListN.{length, get_or, drop, drop_of_length-le}
use lib.Seq.{drop-cons}
use borrow.Author.Tests.{leb-true}
use Rattle.dialect.specs.Bytes.{within}

-- both tests of two hold
both : (a b : Bool) → (a && b) ≡ true → (a ≡ true) × (b ≡ true)
both true b e = (refl, e)
both false b e = absurd (false≢true e)

-- as many
pub within_length : (ms ns : List ℕ) → within ms ns ≡ true → length ns ≡ length ms
unfolding within
within_length [] [] e = refl
within_length [] (n ∷ ns) e = absurd (false≢true e)
within_length (m ∷ ms) [] e = absurd (false≢true e)
within_length (m ∷ ms) (n ∷ ns) e = ap suc (within_length ms ns (both (leb n m) (within ms ns) e).1)

-- at each place at most the limit
pub within_at : (ms ns : List ℕ) → within ms ns ≡ true → (i : ℕ) → get_or ns i 0 ≤ get_or ms i 0
unfolding within
within_at [] [] e i = omega arith
within_at [] (n ∷ ns) e i = absurd (false≢true e)
within_at (m ∷ ms) [] e i = absurd (false≢true e)
within_at (m ∷ ms) (n ∷ ns) e zero = leb-true n m (both (leb n m) (within ms ns) e).0
within_at (m ∷ ms) (n ∷ ns) e (suc i) = within_at ms ns (both (leb n m) (within ms ns) e).1 i

-- the n elements from the place i on
abbrev pub elements : ℕ → ℕ → List ℕ → List ℕ
elements zero i l = []
elements (suc n) i l = get_or l i 0 ∷ elements n (suc i) l

-- a list from a place on is its elements from there on
pub elements_drop : (n i : ℕ) (l : List ℕ) → length l ≡ i + n → elements n i l ≡ drop i l
elements_drop zero i l h = sym (drop_of_length-le l {i = i} (omega arith))
elements_drop (suc n) i l h = simp (elements_drop n (suc i) l (omega arith), drop-cons l i 0 (omega arith))
