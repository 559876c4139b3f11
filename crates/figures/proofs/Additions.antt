-- Figures that are added one after another are added together: `added_twice` turns two additions into one of their
-- sum, whatever the counters are. A sum that is limited to 64 bits does not depend on how its parts are grouped
-- (`held_twice`), and no premise on lengths is needed. A counter that the code stores by itself is `added_only`;
-- zeros change nothing, at the front or at the end (`added_zeros`, `added_trailing`). The inductions are on the lists
-- of figures. Assumes nothing.
use mathlib.Core.Path.{◌≡◌, refl, sym, ap, ap₂}
use mathlib.Core.List.{List, [], ◌∷◌, ◌++◌}
use Prim.Native.Nat.{ℕ, zero, suc, ◌+◌, ◌-◌, ◌^◌, ◌<◌, ◌≤◌, min}
use native.Mathlib.Omega.{arith}
use lib.ListN.{length, get_or, set, replicate}
use Rattle.figures.specs.Adding.{most64, held, added}
use Rattle.figures.specs.Walking.{only, plus}

-- a sum of two numbers, limited to 64 bits
module _ (x : ℕ) where
  pub held_none : held x 0 ≡ x
  unfolding held
  held_none = omega arith

  pub held_twice : (y z : ℕ) → held (held x y) z ≡ held x (y + z)
  unfolding held
  held_twice y z = omega arith

  -- LAW: for a number of 64 bits it is the smaller one of the sum and the largest number
  pub held_min : (y : ℕ) → x ≤ most64 → held x y ≡ min (x + y) most64
  unfolding held
  held_min y h = omega arith

  pub held_full : (y : ℕ) → x < 2 ^ 64 → most64 - x < y → most64 ≡ held x y
  unfolding held
  held_full y h g = omega arith

  pub held_fits : (y : ℕ) → y ≤ most64 - x → x + y ≡ held x y
  unfolding held
  held_fits y g = omega arith

-- nothing added, and zeros
pub added_none : (xs : List ℕ) → added xs [] ≡ xs
unfolding added
added_none [] = refl
added_none (x ∷ xs) = refl

pub added_zeros : (xs : List ℕ) (n : ℕ) → added xs (replicate n 0) ≡ xs
unfolding added
added_zeros [] n = refl
added_zeros (x ∷ xs) zero = refl
added_zeros (x ∷ xs) (suc n) = ap₂ ◌∷◌ (held_none x) (added_zeros xs n)

pub added_trailing : (fs xs : List ℕ) (n : ℕ) → added fs (xs ++ replicate n 0) ≡ added fs xs
unfolding added
added_trailing [] xs n = refl
added_trailing (a ∷ fs) [] n = added_zeros (a ∷ fs) n
added_trailing (a ∷ fs) (x ∷ xs) n = ap (λ (r : List ℕ). held a x ∷ r) (added_trailing fs xs n)

-- LAW: two additions are one, of the sum
pub added_twice : (fs xs ys : List ℕ) → added (added fs xs) ys ≡ added fs (plus xs ys)
unfolding added plus
added_twice [] xs ys = refl
added_twice (a ∷ fs) [] ys = refl
added_twice (a ∷ fs) (x ∷ xs) [] = refl
added_twice (a ∷ fs) (x ∷ xs) (y ∷ ys) = ap₂ ◌∷◌ (held_twice a x y) (added_twice fs xs ys)

-- LAW: adding to one counter
pub added_only : (fs : List ℕ) (k v : ℕ) → set fs k (held (get_or fs k 0) v) ≡ added fs (only k v)
unfolding added only
added_only [] k v = refl
added_only (a ∷ fs) zero v = ap (λ (r : List ℕ). held a v ∷ r) (sym (added_none fs))
added_only (a ∷ fs) (suc k) v = ap₂ ◌∷◌ (sym (held_none a)) (added_only fs k v)

pub stored_only : (fs : List ℕ) (k v : ℕ) {x : ℕ} → x ≡ held (get_or fs k 0) v → set fs k x ≡ added fs (only k v)
stored_only fs k v x-is = rw x-is (added_only fs k v)

-- LAW: figures, and then one more counter after them
pub added_next : (fs xs : List ℕ) (v : ℕ) → added (added fs xs) (only (length xs) v) ≡ added fs (xs ++ v ∷ [])
unfolding added only
added_next [] xs v = refl
added_next (f ∷ fs) [] v = refl
added_next (f ∷ fs) (x ∷ xs) v = ap₂ ◌∷◌ (held_none (held f x)) (added_next fs xs v)

-- additions keep the number of counters
pub added_length : (fs xs : List ℕ) → length (added fs xs) ≡ length fs
unfolding added
added_length [] xs = refl
added_length (a ∷ fs) [] = refl
added_length (a ∷ fs) (x ∷ xs) = ap suc (added_length fs xs)

-- the sum of figures in two parts of the same lengths
pub plus_append : (fs cs bs ds : List ℕ) → length fs ≡ length cs
    → plus (fs ++ bs) (cs ++ ds) ≡ plus fs cs ++ plus bs ds
unfolding plus
plus_append [] [] bs ds h = refl
plus_append [] (c ∷ cs) bs ds h = absurd (omega (arith, h))
plus_append (a ∷ fs) [] bs ds h = absurd (omega (arith, h))
plus_append (a ∷ fs) (c ∷ cs) bs ds h = ap (λ (r : List ℕ). (a + c) ∷ r)
    (plus_append fs cs bs ds (omega (arith, h)))

-- zeros in front
pub plus_behind : (n : ℕ) (xs ys : List ℕ)
    → plus (replicate n 0 ++ xs) (replicate n 0 ++ ys) ≡ replicate n 0 ++ plus xs ys
unfolding plus
plus_behind zero xs ys = refl
plus_behind (suc n) xs ys = ap (λ (r : List ℕ). 0 ∷ r) (plus_behind n xs ys)

pub only_behind : (k j v : ℕ) → only (k + j) v ≡ replicate k 0 ++ only j v
unfolding only
only_behind zero j v = let e : 0 + j ≡ j = omega arith in rw e refl
only_behind (suc k) j v =
    let e : suc k + j ≡ suc (k + j) = omega arith in
    rw e (ap (λ (r : List ℕ). 0 ∷ r) (only_behind k j v))
