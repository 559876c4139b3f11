-- Small laws that every crate cites. Equal constructors that differ give anything (`never`, `clash`). A joined test
-- holds exactly where both parts do (`and_left`, `and_right`, `and_both`), and two tests that follow from each other
-- are equal (`both_ways`). Any two numbers are ordered one way or the other (`le_or_lt`). A list of length 0 is empty
-- (`no_entries`). The part from k on of the first n is the first n - k from k on (`drop_take`); its induction is on k,
-- n and the list together. The others split on the tests or the list. Assumes nothing.
use mathlib.Core.Path.{◌≡◌, refl, sym, ap}
use mathlib.Core.Bool.{Bool, true, false, ◌&&◌}
use mathlib.Core.List.{List, [], ◌∷◌}
use mathlib.Core.Logic.{◌⊎◌, inl, inr}
use Prim.Native.Nat.{ℕ, zero, suc, ◌-◌, ◌<◌, ◌≤◌}
use native.Mathlib.Nat.{suc-sub-suc, sub-zero}
use native.Mathlib.Omega.{arith}
use lib.ListN.{length, take, drop}
use lib.Seq.{take-nil}
use lib.Dec.{leb}
use borrow.Author.Tests.{leb-true, leb-false}

-- two constructors are never equal: `never (cc)`
pub never : {P : Type 0} → ◌≡◌ {A = ℕ} 0 1 → P
never z = absurd (omega arith)

-- a test does not come out both ways
pub clash : {P : Type 0} {b : Bool} → b ≡ true → b ≡ false → P
clash e f = never (cc)

-- tests joined
pub and_left : (a b : Bool) → (a && b) ≡ true → a ≡ true
and_left true b e = refl
and_left false b e = never (cc)

pub and_right : (a b : Bool) → (a && b) ≡ true → b ≡ true
and_right true b e = e
and_right false b e = never (cc)

pub and_both : (a b : Bool) → a ≡ true → b ≡ true → (a && b) ≡ true
and_both true b e f = f
and_both false b e f = never (cc)

-- two tests that follow from each other
pub both_ways : (a b : Bool) → (a ≡ true → b ≡ true) → (b ≡ true → a ≡ true) → a ≡ b
both_ways true true f g = refl
both_ways true false f g = sym (f refl)
both_ways false true f g = g refl
both_ways false false f g = refl

-- a number is at most another, or larger
pub le_or_lt : (a b : ℕ) → (a ≤ b) ⊎ (b < a)
le_or_lt a b = go (leb a b) refl
  where
    go : (t : Bool) → leb a b ≡ t → (a ≤ b) ⊎ (b < a)
    go true e = inl (leb-true a b e)
    go false e = inr (leb-false a b e)

-- a list of no entries is empty
pub no_entries : {A : Type 0} (l : List A) → length l ≡ 0 → l ≡ []
no_entries [] e = refl
no_entries (x ∷ l) e = absurd (omega (arith, e))

-- a part of a part
pub drop_take : {A : Type 0} (k n : ℕ) (l : List A) → drop k (take n l) ≡ take (n - k) (drop k l)
drop_take zero n l = rw sub-zero refl
drop_take (suc k) zero l = sym (ap (λ (m : ℕ). take m (drop (suc k) l)) {x = 0 - suc k} {y = 0} (omega arith))
drop_take (suc k) (suc n) [] = sym (take-nil (suc n - suc k))
drop_take (suc k) (suc n) (x ∷ l) = rw suc-sub-suc (drop_take k n l)
