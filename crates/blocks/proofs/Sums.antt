-- Laws of the sum of a block, which weighs the byte at place p by p + 1. The sum over n places depends on those bytes
-- alone (`weighed_front`, `weighed_outside`) and fits 32 bits (`sum_small`). Changing one byte moves the sum by its
-- factor times the difference (`moved`, by induction on the number of places), so a changed byte changes the sum
-- (`weighed_changed`, the law to cite). The loops keep the sum over the places so far (`Summed`), or what the places of
-- a part add to the sum over the places before it (`Adding`). Eight parts, each from the end of the one before, are the
-- whole sum (`sum_parts`); places past the end count as zero, so a short list is one part (`sum_short`). Assumes
-- nothing.
use mathlib.Core.Path.{◌≡◌, refl, sym}
use mathlib.Core.Logic.{⊎_elim}
use mathlib.Core.List.{List, ◌++◌}
use Prim.Native.Nat.{ℕ, zero, suc, ◌+◌, ◌*◌, ◌-◌, ◌<◌, ◌≤◌, ◌^◌, min}
use native.Mathlib.Nat.{add-zero, mul-le-mul, eq_of_mul-eq-mul_left}
use native.Mathlib.Numerals.{add-one}
use native.Mathlib.Omega.{arith}
use lib.ListN.{length, get_or, set, get_or-append, get_or-eq_default}
use lib.Seq.{get_or-set_same, get_or-set_other}
use Rattle.fields.proofs.Basics.{le_or_lt}
use Rattle.blocks.specs.Block.{weighed, sum_of}
use Rattle.fields.proofs.Spelling.{Bytes}

weighed_none : (b : List ℕ) → weighed 0 b ≡ 0
unfolding weighed
weighed_none b = refl

-- the bound of what one byte adds
pub weight_small : (n p x : ℕ) → p < n → x < 256 → (p + 1) * x ≤ n * 255
weight_small n p x h k = mul-le-mul {n₂ = n} {m₂ = 255} (omega arith) (omega arith)

-- the sum over the first n places depends on their bytes alone
pub weighed_front : (n : ℕ) (a l : List ℕ) → n ≤ length a → weighed n (a ++ l) ≡ weighed n a
unfolding weighed
weighed_front zero a l h = refl
weighed_front (suc p) a l h = rw (weighed_front p a l (omega arith), get_or-append a l 0 p (omega arith)) refl

pub weighed_outside : (n : ℕ) (l : List ℕ) (i v : ℕ) → n ≤ i → weighed n (set l i v) ≡ weighed n l
unfolding weighed
weighed_outside zero l i v h = refl
weighed_outside (suc p) l i v h =
    let other : p ≡ i → ⊥ = λ e. omega arith in
    rw (weighed_outside p l i v (omega arith), get_or-set_other l i p v 0 other) refl

-- the bound of the sum
pub weighed_small : (n : ℕ) (l : List ℕ) → n ≤ 508 → Bytes l → weighed n l ≤ 129540 * n
unfolding weighed
weighed_small zero l h small = omega arith
weighed_small (suc p) l h small = omega (
  arith,
  weighed_small p l (omega arith) small,
  weight_small 508 p (get_or l p 0) (omega arith) (small p),
)

pub sum_small : (l : List ℕ) → Bytes l → sum_of l < 4294967296
unfolding sum_of
sum_small l small = omega (arith, weighed_small 508 l (omega arith) small)

-- a changed byte moves the sum by its factor times the difference
moved : (n : ℕ) (l : List ℕ) (i v : ℕ) → i < n → i < length l
    → weighed n (set l i v) + (i + 1) * get_or l i 0 ≡ weighed n l + (i + 1) * v
unfolding weighed
moved zero l i v h k = absurd (omega arith)
moved (suc p) l i v h k = ⊎_elim
    (λ (q : p ≤ i).
    let e : p ≡ i = omega arith in
    let new : (p + 1) * get_or (set l i v) p 0 ≡ (i + 1) * v = rw (e, get_or-set_same l i v 0 k) refl in
    let old : (p + 1) * get_or l p 0 ≡ (i + 1) * get_or l i 0 = rw e refl in
    omega (arith, new, old, weighed_outside p l i v q))
    (λ (q : i < p).
    let other : p ≡ i → ⊥ = λ e. omega arith in
    let same : (p + 1) * get_or (set l i v) p 0 ≡ (p + 1) * get_or l p 0 = rw (get_or-set_other l i p v 0 other) refl in
    omega (arith, same, moved p l i v q k))
    (le_or_lt p i)

-- LAW: one changed byte changes the sum
pub weighed_changed : (n : ℕ) (l : List ℕ) (i v : ℕ) → i < n → i < length l → weighed n (set l i v) ≡ weighed n l
    → v ≡ get_or l i 0
weighed_changed n l i v h k e =
    eq_of_mul-eq-mul_left (i + 1) (omega arith) v (get_or l i 0) (omega (arith, e, moved n l i v h k))

-- the loop: the sum over the places so far
pub record Summed (b : List ℕ) (sum p : ℕ) : Type 0 where
  pub upto : p ≤ 508
  pub small : Bytes b
  pub is : sum ≡ weighed p b

pub sum_start : (b : List ℕ) → Bytes b → Summed b 0 0
unfolding weighed
sum_start b small = record { upto = omega arith; small = small; is = refl }

module _ {b : List ℕ} {sum p : ℕ} (s : Summed b sum p) where
  module _ (h : p < 508) {w : ℕ} (e : w ≡ (p + 1) * get_or b p 0) where
    pub sum_on : Summed b (sum + w) (p + 1)
    unfolding weighed
    sum_on = record { upto = omega arith; small = s.small; is = rw (add-one p, s.is, e) refl }

    pub sum_fits : sum + w < 2 ^ 32
    sum_fits = omega (arith, sum_on.is, weighed_small (p + 1) b (omega arith) s.small)

-- places past the end add nothing
weighed_past : (k : ℕ) (b : List ℕ) → weighed (length b + k) b ≡ weighed (length b) b
unfolding weighed
weighed_past zero b = rw (add-zero (length b)) refl
weighed_past (suc k) b =
    let e : length b + suc k ≡ suc (length b + k) = omega arith in
    let none : get_or b (length b + k) 0 ≡ 0 = get_or-eq_default b 0 (omega arith) in
    rw (e, none) (omega (arith, weighed_past k b))

sum_clipped : (b : List ℕ) → weighed (min 508 (length b)) b ≡ sum_of b
unfolding sum_of
sum_clipped b = ⊎_elim
    (λ (h : 508 ≤ length b). let e : min 508 (length b) ≡ 508 = omega arith in rw e refl)
    (λ (h : length b < 508).
    let e : min 508 (length b) ≡ length b = omega arith in
    let n : length b + (508 - length b) ≡ 508 = omega arith in
    rw e (sym (rw n at (weighed_past (508 - length b) b))))
    (le_or_lt 508 (length b))

-- the loop of `part_sum`: the sum over the places before `from`, and the sum so far, are the sum over p places
pub record Adding (b : List ℕ) (from to sum p : ℕ) : Type 0 where
  pub whole : to ≤ 508
  pub there : to ≤ length b
  pub upto : p ≤ to
  pub small : Bytes b
  pub is : weighed from b + sum ≡ weighed p b

pub adding_start : (b : List ℕ) (from to : ℕ) → (from ≤ to) × (to ≤ 508) × (to ≤ length b) → Bytes b
    → Adding b from to 0 from
adding_start b from to h small = record {
  whole = h.1;
  there = h.2;
  upto = h.0;
  small = small;
  is = add-zero (weighed from b);
}

module _ {b : List ℕ} {from to sum p : ℕ} (s : Adding b from to sum p) where
  module _ (h : p < to) where
    pub adding_place : p < length b
    adding_place = omega (arith, s.there)

    pub adding_few : p < 508
    adding_few = omega (arith, s.whole)

    module _ {w : ℕ} (e : w ≡ (p + 1) * get_or b p 0) where
      adding_next : weighed from b + (sum + w) ≡ weighed (p + 1) b
      unfolding weighed
      adding_next = rw (add-one p, ← s.is, e) (omega arith)

      pub adding_on : Adding b from to (sum + w) (p + 1)
      adding_on = record {
        whole = s.whole;
        there = s.there;
        upto = omega arith;
        small = s.small;
        is = adding_next;
      }

      pub adding_fits : sum + w < 2 ^ 32
      adding_fits =
          omega (arith, adding_next, weighed_small (p + 1) b (omega (arith, s.whole)) s.small, s.whole)

  module _ (h : to ≤ p) where
    pub adding_end : weighed from b + sum ≡ weighed to b
    adding_end = let e : p ≡ to = omega (arith, s.upto) in rw e at s.is

    pub adding_small : sum ≤ 129540 * to
    adding_small = omega (arith, adding_end, weighed_small to b s.whole s.small)

-- the returns of `sum`: the bytes of a short list, or the eight parts of a block
pub sum_short : (b : List ℕ) {r : ℕ} → length b < 508 → weighed 0 b + r ≡ weighed (length b) b → r ≡ sum_of b
sum_short b h e =
    let n : min 508 (length b) ≡ length b = omega arith in
    let all : weighed (length b) b ≡ sum_of b = rw n at (sum_clipped b) in
    omega (arith, weighed_none b)

pub sum_parts : (b : List ℕ) (s t u v w x y z : ℕ) → weighed 0 b + s ≡ weighed 64 b
    → weighed 64 b + t ≡ weighed 128 b → weighed 128 b + u ≡ weighed 192 b → weighed 192 b + v ≡ weighed 256 b
    → weighed 256 b + w ≡ weighed 320 b → weighed 320 b + x ≡ weighed 384 b → weighed 384 b + y ≡ weighed 448 b
    → weighed 448 b + z ≡ weighed 508 b → s + t + u + v + (w + x + y + z) ≡ sum_of b
unfolding sum_of
sum_parts b s t u v w x y z s-is t-is u-is v-is w-is x-is y-is z-is = omega (arith, weighed_none b)
