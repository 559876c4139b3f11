-- Which numbers are editions, and which edition holds in a file. A number is 1, 2 or no edition (`edition_one`,
-- `edition_two`, `edition_none`), and an edition comes from its own number alone (`edition_back`). Each law computes
-- from the tests of `edition_of`. Assumes nothing.
use Rattle.std.specs.Prelude.{None, Some}
use mathlib.Core.Path.{◌≡◌, refl}
use mathlib.Core.Bool.{Bool, true, false}
use mathlib.Core.List.{List, [], ◌∷◌}
use Prim.Native.Nat.{ℕ}
use native.Mathlib.Omega.{arith}
use lib.Dec.{eqb}
use lib.ListN.{length}
use borrow.Author.Tests.{ne_eqb, eqb-true}
use Rattle.fields.proofs.Basics.{never}
use Rattle.fields.specs.Choice.{if'}
use Rattle.dialect.specs.declared.Edition.{Edition}
use Rattle.dialect.specs.declared.Edition.TheVariants.{One, Two}
use Rattle.dialect.specs.Editions.{edition_of, edition_held}

-- 1 is the first edition, 2 the second, and no other number is one
pub edition_one : (n : ℕ) → n ≡ 1 → edition_of n ≡ Some One
unfolding edition_of
edition_one n h = simp h

pub edition_two : (n : ℕ) → n ≡ 2 → edition_of n ≡ Some Two
unfolding edition_of
edition_two n h = simp h

pub edition_none : (n : ℕ) → (n ≡ 1 → ⊥) → (n ≡ 2 → ⊥) → edition_of n ≡ None
unfolding edition_of
edition_none n not-one not_two = simp (ne_eqb n 1 not-one, ne_eqb n 2 not_two)

-- the number of an edition
abbrev pub edition_number : Edition → ℕ
edition_number One = 1
edition_number Two = 2

-- LAW: the number of an edition gives it back
pub number_known : (e : Edition) → edition_of (edition_number e) ≡ Some e
unfolding edition_of
number_known One = refl
number_known Two = refl

-- LAW: and no other number does
pub edition_back : (n : ℕ) {e : Edition} → edition_of n ≡ Some e → n ≡ edition_number e
unfolding edition_of
edition_back n {e} h = go (eqb n 1) (eqb n 2) refl refl h
  where
    go : (a b : Bool) → eqb n 1 ≡ a → eqb n 2 ≡ b
        → if' a (λ _. Some One) (λ _. if' b (λ _. Some Two) (λ _. None)) ≡ Some e → n ≡ edition_number e
    go true b one two k = let same : One ≡ e = cc in rw (← same) (eqb-true n 1 one)
    go false true one two k = let same : Two ≡ e = cc in rw (← same) (eqb-true n 2 two)
    go false false one two k = never (cc)

-- a file with no stated edition; one with a number and no dialect; one with both
pub held_none : (bytes : List ℕ) → edition_held bytes [] ≡ Some One
unfolding edition_held
held_none [] = refl
held_none (b ∷ bs) = refl

pub held_alone : (bytes : List ℕ) (n : ℕ) → length bytes ≡ 0 → edition_held bytes (n ∷ []) ≡ None
unfolding edition_held
held_alone [] n h = refl
held_alone (b ∷ bs) n h = absurd (omega arith)

pub held_number : (bytes : List ℕ) (n : ℕ) → (length bytes ≡ 0 → ⊥) → edition_held bytes (n ∷ []) ≡ edition_of n
unfolding edition_held
held_number [] n h = absurd (h refl)
held_number (b ∷ bs) n h = refl
