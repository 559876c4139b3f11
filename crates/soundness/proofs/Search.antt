-- The first number at which a test fails. A loop that has passed the numbers below i keeps that the search from i on is
-- the whole search (`Looking`, with `look_start`, `look_on`, `look_here` and `look_end`). The search means what its
-- name says: if it finds none, the test holds everywhere (`none_found_lem`), and the other way round (`all_found`);
-- if it finds k, the test fails at k and holds before it (`found`, the record `First`). The induction is on the count
-- of numbers that are left. Assumes nothing.
use Rattle.std.specs.Prelude.{None, Option, Some, ℕ}
use mathlib.Core.Path.{◌≡◌, refl, sym, ◌∙◌}
use mathlib.Core.Bool.{Bool, true, false}
use Prim.Native.Nat.{ℕ, zero, suc, ◌+◌, ◌-◌, ◌<◌, ◌≤◌}
use native.Mathlib.Nat.{sub-zero}
use native.Mathlib.Omega.{arith}
use lib.Dec.{eqb}
use borrow.Author.Tests.{eqb-true, eqb-false}
use Rattle.fields.proofs.Basics.{never, clash}
use Rattle.soundness.specs.Sound.{first_false, clear}

first_on : (p : ℕ → Bool) (i n : ℕ) → p i ≡ true → first_false p i (suc n) ≡ first_false p (i + 1) n
unfolding first_false
first_on p i n e = rw e refl

first_here : (p : ℕ → Bool) (i n : ℕ) → p i ≡ false → first_false p i (suc n) ≡ Some i
unfolding first_false
first_here p i n e = rw e refl

-- a loop that has passed the numbers below i of n
pub record Looking (p : ℕ → Bool) (n i : ℕ) : Type 0 where
  pub upto : i ≤ n
  pub rest : first_false p i (n - i) ≡ first_false p 0 n

pub look_start : (p : ℕ → Bool) (n : ℕ) → Looking p n 0
look_start p n = record { upto = omega arith; rest = rw sub-zero refl }

module _ {p : ℕ → Bool} {n i : ℕ} (s : Looking p n i) where
  pub look_on : i < n → p i ≡ true → Looking p n (i + 1)
  look_on h e = let m : n - i ≡ suc (n - (i + 1)) = omega arith in
      record { upto = omega arith; rest = sym (first_on p i (n - (i + 1)) e) ∙ (rw m at s.rest) }

  pub look_here : i < n → p i ≡ false → Some i ≡ first_false p 0 n
  look_here h e = let m : n - i ≡ suc (n - (i + 1)) = omega arith in
      sym (first_here p i (n - (i + 1)) e) ∙ (rw m at s.rest)

  pub look_end : n ≤ i → None ≡ first_false p 0 n
  unfolding first_false
  look_end h = let m : n - i ≡ 0 = omega arith in rw m at s.rest

pub clear_is : (x : Option ℕ) → clear x ≡ true → x ≡ None
clear_is (Some i) e = clash e refl
clear_is None e = refl

-- LAW: where none is found, the test holds everywhere; where one is found, it fails there and holds before
none_from : (p : ℕ → Bool) (n i : ℕ) → first_false p i n ≡ None → (j : ℕ) → i ≤ j → j < i + n → p j ≡ true
none_from p zero i e j h g = absurd (omega arith)
none_from p (suc n) i e j h g = split (p i) refl (λ t. none_from p n (i + 1) t j)
  where
    later : (first_false p (i + 1) n ≡ None → i + 1 ≤ j → j < i + 1 + n → p j ≡ true) → p i ≡ true → (b : Bool)
        → eqb i j ≡ b → p j ≡ true
    later rest t true same = let at : i ≡ j = eqb-true i j same in rw (← at) t
    later rest t false apart = let d : i ≡ j → ⊥ = eqb-false i j apart in
        rest (sym (first_on p i n t) ∙ e) (omega arith) (omega arith)

    split : (b : Bool) → p i ≡ b → (first_false p (i + 1) n ≡ None → i + 1 ≤ j → j < i + 1 + n → p j ≡ true)
        → p j ≡ true
    split true t rest = later rest t (eqb i j) refl
    split false t rest = never (cc (first_here p i n t))

pub none_found_lem : (p : ℕ → Bool) (n : ℕ) → first_false p 0 n ≡ None → (j : ℕ) → j < n → p j ≡ true
none_found_lem p n e j h = none_from p n 0 e j (omega arith) (omega arith)

-- and where it holds everywhere, none is found
all_from : (p : ℕ → Bool) (n i : ℕ) → ((j : ℕ) → i ≤ j → j < i + n → p j ≡ true) → first_false p i n ≡ None
unfolding first_false
all_from p zero i holds = refl
all_from p (suc n) i holds = first_on p i n (holds i (omega arith) (omega arith))
    ∙ all_from p n (i + 1) (λ j h k. holds j (omega arith) (omega arith))

pub all_found : (p : ℕ → Bool) (n : ℕ) → ((j : ℕ) → j < n → p j ≡ true) → first_false p 0 n ≡ None
all_found p n holds = all_from p n 0 (λ j h k. holds j (omega arith))

pub record First (p : ℕ → Bool) (i n k : ℕ) : Type 0 where
  pub from : i ≤ k
  pub within : k < i + n
  pub fails : p k ≡ false
  pub before : (j : ℕ) → i ≤ j → j < k → p j ≡ true

found_from : (p : ℕ → Bool) (n i k : ℕ) → first_false p i n ≡ Some k → First p i n k
unfolding first_false
found_from p zero i k e = never (cc)
found_from p (suc n) i k e = split (p i) refl (λ t. found_from p n (i + 1) k t)
  where
    passed : p i ≡ true → First p (i + 1) n k → First p i (suc n) k
    passed t f = record {
      from = omega (arith, f.from);
      within = omega (arith, f.within);
      fails = f.fails;
      before = λ j h g. at t f j h g (eqb i j) refl;
    }
      where
        at : p i ≡ true → First p (i + 1) n k → (j : ℕ) → i ≤ j → j < k → (b : Bool) → eqb i j ≡ b → p j ≡ true
        at t f j h g true same = let e : i ≡ j = eqb-true i j same in rw (← e) t
        at t f j h g false apart = let d : i ≡ j → ⊥ = eqb-false i j apart in f.before j (omega arith) g

    split : (b : Bool) → p i ≡ b → (first_false p (i + 1) n ≡ Some k → First p (i + 1) n k) → First p i (suc n) k
    split true t rest = passed t (rest (sym (first_on p i n t) ∙ e))
    split false t rest = let at : i ≡ k = cc (first_here p i n t) in
        record {
          from = omega arith;
          within = omega arith;
          fails = rw at at t;
          before = λ j h g. absurd (omega arith);
        }

pub found : (p : ℕ → Bool) (n k : ℕ) → first_false p 0 n ≡ Some k → First p 0 n k
found p n k e = found_from p n 0 k e
