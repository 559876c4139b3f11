-- The largest number of leading children that can be kept. If k children pass, so do fewer (`fewer_pass`). So one
-- walk that counts the leading keepable children, and one check of that cut, find the largest number: it is that
-- count if the check is passed (`kept_is`), and 0 if not, because then the root is at fault (`kept_none`). The
-- only induction is that of the search for the largest number that passes a test (`largest_says`). Assumes nothing.
use mathlib.Core.Path.{◌≡◌, refl, sym, ap, ◌∙◌}
use mathlib.Core.Bool.{Bool, true, false}
use mathlib.Core.Logic.{⊎_elim}
use mathlib.Core.List.{List, []}
use Prim.Native.Nat.{ℕ, zero, suc, ◌<◌, ◌≤◌}
use native.Mathlib.Omega.{arith}
use lib.ListN.{length}
use lib.Dec.{eqb}
use borrow.Author.Tests.{eq-eqb, eqb-true}
use Rattle.fields.specs.Choice.{if'}
use Rattle.fields.proofs.Basics.{clash, le_or_lt}
use Rattle.forest.specs.Forest.{node_of, firsts, roots}
use Rattle.soundness.specs.KindNumbers.{kind_statements}
use Rattle.table.specs.Answer.{accepted, passes}
use Rattle.table.proofs.Answers.{passes_is}
use Rattle.table.specs.Check.{check_of}
use Rattle.table.proofs.Checking.{check_values}
use Rattle.rescue.specs.Cut.{children, cut_to, largest, children_kept}
use Rattle.rescue.specs.Steps.{keepable, leading}
use Rattle.rescue.proofs.Cuts.{Rooted}
use Rattle.rescue.proofs.Greedy.{each, each_fewer, leading_each, each_leading, leading_few}
use Rattle.rescue.proofs.Greedy.{Passed, cut_accepted, cut_keepable}

-- the largest number that passes a test: it passes, no larger one does, and a number with both properties is the
-- largest
pub largest_says : (p : ℕ → Bool) (n : ℕ) → 1 ≤ largest p n → (p (largest p n) ≡ true) × (largest p n ≤ n)
unfolding largest
largest_says p zero some = absurd (omega arith)
largest_says p (suc n) some = go (p (suc n)) refl (largest_says p n) some
  where
    go : (b : Bool) → p (suc n) ≡ b → (1 ≤ largest p n → (p (largest p n) ≡ true) × (largest p n ≤ n))
        → 1 ≤ if' b (λ _. suc n) (λ _. largest p n)
        → (p (if' b (λ _. suc n) (λ _. largest p n)) ≡ true) × (if' b (λ _. suc n) (λ _. largest p n) ≤ suc n)
    go true e rest some = (e, omega arith)
    go false e rest some = ((rest some).0, omega (arith, (rest some).1))

pub largest_none : (p : ℕ → Bool) (n m : ℕ) → largest p n < m → m ≤ n → p m ≡ false
unfolding largest
largest_none p zero m h g = absurd (omega arith)
largest_none p (suc n) m h g = go (p (suc n)) refl h (largest_none p n m)
  where
    go : (b : Bool) → p (suc n) ≡ b → if' b (λ _. suc n) (λ _. largest p n) < m
        → (largest p n < m → m ≤ n → p m ≡ false) → p m ≡ false
    go true e h rest = absurd (omega arith)
    go false e h rest = ⊎_elim (λ (k : m ≤ n). rest h k)
        (λ (k : n < m). let at : m ≡ suc n = omega arith in rw at e) (le_or_lt m n)

largest_is : (p : ℕ → Bool) (n m : ℕ) → m ≤ n → (1 ≤ m → p m ≡ true) → ((j : ℕ) → m < j → p j ≡ true → j ≤ n → ⊥)
    → largest p n ≡ m
unfolding largest
largest_is p zero m h here none = omega arith
largest_is p (suc n) m h here none =
    ⊎_elim
    (λ (g : suc n ≤ m). let at : m ≡ suc n = omega arith in rw (sym (ap p at) ∙ here (omega arith)) (sym at))
    (λ (g : m < suc n). go (p (suc n)) refl g
    (largest_is p n m (omega arith) here (λ j l e u. none j l e (omega arith))))
    (le_or_lt (suc n) m)
  where
    go : (b : Bool) → p (suc n) ≡ b → m < suc n → largest p n ≡ m → if' b (λ _. suc n) (λ _. largest p n) ≡ m
    go true e g rest = absurd (none (suc n) g e (omega arith))
    go false e g rest = rest

-- a table of whole records that begins with a Statements
module _ {t : List ℕ} (names : List ℕ) (r : Rooted t) (few : length t ≤ 50400) where
  abbrev test : ℕ → Bool
  test k = passes (check_of (cut_to k t) names)

  passed : (k : ℕ) → test k ≡ true → Passed names r k
  passed k e = cut_keepable names r k (passes_is (check_of (cut_to k t) names) e).1

  -- all cuts have the same root except for its size
  same_root : (j k : ℕ) → Passed names r j
      → each (keepable (length names)) (firsts k (children t)) ≡ true → Passed names r k
  same_root j k p good = record { named = p.named; fields = p.fields; file = p.file; good = good }

  -- THEOREM: if k children can be kept, so can fewer
  pub fewer_pass : (j k : ℕ) → j ≤ k → test k ≡ true → test j ≡ true
  fewer_pass j k less e =
      let p = passed k e in
      let good = each_fewer _ j k (children t) less p.good in
      rw (cut_accepted names r j few (same_root k j p good)) refl

  abbrev pub most : ℕ
  most = leading (keepable (length names)) (children t)

  kept_largest : children_kept t names ≡ largest test (length (roots (children t)))
  unfolding children_kept
  kept_largest = rw (eq-eqb (node_of 0 t).kind kind_statements r.kind) refl

  -- THEOREM: the greedy walk finds the largest number
  pub kept_is : test most ≡ true → children_kept t names ≡ most
  kept_is e = kept_largest
      ∙ largest_is test (length (roots (children t))) most (leading_few _ (children t)) (λ h. e)
      (λ j l p u. omega (arith, each_leading _ j (children t) u (passed j p).good))

  pub kept_none : test most ≡ false → children_kept t names ≡ 0
  kept_none e = kept_largest
      ∙ largest_is test (length (roots (children t))) 0 (omega arith) (λ h. absurd (omega arith))
      (λ j l p u.
      let q = same_root j most (passed j p) (leading_each _ (children t)) in
      clash (ap passes (cut_accepted names r most few q)) e)

-- what is kept of a table, if anything is: the root is a Statements with that number of children, their cut passes, and
-- no larger number passes
module _ (t names : List ℕ) where
  abbrev cut_passes : ℕ → Bool
  cut_passes k = passes (check_of (cut_to k t) names)

  abbrev kids : ℕ
  kids = length (roots (children t))

  pub record Keeps (k : ℕ) : Type 0 where
    pub kind : (node_of 0 t).kind ≡ kind_statements
    pub there : k ≤ kids
    pub passed : check_of (cut_to k t) names ≡ accepted []

  pub keeps : 1 ≤ children_kept t names → Keeps (children_kept t names)
  unfolding children_kept
  keeps some = go (eqb (node_of 0 t).kind kind_statements) refl some
    where
      go : (b : Bool) → eqb (node_of 0 t).kind kind_statements ≡ b
          → 1 ≤ if' b (λ _. largest cut_passes kids) (λ _. 0) → Keeps (if' b (λ _. largest cut_passes kids) (λ _. 0))
      go false e h = absurd (omega arith)
      go true e h =
          let says = largest_says cut_passes kids h in
          let k : ℕ = largest cut_passes kids in
          let is = passes_is (check_of (cut_to k t) names) says.0 in
          record {
            kind = eqb-true (node_of 0 t).kind kind_statements e;
            there = says.1;
            passed = is.1 ∙ ap accepted (check_values (cut_to k t) names is.1);
          }

  pub none_larger : (j : ℕ) → (node_of 0 t).kind ≡ kind_statements → children_kept t names < j → j ≤ kids
      → cut_passes j ≡ false
  unfolding children_kept
  none_larger j kind less upto = largest_none cut_passes kids j
      (rw (eq-eqb (node_of 0 t).kind kind_statements kind) at less) upto
