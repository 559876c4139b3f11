-- The number of times that a number occurs in a list, and the errors by number. Occurrences in a joined list are sums
-- (`errors_append`, by induction on the list), so the errors may be counted one by one. Each error number has one
-- counter: `number_of_list` for 10 to 19, `number_of_module` for 50 to 61; any other number has none
-- (`number_other`). The loop keeps that the first i numbers are counted. Assumes nothing.
use mathlib.Core.Path.{◌≡◌, refl, sym, ap, ap₂, ◌∙◌}
use mathlib.Core.Bool.{Bool, true, false, ◌&&◌}
use mathlib.Core.Logic.{◌⊎◌, inl, inr}
use mathlib.Core.List.{List, [], ◌∷◌, ◌++◌}
use Prim.Native.Nat.{ℕ, zero, suc, ◌+◌, ◌-◌, ◌*◌, ◌<◌, ◌≤◌}
use native.Mathlib.Omega.{arith}
use lib.ListN.{length, get_or, take, drop, replicate, length-replicate}
use lib.Seq.{take-suc, take_all, take-append_seam}
use lib.Dec.{eqb, leb}
use borrow.Author.Tests.{eq-eqb, ne_eqb, le-leb, leb-true}
use Rattle.fields.specs.Choice.{if'}
use Rattle.fields.proofs.Basics.{clash, and_left, and_right, and_both, le_or_lt}
use Rattle.dialect.specs.declared.Dialect.{Dialect}
use Rattle.errors.specs.declared.Finding.{Finding}
use Rattle.errors.specs.declared.Listing.TheVariants.{Numbers}
use Rattle.errors.specs.Errors.{kept, stored}
use Rattle.errors.proofs.Storing.{all_words, stored_all, stored_length}
use Rattle.validate.specs.Job.{pass_errors}
use Rattle.validate.proofs.Theorems.{pass_few}
use Rattle.figures.specs.Adding.{added}
use Rattle.figures.specs.Counting.{occurrences, occurrences_from, numbers_of, error_counts}
use Rattle.figures.specs.Walking.{only, plus, error_figures}
use Rattle.figures.proofs.Additions.{added_twice, added_zeros, added_trailing, plus_append, plus_behind}
use Rattle.figures.proofs.Additions.{only_behind}

-- occurrences in a joined list, and in a run of equal numbers
pub occurs_append : (n : ℕ) (fs bs : List ℕ) → occurrences n (fs ++ bs) ≡ occurrences n fs + occurrences n bs
unfolding occurrences
occurs_append n [] bs = omega arith
occurs_append n (a ∷ fs) bs = let h = occurs_append n fs bs in omega (arith, h)

pub occurs_run : (n m k : ℕ) → occurrences n (replicate k m) ≡ if' (eqb m n) (λ _. k) (λ _. 0)
unfolding occurrences
occurs_run n m k = go (eqb m n) refl k
  where
    go : (b : Bool) → eqb m n ≡ b → (k : ℕ) → occurrences n (replicate k m) ≡ if' b (λ _. k) (λ _. 0)
    go true e zero = refl
    go false e zero = refl
    go true e (suc k) = let h = go true e k in rw e (omega (arith, h))
    go false e (suc k) = let h = go false e k in rw e (omega (arith, h))

-- several numbers at once
from_length : (k n : ℕ) (ms : List ℕ) → length (occurrences_from k n ms) ≡ k
unfolding occurrences_from
from_length zero n ms = refl
from_length (suc k) n ms = ap suc (from_length k (n + 1) ms)

from_append : (k n : ℕ) (fs bs : List ℕ)
    → occurrences_from k n (fs ++ bs) ≡ plus (occurrences_from k n fs) (occurrences_from k n bs)
unfolding occurrences_from plus
from_append zero n fs bs = refl
from_append (suc k) n fs bs = ap₂ ◌∷◌ (occurs_append n fs bs) (from_append k (n + 1) fs bs)

-- LAW: the errors of a joined list are the sums
pub errors_append : (fs bs : List ℕ) → error_figures (fs ++ bs) ≡ plus (error_figures fs) (error_figures bs)
unfolding error_figures error_counts
errors_append fs bs =
    let lists = from_append 10 10 fs bs in
    let modules = from_append 12 50 fs bs in
    let even : length (occurrences_from 10 10 fs) ≡ length (occurrences_from 10 10 bs)
    = from_length 10 10 fs ∙ sym (from_length 10 10 bs) in
    rw (lists, modules)
    (sym (plus_behind 10 _ _ ∙ ap (λ (r : List ℕ). replicate 10 0 ++ r) (plus_append _ _ _ _ even)))

-- a single number: its counter, or none
module _ (n : ℕ) where
  from_none : (k b : ℕ) → (n < b) ⊎ (b + k ≤ n) → occurrences_from k b (n ∷ []) ≡ replicate k 0
  unfolding occurrences_from occurrences
  from_none zero b h = refl
  from_none (suc k) b h = rw (ne_eqb n b (away h)) (ap (λ (r : List ℕ). 0 ∷ r) (from_none k (b + 1) (next h)))
    where
      away : (n < b) ⊎ (b + suc k ≤ n) → n ≡ b → ⊥
      away (inl g) e = absurd (omega arith)
      away (inr g) e = absurd (omega arith)

      next : (n < b) ⊎ (b + suc k ≤ n) → (n < b + 1) ⊎ (b + 1 + k ≤ n)
      next (inl g) = inl (omega arith)
      next (inr g) = inr (omega arith)

  from_one : (k b j : ℕ) → n ≡ b + j → j < k
      → occurrences_from k b (n ∷ []) ≡ only j 1 ++ replicate (k - (j + 1)) 0
  unfolding occurrences_from occurrences only
  from_one zero b j e h = absurd (omega arith)
  from_one (suc k) b zero e h =
      let left : suc k - (0 + 1) ≡ k = omega arith in
      rw (left, eq-eqb n b (omega arith)) (ap (λ (r : List ℕ). 1 ∷ r) (from_none k (b + 1) (inl (omega arith))))
  from_one (suc k) b (suc j) e h =
      let left : suc k - (suc j + 1) ≡ k - (j + 1) = omega arith in
      rw (left, ne_eqb n b (λ f. absurd (omega arith)))
      (ap (λ (r : List ℕ). 0 ∷ r) (from_one k (b + 1) j (omega arith) (omega arith)))

  module _ (fs : List ℕ) where
    pub number_of_list : (leb 10 n && leb n 19) ≡ true → {ys : List ℕ} → ys ≡ added fs (only (10 + (n - 10)) 1)
        → ys ≡ added fs (error_figures (n ∷ []))
    unfolding error_figures error_counts
    number_of_list h ys-is =
        let j : ℕ = n - 10 in
        let least = leb-true 10 n (and_left (leb 10 n) (leb n 19) h) in
        let most = leb-true n 19 (and_right (leb 10 n) (leb n 19) h) in
        let list = from_one 10 10 j (omega (arith, least)) (omega (arith, least, most)) in
        let rest = from_none 12 50 (inl (omega (arith, most))) in
        ys-is ∙ rw (list, rest, only_behind 10 j 1)
        (sym (added_trailing fs (replicate 10 0 ++ (only j 1 ++ replicate (10 - (j + 1)) 0)) 12
        ∙ added_trailing fs (replicate 10 0 ++ only j 1) (10 - (j + 1))))

    pub number_of_module : (leb 50 n && leb n 61) ≡ true → {ys : List ℕ} → ys ≡ added fs (only (20 + (n - 50)) 1)
        → ys ≡ added fs (error_figures (n ∷ []))
    unfolding error_figures error_counts
    number_of_module h ys-is =
        let j : ℕ = n - 50 in
        let least = leb-true 50 n (and_left (leb 50 n) (leb n 61) h) in
        let most = leb-true n 61 (and_right (leb 50 n) (leb n 61) h) in
        let list = from_none 10 10 (inr (omega (arith, least))) in
        let rest = from_one 12 50 j (omega (arith, least)) (omega (arith, least, most)) in
        ys-is ∙ rw (list, rest, only_behind 20 j 1)
        (sym (added_trailing fs (replicate 20 0 ++ only j 1) (12 - (j + 1))))

    pub number_other : (leb 10 n && leb n 19) ≡ false → (leb 50 n && leb n 61) ≡ false
        → fs ≡ added fs (error_figures (n ∷ []))
    unfolding error_figures error_counts
    number_other no-list no-module =
        let list = from_none 10 10 (outside 10 9 no-list) in
        let rest = from_none 12 50 (outside 50 11 no-module) in
        rw (list, rest) (sym (added_zeros fs 32))
      where
        outside : (b k : ℕ) → (leb b n && leb n (b + k)) ≡ false → (n < b) ⊎ (b + suc k ≤ n)
        outside b k e = go (le_or_lt b n) (le_or_lt n (b + k))
          where
            go : (b ≤ n) ⊎ (n < b) → (n ≤ b + k) ⊎ (b + k < n) → (n < b) ⊎ (b + suc k ≤ n)
            go (inl x) (inl y) = clash (and_both _ _ (le-leb b n x) (le-leb n (b + k) y)) e
            go (inl x) (inr y) = inr (omega arith)
            go (inr x) y = inl x

-- the two tests of `add_number`
module _ {n : ℕ} where
  pub list_least : (leb 10 n && leb n 19) ≡ true → 10 ≤ n
  list_least h = leb-true 10 n (and_left (leb 10 n) (leb n 19) h)

  pub list_most : (leb 10 n && leb n 19) ≡ true → n ≤ 19
  list_most h = leb-true n 19 (and_right (leb 10 n) (leb n 19) h)

  pub module_least : (leb 50 n && leb n 61) ≡ true → 50 ≤ n
  module_least h = leb-true 50 n (and_left (leb 50 n) (leb n 61) h)

  pub module_most : (leb 50 n && leb n 61) ≡ true → n ≤ 61
  module_most h = leb-true n 61 (and_right (leb 50 n) (leb n 61) h)

-- the invariant of `add_numbers`: the first i numbers are counted
pub record Counting (start found figures : List ℕ) (i : ℕ) : Type 0 where
  pub upto : i ≤ length found
  pub is : figures ≡ added start (error_figures (take i found))

pub counting_start : (start found : List ℕ) → Counting start found start 0
unfolding error_figures error_counts occurrences_from occurrences
counting_start start found = record { upto = omega arith; is = sym (added_zeros start 32) }

module _ {start found figures : List ℕ} {i : ℕ} (c : Counting start found figures i) where
  pub counting_on : i < length found → {x : ℕ} → x ≡ get_or found i 0 → {ys : List ℕ}
      → ys ≡ added figures (error_figures (x ∷ [])) → Counting start found ys (i + 1)
  counting_on h {x} x-is {ys} ys-is = record { upto = omega arith; is = so }
    where
      more : take (i + 1) found ≡ take i found ++ x ∷ []
      more = let next : i + 1 ≡ suc i = omega arith in rw (next, x-is) (take-suc found i 0 h)

      so : ys ≡ added start (error_figures (take (i + 1) found))
      so = ys-is ∙ rw (c.is, more, errors_append (take i found) (x ∷ []))
          (added_twice start (error_figures (take i found)) (error_figures (x ∷ [])))

  pub counting_end : length found ≤ i → figures ≡ added start (error_figures found)
  counting_end h =
      let all : take i found ≡ found = take_all i found h in
      rw all at c.is

-- a list with room for all errors, in the form Numbers, holds the number of each
numbers_length : (es : List Finding) → length (numbers_of es) ≡ length es
unfolding numbers_of
numbers_length [] = refl
numbers_length (e ∷ es) = ap suc (numbers_length es)

numbers_words : (es : List Finding) → all_words Numbers es ≡ numbers_of es
unfolding numbers_of
numbers_words [] = refl
numbers_words (e ∷ es) = ap (λ (r : List ℕ). e.number ∷ r) (numbers_words es)

module _ (d : Dialect) (names t : List ℕ) (few : length t ≤ 50400) {found : List ℕ} {n : ℕ}
    (n_is : n ≡ length (kept Numbers (pass_errors d names t)))
    (found-is : found ≡ stored Numbers (kept Numbers (pass_errors d names t)) (replicate 4200 0)) where
  es : List Finding
  es = pass_errors d names t

  short : length es ≤ 4200
  unfolding es
  short = omega (arith, pass_few Numbers d names t, few)

  pub numbers_there : n ≤ length found
  unfolding es
  numbers_there =
      let long = stored_length Numbers es (replicate 4200 0) in
      omega (arith, n_is, short, long, ap length found-is, length-replicate {A = ℕ} 4200 0)

  pub numbers_found : take n found ≡ numbers_of (pass_errors d names t)
  unfolding es
  numbers_found =
      let long = length-replicate {A = ℕ} 4200 0 in
      let room : 1 * length es ≤ length {A = ℕ} (replicate 4200 0) = omega (arith, short, long) in
      let all : stored Numbers es (replicate 4200 0) ≡ numbers_of es ++ drop (1 * length es) (replicate 4200 0) =
      rw (← numbers_words es) (stored_all Numbers es (replicate 4200 0) room) in
      rw (found-is, n_is, all) (take_front (numbers_of es) _ (length es) (numbers_length es))
    where
      take_front : (xs ys : List ℕ) (k : ℕ) → length xs ≡ k → take k (xs ++ ys) ≡ xs
      take_front xs ys k e = rw (← e) (take-append_seam xs ys)

  -- the counters after the loop over them
  pub errors_added : (start : List ℕ) {figures : List ℕ} → figures ≡ added start (error_figures (take (n - 0) found))
      → figures ≡ added start (error_figures (numbers_of (pass_errors d names t)))
  errors_added start h = h ∙ (let all : n - 0 ≡ n = omega arith in rw (all, numbers_found) refl)
