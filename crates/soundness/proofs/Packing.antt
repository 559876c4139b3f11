-- The packed rows and rules of code say what specs/Kinds.antt says. Each arm of code is one computed equation
-- (`row_arm`), and a number that is none of the kinds has no row (`row_none`): code has tested that it differs from
-- each kind's number (`Apart`), so the search among the kinds ends empty, by induction on the kinds. Below that is what
-- a packed rule says of each child: child j of n is among the first, between, or among the last (`class_wanted`), and
-- code finds the same class (`at_front`, `at_middle`, `at_back`).
use mathlib.Core.Path.{◌≡◌, refl, sym, ap, ◌∙◌}
use mathlib.Core.Bool.{Bool, true, false, ◌&&◌, ◌||◌}
use mathlib.Core.List.{List, [], ◌∷◌, ◌++◌}
use Prim.Native.Nat.{ℕ, zero, suc, ◌+◌, ◌-◌, ◌/◌, ◌%◌, ◌<◌, ◌≤◌}
use native.Mathlib.Omega.{arith}
use lib.ListN.{length, get_or, take, replicate, length-append, length-replicate, get_or-replicate, get_or-append}
use lib.ListN.{get_or-eq_default}
use lib.Seq.{length-take-le, get_or-take, get_or-append-add}
use lib.Dec.{eqb, ltb, leb}
use borrow.Author.Tests.{eqb-true, ne_eqb, le-leb, lt-leb, ltb-true, ltb-false, lt-ltb, le-ltb}
use Rattle.fields.proofs.Basics.{never}
use Rattle.fields.specs.Choice.{if'}
use Rattle.soundness.specs.Kinds.{Children, Kind, kind, kinds, no_name, exactly, kind_in, kind_of, class_of}
use Rattle.soundness.specs.Sound.{permitted, fixed, between, wanted}
use Rattle.soundness.specs.Packed.{fronts_in, front_in, times_in, middle_in, backs_in, back_in, times_of, children_of}
use Rattle.soundness.specs.Packed.{rules, rule_at, rule_of, rules_in, rules_of, RowOf, number_sound, LastFrom}
use Rattle.soundness.specs.Packed.{class_at}

-- the row of a number that no kind has
abbrev pub none : ℕ → Kind
none n = kind n 0 0 no_name (λ d. exactly [])

-- a number that is none of some, as code tests it: the last of them outermost
abbrev pub Apart : List ℕ → ℕ → Type 0
Apart [] k = Unit {0}
Apart (n ∷ ns) k = Apart ns k × (k ≡ n → ⊥)

-- the numbers of the kinds, the last first
abbrev pub numbers_down : List ℕ
numbers_down =
    63 ∷ 62 ∷ 61 ∷ 60 ∷ 54 ∷ 53 ∷ 52 ∷ 51 ∷ 50 ∷ 43 ∷ 42 ∷ 41 ∷ 40 ∷ 39 ∷ 38 ∷ 37 ∷ 36 ∷ 35 ∷ 34 ∷ 33 ∷ 32 ∷ 31 ∷ 30
    ∷ 29 ∷ 28 ∷ 27 ∷ 26 ∷ 25 ∷ 24 ∷ 23 ∷ 22 ∷ 21 ∷ 20 ∷ 12 ∷ 11 ∷ 10 ∷ 9 ∷ 8 ∷ 7 ∷ 6 ∷ 5 ∷ 4 ∷ 3 ∷ 2 ∷ 1 ∷ []

abbrev member_of : ℕ → List ℕ → Bool
member_of n [] = false
member_of n (m ∷ ms) = eqb n m || member_of n ms

not_member : (ns : List ℕ) (k n : ℕ) → Apart ns k → member_of n ns ≡ true → n ≡ k → ⊥
not_member [] k n a e same = never (cc)
not_member (m ∷ ms) k n a e same = go (eqb n m) refl e (λ t. not_member ms k n a.0 t same)
  where
    go : (b : Bool) → eqb n m ≡ b → (b || member_of n ms) ≡ true → (member_of n ms ≡ true → ⊥) → ⊥
    go true t e rest = a.1 (sym same ∙ eqb-true n m t)
    go false t e rest = rest e

abbrev all_in : List Kind → List ℕ → Bool
all_in [] ns = true
all_in (k ∷ ks) ns = member_of k.number ns && all_in ks ns

kind_apart_in : (ks : List Kind) (ns : List ℕ) (n : ℕ) → all_in ks ns ≡ true → Apart ns n → kind_in ks n ≡ none n
unfolding kind_in
kind_apart_in [] ns n e a = refl
kind_apart_in (k ∷ ks) ns n e a = go (member_of k.number ns) refl e (λ t. kind_apart_in ks ns n t a)
  where
    go : (b : Bool) → member_of k.number ns ≡ b → (b && all_in ks ns) ≡ true
        → (all_in ks ns ≡ true → kind_in ks n ≡ none n) → kind_in (k ∷ ks) n ≡ none n
    go true t e rest = rw (ne_eqb k.number n (not_member ns n k.number a t), kind_in) (rest e)
    go false t e rest = never (cc)

-- an arm of code: the kind k is the number n, at which the row is computed
pub row_arm : (row n k : ℕ) → k ≡ n → row / 0x1000_0000_0000_0000 % 16 ≡ class_of n
    → row / 0x100_0000_0000_0000 % 4 ≡ (kind_of n).details → eqb (row / 0x10_0000_0000_0000 % 16) 1 ≡ (kind_of n).named
    → rules_in row ≡ rules_of n → RowOf k row
row_arm row n k k_is c d m r = rw k_is record { class = c; details = d; named = m; rules = r }

-- a number that no kind has: the row is empty
row_empty : (k : ℕ) → kind_of k ≡ none k → RowOf k 0
unfolding rules_in rules_of rule_at rule_of children_of
row_empty k empty = record {
  class = sym (ap (λ (r : Kind). r.class) empty);
  details = sym (ap (λ (r : Kind). r.details) empty);
  named = sym (ap (λ (r : Kind). r.named) empty);
  rules = rw empty refl;
}

pub kind_none : (k : ℕ) → Apart numbers_down k → kind_of k ≡ none k
unfolding kind_of
kind_none k a = kind_apart_in kinds numbers_down k refl a

pub row_none : (k : ℕ) → Apart numbers_down k → RowOf k 0
row_none k a = row_empty k (kind_none k a)

-- a number that is none of the first n, the last of them first, is past them
abbrev down : ℕ → List ℕ
down zero = []
down (suc n) = n ∷ down n

past : (n m : ℕ) → Apart (down n) m → n ≤ m
past zero m a = omega arith
past (suc n) m a = let h : n ≤ m = past n m a.0 in omega (arith, a.1)

-- the number of a rule past the details: none
pub rule_beyond : (row d : ℕ) → 1 ≤ d → Apart (3 ∷ 2 ∷ 1 ∷ []) d → rule_at 0 ≡ get_or (rules_in row) d (exactly [])
unfolding rule_at rules_in
rule_beyond row d one a =
    let late : 4 ≤ d = omega (arith, a.1, a.0.1, a.0.0.1) in
    sym (get_or-eq_default (rules_in row) (exactly []) late)

-- the rule of a row at a detail
module _ {k row : ℕ} (row_is : RowOf k row) where
  rule_late : (d : ℕ) → 4 ≤ d → exactly [] ≡ rule_of k d
  unfolding rule_of
  rule_late d h = rw (lt-leb d (kind_of k).details (omega (arith, row_is.details))) refl

  rules_of_lem : (d : ℕ) → get_or (rules_of k) d (exactly []) ≡ rule_of k d
  unfolding rules_of
  rules_of_lem zero = refl
  rules_of_lem (suc zero) = refl
  rules_of_lem (suc (suc zero)) = refl
  rules_of_lem (suc (suc (suc zero))) = refl
  rules_of_lem (suc (suc (suc (suc d)))) =
      let late : 4 ≤ suc (suc (suc (suc d))) = omega arith in
      get_or-eq_default (rules_of k) (exactly []) late ∙ rule_late _ late

  pub rule_in : (d : ℕ) → get_or (rules_in row) d (exactly []) ≡ rule_of k d
  rule_in d = ap (λ (l : List Children). get_or l d (exactly [])) row_is.rules ∙ rules_of_lem d

  pub rule_first : (d : ℕ) → d ≡ 0 → children_of (row / 0x1000 % 0x100_0000_0000) ≡ rule_of k d
  unfolding rules_in
  rule_first d e = rw e (rule_in 0)

-- a number that no rule has: it permits nothing
pub rule_none : (m : ℕ) → Apart (down 5) m → children_of 0 ≡ rule_at m
unfolding children_of rule_at
rule_none m a = sym (get_or-eq_default rules (exactly []) (past 5 m a))

-- a place past three: no class
pub class_none : (a b c j : ℕ) → Apart (down 3) j → 0 ≡ get_or (a ∷ b ∷ c ∷ []) j 0
class_none a b c j h = sym (get_or-eq_default (a ∷ b ∷ c ∷ []) 0 (past 3 j h))

-- a rule's classes: as many as there are children
pub length_wanted : (c : Children) (n : ℕ) → length (wanted c n) ≡ fixed c + between c n
unfolding wanted
length_wanted c n = simp (length-append, length-replicate {A = ℕ}) (omega arith)

-- what a packed rule says, in the terms of code
module _ (rule : ℕ) where
  front_long : length (take (fronts_in rule) (front_in rule)) ≡ fronts_in rule
  front_long = length-take-le (fronts_in rule) (front_in rule) (omega arith)

  back_long : length (take (backs_in rule) (back_in rule)) ≡ backs_in rule
  back_long = length-take-le (backs_in rule) (back_in rule) (omega arith)

  fixed_is : fixed (children_of rule) ≡ fronts_in rule + backs_in rule
  unfolding children_of
  fixed_is = omega (arith, front_long, back_long)

  -- the class of child j of n: among the first, between, or among the last
  module _ (n j : ℕ) where
    wanted_front : j < fronts_in rule → get_or (front_in rule) j 0 ≡ get_or (wanted (children_of rule) n) j 0
    unfolding wanted children_of
    wanted_front g =
        let k : j < length (take (fronts_in rule) (front_in rule)) = omega (arith, front_long) in
        sym (get_or-append (take (fronts_in rule) (front_in rule)) _ 0 j k
        ∙ get_or-take (fronts_in rule) (front_in rule) j 0 g)

    later : (m : ℕ) → j ≡ length (take (fronts_in rule) (front_in rule)) + m
        → get_or (wanted (children_of rule) n) j 0
        ≡ get_or (replicate (between (children_of rule) n) (middle_in rule) ++ take (backs_in rule) (back_in rule)) m
        0
    unfolding wanted children_of
    later m e = rw e (get_or-append-add (take (fronts_in rule) (front_in rule)) _ m 0)

    wanted_middle : fronts_in rule ≤ j → j < n - backs_in rule
        → middle_in rule ≡ get_or (wanted (children_of rule) n) j 0
    wanted_middle g l =
        let between-long : length (replicate (between (children_of rule) n) (middle_in rule))
        ≡ between (children_of rule) n = length-replicate {A = ℕ} (between (children_of rule) n)
        (middle_in rule) in
        let k : j - fronts_in rule < between (children_of rule) n = omega (arith, fixed_is) in
        sym
        (later (j - fronts_in rule) (omega (arith, front_long))
        ∙ get_or-append (replicate (between (children_of rule) n) (middle_in rule))
        (take (backs_in rule) (back_in rule)) 0 (j - fronts_in rule) (omega arith)
        ∙ get_or-replicate (between (children_of rule) n) (j - fronts_in rule) (middle_in rule) 0 k)

    wanted_back : fixed (children_of rule) ≤ n → j < n → n - backs_in rule ≤ j
        → get_or (back_in rule) (j - (n - backs_in rule)) 0 ≡ get_or (wanted (children_of rule) n) j 0
    wanted_back room h l =
        let m : ℕ = j - (n - backs_in rule) in
        let between-long : length (replicate (between (children_of rule) n) (middle_in rule))
        ≡ between (children_of rule) n = length-replicate {A = ℕ} (between (children_of rule) n)
        (middle_in rule) in
        sym
        (later (length (replicate (between (children_of rule) n) (middle_in rule)) + m)
        (omega (arith, front_long, fixed_is))
        ∙ get_or-append-add (replicate (between (children_of rule) n) (middle_in rule))
        (take (backs_in rule) (back_in rule)) m 0
        ∙ get_or-take (backs_in rule) (back_in rule) m 0 (omega (arith, fixed_is)))

    -- as code finds it, where the last ones begin at child m
    pub class_wanted : (m : ℕ) → LastFrom n (backs_in rule) m → fixed (children_of rule) ≤ n → j < n
        → class_at rule m j ≡ get_or (wanted (children_of rule) n) j 0
    unfolding class_at
    class_wanted m m_is room h = go (ltb j (fronts_in rule)) refl (ltb j m) refl
      where
        go : (a : Bool) → ltb j (fronts_in rule) ≡ a → (b : Bool) → ltb j m ≡ b
            → if' a (λ _. get_or (front_in rule) j 0)
            (λ _. if' b (λ _. middle_in rule) (λ _. get_or (back_in rule) (j - m) 0))
            ≡ get_or (wanted (children_of rule) n) j 0
        go true e b f = wanted_front (ltb-true j (fronts_in rule) e)
        go false e true f = let l : j < m = ltb-true j m f in
            wanted_middle (ltb-false j (fronts_in rule) e) (omega arith)
        go false e false f =
            let l : m ≤ j = ltb-false j m f in
            let at : m ≡ n - backs_in rule = omega arith in
            rw at (wanted_back room h (omega arith))

  -- the same, return by return
  module _ (m j : ℕ) {f r : ℕ} (f-is : f ≡ fronts_in rule) where
    pub at_front : j < f → r ≡ get_or (front_in rule) j 0 → r ≡ class_at rule m j
    unfolding class_at
    at_front h r-is = r-is ∙ rw (lt-ltb j (fronts_in rule) (omega arith)) refl

    pub at_middle : f ≤ j → j < m → r ≡ middle_in rule → r ≡ class_at rule m j
    unfolding class_at
    at_middle h g r-is = r-is ∙ rw (le-ltb j (fronts_in rule) (omega arith), lt-ltb j m g) refl

    pub at_back : f ≤ j → m ≤ j → r ≡ get_or (back_in rule) (j - m) 0 → r ≡ class_at rule m j
    unfolding class_at
    at_back h g r-is = r-is ∙ rw (le-ltb j (fronts_in rule) (omega arith), le-ltb j m g) refl

  -- the number of children, return by return
  module _ (n : ℕ) {f b : ℕ} (f-is : f ≡ fronts_in rule) (b_is : b ≡ backs_in rule) where
    pub number_few : n < f + b → false ≡ number_sound (children_of rule) n
    unfolding number_sound
    number_few h = rw (lt-leb (fixed (children_of rule)) n (omega (arith, fixed_is))) refl

    module _ (h : f + b ≤ n) {times : ℕ} (times-is : times ≡ times_in rule) where
      number_enough : number_sound (children_of rule) n ≡ permitted (times_of times) (n - (f + b))
      unfolding number_sound children_of
      number_enough =
          let long : fixed (children_of rule) ≡ f + b = omega (arith, fixed_is) in
          rw (le-leb (fixed (children_of rule)) n (omega arith), long, times-is) refl

      pub number_any : times ≡ 15 → true ≡ number_sound (children_of rule) n
      unfolding permitted
      number_any e = sym (number_enough ∙ rw e refl)

      pub number_even : times ≡ 14 → eqb ((n - (f + b)) % 2) 0 ≡ number_sound (children_of rule) n
      unfolding permitted
      number_even e = sym (number_enough ∙ rw e refl)

      pub number_most : (times ≡ 15 → ⊥) → (times ≡ 14 → ⊥)
          → leb (n - (f + b)) times ≡ number_sound (children_of rule) n
      unfolding permitted
      number_most d e = sym (number_enough ∙ rw (ne_eqb times 15 d, ne_eqb times 14 e) refl)
