-- Children tested by ranges of kinds in place of classes. The kinds of a class are next to each other, so a kind is in
-- the range of a class exactly if it has that class (`class_range`): computed for the kinds below 64, and no kind is
-- past them. Class 0 has no range; where a rule requires it, there is a child too many (`child_too_many`). After j
-- children the ranges that are left are those from child j on (`Ranging`), since from the fourth child on all are the
-- same (`ranges_next`). So the loop over the ranges is the loop over the classes: cite `range_start`, `range_stop`,
-- `range_on` and `range_end`. Assumes nothing.
use mathlib.Core.Path.{◌≡◌, refl, sym, ap, ◌∙◌}
use mathlib.Core.Bool.{Bool, true, false, ◌&&◌, ◌||◌, and-false}
use mathlib.Core.List.{List, [], ◌∷◌}
use Prim.Native.Nat.{ℕ, zero, suc, ◌+◌, ◌-◌, ◌*◌, ◌/◌, ◌%◌, ◌<◌, ◌≤◌}
use native.Mathlib.Omega.{arith}
use lib.ListN.{length, get_or, take, drop, get_or-eq_default}
use lib.Seq.{length-take-le, get_or-take}
use lib.Dec.{eqb, ltb, leb}
use borrow.Author.Tests.{eqb-true, eqb-false, ne_eqb, leb-true, leb-false, lt-leb, ltb-true, ltb-false, lt-ltb}
use Rattle.fields.proofs.Basics.{and_left, and_right, never}
use Rattle.fields.specs.Choice.{if'}
use Rattle.forest.specs.Forest.{size_of, node_of, span_of, forest}
use Rattle.soundness.specs.Kinds.{Times, any_number, even_number, at_most, Children, Kind, kind_of, kind_in, class_of}
use Rattle.soundness.specs.Sound.{permitted, fixed, wanted, kids_sound}
use Rattle.soundness.specs.Packed.{fronts_in, front_in, middle_in, backs_in, back_in, children_of, rule_of, number_sound}
use Rattle.soundness.specs.Packed.{class_at, range_of, in_range, class_for, ranges_from, none_more, all_classed}
use Rattle.soundness.specs.Packed.{classed, RangesOf, Ranges, child_of, child_in}
use Rattle.soundness.proofs.Packing.{none, Apart, numbers_down, kind_none, class_wanted}
use Rattle.soundness.proofs.Records.{kids_number, kids_tests, no_last, Fitting, fit_start, fit_index, fit_stop}
use Rattle.soundness.proofs.Records.{fit_on, fit_end}

-- an arm of code: the kind k is the number n, at which the ranges are computed
pub range_arm : (w n k : ℕ) → k ≡ n → w ≡ ranges_from (rule_of n 0) 0 → classed (rule_of n 0) ≡ true → RangesOf k w
range_arm w n k k_is a b = rw k_is record { are = a; known = b }

pub range_none : (k : ℕ) → Apart numbers_down k → RangesOf k 0x00ff_00ff_00ff_00ff
unfolding ranges_from range_of class_for classed rule_of
range_none k a = record { are = rw (kind_none k a) refl; known = rw (kind_none k a) refl }

-- a test that holds for each number below n
abbrev all_below : (ℕ → Bool) → ℕ → Bool
all_below p zero = true
all_below p (suc n) = p n && all_below p n

below : (p : ℕ → Bool) (n k : ℕ) → all_below p n ≡ true → k < n → p k ≡ true
below p zero k e h = absurd (omega arith)
below p (suc n) k e h = go (eqb k n) refl (λ l. below p n k (and_right (p n) _ e) l)
  where
    go : (b : Bool) → eqb k n ≡ b → (k < n → p k ≡ true) → p k ≡ true
    go true t rest = rw (eqb-true k n t) (and_left _ _ e)
    go false t rest = rest (omega (arith, eqb-false k n t))

-- no kind has a number from 64 on
abbrev all_under : List ℕ → ℕ → Bool
all_under [] b = true
all_under (n ∷ ns) b = ltb n b && all_under ns b

apart_past : (ns : List ℕ) (b k : ℕ) → all_under ns b ≡ true → b ≤ k → Apart ns k
apart_past [] b k e h = tt
apart_past (n ∷ ns) b k e h = (
  apart_past ns b k (and_right (ltb n b) _ e) h,
  λ (same : k ≡ n). let l : n < b = ltb-true n b (and_left _ _ e) in omega arith,
)

class_late : (k : ℕ) → 64 ≤ k → class_of k ≡ 0
class_late k h = ap (λ (r : Kind). r.class) (kind_none k (apart_past numbers_down 64 k refl h))

class_small : (k : ℕ) → class_of k ≤ 4
unfolding kind_of kind_in
class_small k = go (ltb k 64) refl
  where
    go : (b : Bool) → ltb k 64 ≡ b → class_of k ≤ 4
    go true t = leb-true (class_of k) 4 (below (λ i. leb (class_of i) 4) 64 k refl (ltb-true k 64 t))
    go false t = let l : class_of k ≡ 0 = class_late k (ltb-false k 64 t) in omega arith

-- two tests that are the same
abbrev agree : Bool → Bool → Bool
agree true b = b
agree false true = false
agree false false = true

agreed : (a b : Bool) → agree a b ≡ true → a ≡ b
agreed true true e = refl
agreed true false e = sym e
agreed false true e = never (cc)
agreed false false e = refl

past_range : (r k : ℕ) → r / 256 % 256 < k → in_range r k ≡ false
unfolding in_range
past_range r k h = rw (lt-leb k (r / 256 % 256) h) (and-false (leb (r % 256) k))

no_range : (k : ℕ) → in_range 0x00ff k ≡ false
unfolding in_range
no_range zero = refl
no_range (suc k) = past_range 0x00ff (suc k) (omega arith)

range_by : (c k : ℕ) → 1 ≤ c → range_of c / 256 % 256 < 64
    → all_below (λ i. agree (in_range (range_of c) i) (eqb (class_of i) c)) 64 ≡ true
    → in_range (range_of c) k ≡ eqb (class_of k) c
range_by c k some small computed = go (ltb k 64) refl
  where
    go : (b : Bool) → ltb k 64 ≡ b → in_range (range_of c) k ≡ eqb (class_of k) c
    go true t = agreed _ _ (below (λ i. agree (in_range (range_of c) i) (eqb (class_of i) c)) 64 k computed
        (ltb-true k 64 t))
    go false t =
        let late : 64 ≤ k = ltb-false k 64 t in
        let apart : eqb (class_of k) c ≡ false = ne_eqb (class_of k) c
        (λ (e : class_of k ≡ c). omega (arith, class_late k late)) in
        past_range (range_of c) k (omega arith) ∙ sym apart

-- no class is past 4
range_beyond : (c k : ℕ) → 5 ≤ c → in_range (range_of c) k ≡ eqb (class_of k) c
unfolding range_of
range_beyond c k late =
    let apart : eqb (class_of k) c ≡ false = ne_eqb (class_of k) c
    (λ (e : class_of k ≡ c). omega (arith, class_small k)) in
    let none : range_of c ≡ 0x00ff =
    get_or-eq_default {A = ℕ} (0x00ff ∷ 0x0c01 ∷ 0x2b14 ∷ 0x3632 ∷ 0x3f3c ∷ []) 0x00ff late in
    rw none (no_range k) ∙ sym apart

-- a kind is in the range of a class exactly if it has that class
pub class_range : (c k : ℕ) → 1 ≤ c → in_range (range_of c) k ≡ eqb (class_of k) c
unfolding range_of in_range kind_of kind_in
class_range zero k some = absurd (omega arith)
class_range (suc zero) k some = range_by 1 k (omega arith) (omega arith) refl
class_range (suc (suc zero)) k some = range_by 2 k (omega arith) (omega arith) refl
class_range (suc (suc (suc zero))) k some = range_by 3 k (omega arith) (omega arith) refl
class_range (suc (suc (suc (suc zero)))) k some = range_by 4 k (omega arith) (omega arith) refl
class_range (suc (suc (suc (suc (suc c))))) k some = range_beyond _ k (omega arith)

range_small : (c : ℕ) → range_of c < 0x1_0000
unfolding range_of
range_small zero = omega arith
range_small (suc zero) = omega arith
range_small (suc (suc zero)) = omega arith
range_small (suc (suc (suc zero))) = omega arith
range_small (suc (suc (suc (suc zero)))) = omega arith
range_small (suc (suc (suc (suc (suc c))))) = omega arith

-- a child by the lowest of some ranges
module _ (c x : ℕ) (bs : List ℕ) {w : ℕ} (w-is : w ≡ range_of c + 0x1_0000 * x) where
  lowest : child_in w bs ≡ child_in (range_of c) bs
  unfolding child_in in_range
  lowest =
      let low : w % 256 ≡ range_of c % 256 = omega arith in
      let above : w / 256 ≡ range_of c / 256 + 256 * x = omega arith in
      let high : (range_of c / 256 + 256 * x) % 256 ≡ range_of c / 256 % 256 = omega arith in
      rw (low, above, high) refl

  pub child_ranged : 1 ≤ c → child_in w bs ≡ child_of c bs
  unfolding child_in child_of
  child_ranged some = lowest ∙ rw (class_range c (node_of 0 bs).kind some) refl

  child_unranged : c ≡ 0 → child_in w bs ≡ 0
  unfolding child_in range_of
  child_unranged e = lowest ∙ rw (e, no_range (node_of 0 bs).kind, and-false (eqb (size_of bs) (span_of bs / 24))) refl

-- a place in a list of three, whatever the default is
three : (a b c d j : ℕ) → j < 3 → get_or (a ∷ b ∷ c ∷ []) j d ≡ get_or (a ∷ b ∷ c ∷ []) j 0
three a b c d zero h = refl
three a b c d (suc zero) h = refl
three a b c d (suc (suc zero)) h = refl
three a b c d (suc (suc (suc j))) h = absurd (omega arith)

-- the classes that a rule requires: those of its first children, and then always the same
module _ (rule : ℕ) where
  fronts_few : length (take (fronts_in rule) (front_in rule)) ≤ 3
  fronts_few = omega (arith, length-take-le (fronts_in rule) (front_in rule) (omega arith))

  class_later : (j : ℕ) → 3 ≤ j → class_for (children_of rule) j ≡ middle_in rule
  unfolding class_for children_of
  class_later j h =
      let past : length (take (fronts_in rule) (front_in rule)) ≤ j = omega (arith, fronts_few) in
      get_or-eq_default (take (fronts_in rule) (front_in rule)) (middle_in rule) past

  -- as the loop over the classes has it, where no child is among the last
  class_at_lem : (m j : ℕ) → j < m → class_for (children_of rule) j ≡ class_at rule m j
  unfolding class_for children_of class_at
  class_at_lem m j h = go (ltb j (fronts_in rule)) refl
    where
      go : (b : Bool) → ltb j (fronts_in rule) ≡ b
          → get_or (take (fronts_in rule) (front_in rule)) j (middle_in rule)
          ≡ if' b (λ _. get_or (front_in rule) j 0)
          (λ _. if' (ltb j m) (λ _. middle_in rule) (λ _. get_or (back_in rule) (j - m) 0))
      go true t = get_or-take (fronts_in rule) (front_in rule) j (middle_in rule) (ltb-true j (fronts_in rule) t)
          ∙ three _ _ _ (middle_in rule) j (omega (arith, ltb-true j (fronts_in rule) t))
      go false t =
          let past : length (take (fronts_in rule) (front_in rule)) ≤ j = omega (
            arith,
            length-take-le (fronts_in rule) (front_in rule) (omega arith),
            ltb-false j (fronts_in rule) t,
          ) in
          get_or-eq_default (take (fronts_in rule) (front_in rule)) (middle_in rule) past
          ∙ rw (lt-ltb j m h) refl

  -- the ranges after one more child: the first is gone, and the last is that of all others
  ranges_next : (j : ℕ) {w first : ℕ} → w ≡ ranges_from (children_of rule) j → first ≡ ranges_from (children_of rule) 0
      → w / 0x1_0000 + first / 0x1_0000_0000_0000 * 0x1_0000_0000_0000 ≡ ranges_from (children_of rule) (j + 1)
  unfolding ranges_from
  ranges_next j {w} {first} w-is first_is =
      let c : Children = children_of rule in
      let two : j + 1 + 1 ≡ j + 2 = omega arith in
      let three : j + 1 + 2 ≡ j + 3 = omega arith in
      let others : first / 0x1_0000_0000_0000 ≡ range_of (middle_in rule) = omega (
        arith,
        ap range_of (class_later (0 + 3) (omega arith)),
        range_small (class_for c 0),
        range_small (class_for c (0 + 1)),
        range_small (class_for c (0 + 2)),
      ) in
      rw (two, three, class_later (j + 1 + 3) (omega arith), others) (omega (arith, w-is, range_small (class_for c j)))

-- testing the children of t by ranges: as by classes, and the ranges w are those from child j on; `others` is that of
-- all from the fourth on, in the place of the last
pub record Ranging (rule first others : ℕ) (t left : List ℕ) (j w : ℕ) : Type 0 where
  pub fit : Fitting (children_of rule) t left j
  pub ranges : w ≡ ranges_from (children_of rule) j
  pub last : others ≡ first / 0x1_0000_0000_0000 * 0x1_0000_0000_0000

-- a rule that names the class of each child that it permits, and has no last children, permits no child of class 0
all_classed_lem : (cs : List ℕ) (d j : ℕ) → all_classed cs ≡ true → j < length cs → 1 ≤ get_or cs j d
all_classed_lem [] d j e h = absurd (omega arith)
all_classed_lem (c ∷ cs) d zero e h = leb-true 1 c (and_left _ _ e)
all_classed_lem (c ∷ cs) d (suc j) e h = all_classed_lem cs d j (and_right (leb 1 c) _ e) (omega arith)

none_more_lem : (x : Times) (n : ℕ) → none_more x ≡ true → permitted x n ≡ true → n ≡ 0
unfolding permitted
none_more_lem any_number n e p = never (cc)
none_more_lem even_number n e p = never (cc)
none_more_lem (at_most m) n e p = omega (arith, eqb-true m 0 e, leb-true n m p)

module _ (c : Children) (j : ℕ) (known : classed c ≡ true) (no-class : class_for c j ≡ 0) where
  behind_first : length c.front ≤ j
  unfolding classed class_for
  behind_first = go (ltb j (length c.front)) refl
    where
      go : (b : Bool) → ltb j (length c.front) ≡ b → length c.front ≤ j
      go true t =
          let some : 1 ≤ get_or c.front j c.middle = all_classed_lem c.front c.middle j (and_left _ _ known)
          (ltb-true j (length c.front) t) in
          absurd (omega arith)
      go false t = ltb-false j (length c.front) t

  none_between : none_more c.times ≡ true
  unfolding classed class_for
  none_between =
      let middle : c.middle ≡ 0 =
      sym (get_or-eq_default c.front c.middle behind_first) ∙ no-class in
      let either : (leb 1 c.middle || none_more c.times) ≡ true = and_right (all_classed c.front) _ known in
      rw middle at either

  child_too_many : (t : List ℕ) → length c.back ≡ 0 → j < kids_number t → false ≡ kids_sound c (forest 0 t)
  unfolding number_sound
  child_too_many t no_back inside = kids_tests c t (λ number enough.
      let few : kids_number t - fixed c ≡ 0 = none_more_lem c.times _ none_between
      (and_right (leb (fixed c) (kids_number t)) _ number) in
      absurd (omega (arith, behind_first))) (λ few. refl)

pub range_start : {rule first : ℕ} → Ranges rule first → (t : List ℕ)
    → Ranging rule first (first / 0x1_0000_0000_0000 * 0x1_0000_0000_0000) t t 0 first
range_start r t = record { fit = fit_start _ t; ranges = r.are; last = refl }

module _ {rule first others : ℕ} (r : Ranges rule first) {t left : List ℕ} {j w : ℕ}
    (s : Ranging rule first others t left j w) where
  -- the next ranges fit 64 bits
  ranges_fit : (c : Children) (i : ℕ) → ranges_from c i < 0x1_0000_0000_0000 * 0x1_0000
  unfolding ranges_from
  ranges_fit c i = omega (
    arith,
    range_small (class_for c i),
    range_small (class_for c (i + 1)),
    range_small (class_for c (i + 2)),
    range_small (class_for c (i + 3)),
  )

  pub range_room : w / 0x1_0000 + others < 0x1_0000_0000_0000 * 0x1_0000
  range_room = omega (
    arith,
    s.ranges,
    s.last,
    r.are,
    ranges_fit (children_of rule) j,
    ranges_fit (children_of rule) 0,
  )

  pub range_end : length left < 24 → {ok : Bool} → ok ≡ number_sound (children_of rule) j
      → ok ≡ kids_sound (children_of rule) (forest 0 t)
  range_end h ok-is = fit_end s.fit h ok-is

  -- child j, as code tests it
  module _ (big : 24 ≤ length left) {e : ℕ} (e-is : e ≡ child_in w left) where
    class_is : fixed (children_of rule) ≤ kids_number t
        → class_for (children_of rule) j ≡ get_or (wanted (children_of rule) (kids_number t)) j 0
    class_is enough = class_at_lem rule (length t / 24) j (omega (arith, s.fit.room))
        ∙ class_wanted rule (kids_number t) j (length t / 24) (no_last t r.no_last) enough (fit_index s.fit big)

    lowest_is : w ≡ range_of (class_for (children_of rule) j) + 0x1_0000 *
        (range_of (class_for (children_of rule) (j + 1))
        + 0x1_0000 * range_of (class_for (children_of rule) (j + 2))
        + 0x1_0000_0000 * range_of (class_for (children_of rule) (j + 3)))
    unfolding ranges_from
    lowest_is = omega (arith, s.ranges)

    child_is : 1 ≤ class_for (children_of rule) j → e ≡ child_of (class_for (children_of rule) j) left
    child_is some = e-is ∙ child_ranged (class_for (children_of rule) j) _ left lowest_is some

    no_back : length (children_of rule).back ≡ 0
    unfolding children_of
    no_back = omega (arith, length-take-le (backs_in rule) (back_in rule) (omega arith), r.no_last)

    pub range_stop : e ≡ 0 → false ≡ kids_sound (children_of rule) (forest 0 t)
    range_stop z = go (leb 1 (class_for (children_of rule) j)) refl
      where
        go : (b : Bool) → leb 1 (class_for (children_of rule) j) ≡ b
            → false ≡ kids_sound (children_of rule) (forest 0 t)
        go true some = fit_stop s.fit big class_is (child_is (leb-true 1 _ some)) z
        go false none = child_too_many (children_of rule) j r.known
            (omega (arith, leb-false 1 (class_for (children_of rule) j) none)) t no_back (fit_index s.fit big)

    module _ (d : e ≡ 0 → ⊥) where
      has_class : 1 ≤ class_for (children_of rule) j
      has_class = go (leb 1 (class_for (children_of rule) j)) refl
        where
          go : (b : Bool) → leb 1 (class_for (children_of rule) j) ≡ b → 1 ≤ class_for (children_of rule) j
          go true some = leb-true 1 _ some
          go false none =
              let zero-class : class_for (children_of rule) j ≡ 0 =
              omega (arith, leb-false 1 (class_for (children_of rule) j) none) in
              absurd (d (e-is ∙ child_unranged (class_for (children_of rule) j) _ left lowest_is zero-class))

      pub range_on : Ranging rule first others t (take (length left - e) (drop e left)) (j + 1) (w / 0x1_0000 + others)
      range_on = record {
        fit = fit_on s.fit big class_is (child_is has_class) d;
        ranges = rw s.last (ranges_next rule j s.ranges r.are);
        last = s.last;
      }

-- a child is within what is left
pub in_within : (w : ℕ) (bs : List ℕ) {e : ℕ} → e ≡ child_in w bs → 24 ≤ length bs → e ≤ length bs
unfolding child_in
in_within w bs {e} e-is big =
    go (eqb (size_of bs) (span_of bs / 24) && in_range w (node_of 0 bs).kind) e-is
  where
    go : (b : Bool) → e ≡ if' b (λ _. span_of bs) (λ _. 0) → e ≤ length bs
    go true f = omega arith
    go false f = omega arith

-- the ranges of a kind at detail 0, where its rule has no last children
pub ranges_are : (kind detail rule b : ℕ) {w : ℕ} → RangesOf kind w → children_of rule ≡ rule_of kind detail
    → b ≡ backs_in rule → (eqb detail 0 && eqb b 0) ≡ true → Ranges rule w
ranges_are kind detail rule b of rule-is b_is both =
    let first : detail ≡ 0 = eqb-true detail 0 (and_left _ _ both) in
    let here : children_of rule ≡ rule_of kind 0 = rw first at rule-is in
    record {
      no_last = sym b_is ∙ eqb-true b 0 (and_right (eqb detail 0) _ both);
      are = of.are ∙ ap (λ (c : Children). ranges_from c 0) (sym here);
      known = ap classed here ∙ of.known;
    }

-- a node without children
pub no_children : (rule : ℕ) (c : Children) (t : List ℕ) {ok : Bool} → children_of rule ≡ c → length t < 24
    → ok ≡ number_sound (children_of rule) 0 → ok ≡ kids_sound c (forest 0 t)
no_children rule c t rule-is short ok-is = rw (← rule-is) (fit_end (fit_start (children_of rule) t) short ok-is)
