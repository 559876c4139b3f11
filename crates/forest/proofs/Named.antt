-- Names as code reads and compares them. A name is a part of the name bytes, clipped at their end (`name_outside`,
-- `name_short`, `name_inside`, one for each return of `name`). `same` is equality of bytes (`same_bytes_refl`,
-- `same_bytes_equal`; the induction is on both lists). The loops keep that the first i bytes agree, so that the rest
-- decides: one byte a turn (`Alike`) or eight (`Groups`, and `Grouping` for what two iterators have left). Eight bytes
-- are the same exactly where their fields of width 8 are, because spelling gives back bytes that were read (fields'
-- `bytes_field`). Assumes nothing.
use mathlib.Core.Path.{◌≡◌, refl, sym, ap, ◌∙◌}
use mathlib.Core.Bool.{Bool, true, false, ◌&&◌}
use mathlib.Core.Logic.{◌⊎◌, ⊎_elim}
use mathlib.Core.List.{List, [], ◌∷◌, ◌++◌}
use Prim.Native.Nat.{ℕ, zero, suc, ◌+◌, ◌-◌, ◌%◌, ◌<◌, ◌≤◌, min}
use native.Mathlib.Numerals.{add-one}
use native.Mathlib.Nat.{add-zero}
use native.Mathlib.Omega.{arith}
use lib.ListN.{length, get_or, take, drop, length-append, length-drop, drop_of_length-le, take-append-drop}
use lib.Seq.{take-nil, take_at, drop_at, drop-cons, drop-drop}
use lib.Dec.{eqb}
use borrow.Author.Tests.{eq-eqb, ne_eqb, eqb-true}
use Rattle.fields.specs.Field.{field, bytes_of}
use Rattle.fields.proofs.Basics.{clash}
use Rattle.fields.proofs.Fields.{field_drop, field_take}
use Rattle.fields.proofs.Spelling.{Bytes, bytes_field}
use Rattle.forest.specs.Forest.{node_of}
use Rattle.forest.specs.Names.{name_of, same}

-- two counts that the list clips to the same take the same
take_clip : (k m : ℕ) (l : List ℕ) → min k (length l) ≡ min m (length l) → take k l ≡ take m l
take_clip k m [] h = take-nil k ∙ sym (take-nil m)
take_clip zero zero (x ∷ l) h = refl
take_clip zero (suc m) (x ∷ l) h = absurd (omega arith)
take_clip (suc k) zero (x ∷ l) h = absurd (omega arith)
take_clip (suc k) (suc m) (x ∷ l) h = ap (λ (r : List ℕ). x ∷ r) (take_clip k m l (omega arith))

-- a name of length len from a on, as code cuts it
module _ (ns t : List ℕ) {a : ℕ} (a-is : a ≡ (node_of 0 t).name_start) where
  pub name_outside : length ns < a → take 0 ns ≡ name_of ns (node_of 0 t)
  unfolding name_of
  name_outside h = rw (← a-is, drop_of_length-le ns {i = a} (omega arith)) (sym (take-nil (node_of 0 t).name_len))

  pub name_short : {len : ℕ} → len ≡ (node_of 0 t).name_len → a ≤ length ns → length ns < a + len
      → take (length ns - a) (drop a ns) ≡ name_of ns (node_of 0 t)
  unfolding name_of
  name_short {len} l-is h g = rw (← a-is, ← l-is)
      (take_clip (length ns - a) len (drop a ns) (simp length-drop (omega arith)))

  pub name_inside : {len : ℕ} → len ≡ (node_of 0 t).name_len → take (a + len - a) (drop a ns) ≡ name_of ns (node_of 0 t)
  unfolding name_of
  name_inside {len} l-is = rw (← a-is, ← l-is) (take_clip (a + len - a) len (drop a ns) (omega arith))

-- two lists of n bytes whose first i are the same: what is left decides
pub record Alike (a b : List ℕ) (n i : ℕ) : Type 0 where
  pub upto : i ≤ n
  pub long : n ≡ length a
  pub long' : n ≡ length b
  pub left : same (drop i a) (drop i b) ≡ same a b

module _ {a b : List ℕ} {n i : ℕ} (s : Alike a b n i) where
  same_step : i < n → same (drop i a) (drop i b)
      ≡ (eqb (get_or a i 0) (get_or b i 0) && same (drop (i + 1) a) (drop (i + 1) b))
  unfolding same
  same_step h = let p : i < length a = omega arith in let q : i < length b = omega arith in
      simp (drop-cons a i 0 p, drop-cons b i 0 q, add-one)

  pub same_go : i < n → get_or a i 0 ≡ get_or b i 0 → Alike a b n (i + 1)
  same_go h e = record {
    upto = omega arith;
    long = s.long;
    long' = s.long';
    left = sym (same_step h ∙ rw (eq-eqb (get_or a i 0) (get_or b i 0) e) refl) ∙ s.left;
  }

  pub same_stop : i < n → (get_or a i 0 ≡ get_or b i 0 → ⊥) → false ≡ same a b
  same_stop h e = sym (same_step h ∙ rw (ne_eqb (get_or a i 0) (get_or b i 0) e) refl) ∙ s.left

  pub same_end : n ≤ i → true ≡ same a b
  unfolding same
  same_end h =
      let p : drop i a ≡ [] = drop_of_length-le a {i = i} (omega arith) in
      let q : drop i b ≡ [] = drop_of_length-le b {i = i} (omega arith) in
      rw (p, q) at s.left

pub same_start : (a b : List ℕ) → length a ≡ length b → Alike a b (length a) 0
same_start a b e = record { upto = omega arith; long = refl; long' = e; left = refl }

-- lists of different lengths differ
pub same_length : (a b : List ℕ) → (length a ≡ length b → ⊥) → false ≡ same a b
unfolding same
same_length [] [] h = absurd (h refl)
same_length [] (y ∷ b) h = refl
same_length (x ∷ a) [] h = refl
same_length (x ∷ a) (y ∷ b) h = go (eqb x y) (same_length a b (λ e. h (omega arith)))
  where
    go : (t : Bool) → false ≡ same a b → false ≡ (t && same a b)
    go true e = e
    go false e = refl

-- LAW: the test of names is equality of their bytes
pub same_bytes_refl : (a : List ℕ) → same a a ≡ true
unfolding same
same_bytes_refl [] = refl
same_bytes_refl (x ∷ a) = rw (eq-eqb x x refl) (same_bytes_refl a)

pub same_bytes_equal : (a b : List ℕ) → same a b ≡ true → a ≡ b
unfolding same
same_bytes_equal [] [] e = refl
same_bytes_equal [] (y ∷ b) e = clash e refl
same_bytes_equal (x ∷ a) [] e = clash e refl
same_bytes_equal (x ∷ a) (y ∷ b) e = go (eqb x y) refl (same_bytes_equal a b) e
  where
    go : (t : Bool) → eqb x y ≡ t → (same a b ≡ true → a ≡ b) → (t && same a b) ≡ true → x ∷ a ≡ y ∷ b
    go true p rest q = let h : x ≡ y = eqb-true x y p in let l : a ≡ b = rest q in cc
    go false p rest q = clash q refl

-- bytes before what is compared: the same ones change nothing
same_front : (p a b : List ℕ) → same (p ++ a) (p ++ b) ≡ same a b
unfolding same
same_front [] a b = refl
same_front (x ∷ p) a b = rw (eq-eqb x x refl) (same_front p a b)

-- LAW: eight bytes are the same exactly where the fields of width 8 are
eight_same : (a b : List ℕ) (i : ℕ) → Bytes a → Bytes b → i + 8 ≤ length a → i + 8 ≤ length b
    → field 8 a i ≡ field 8 b i → take 8 (drop i a) ≡ take 8 (drop i b)
eight_same a b i small small' h h' e = sym (bytes_field 8 a i small h) ∙ ap (bytes_of 8) e ∙ bytes_field 8 b i small' h'

-- two lists of bytes whose first i are the same, eight at a time
pub record Groups (a b : List ℕ) (n i : ℕ) : Type 0 where
  pub alike : Alike a b n i
  pub bytes : Bytes a
  pub bytes' : Bytes b

pub groups_start : (a b : List ℕ) → Bytes a → Bytes b → length a ≡ length b → Groups a b (length a) 0
groups_start a b small small' e = record { alike = same_start a b e; bytes = small; bytes' = small' }

module _ {a b : List ℕ} {n i : ℕ} (g : Groups a b n i) where
  -- the field that code reads from eight bytes of a list
  here : (l : List ℕ) → field 8 (take (i + 8 - i) (drop i l)) 0 ≡ field 8 l i
  here l = field_take 8 (drop i l) (i + 8 - i) 0 (omega arith) ∙ field_drop 8 l i 0 ∙ rw add-zero refl

  module _ (h : 8 ≤ n - i) {v w : ℕ} (v-is : v ≡ field 8 (take (i + 8 - i) (drop i a)) 0)
      (w-is : w ≡ field 8 (take (i + 8 - i) (drop i b)) 0) where
    pub groups_go : v ≡ w → Groups a b n (i + 8)
    groups_go e =
        let s : Alike a b n i = g.alike in
        let fields : field 8 a i ≡ field 8 b i = sym (v-is ∙ here a) ∙ e ∙ w-is ∙ here b in
        let p : take 8 (drop i a) ≡ take 8 (drop i b) =
        eight_same a b i g.bytes g.bytes' (omega (arith, s.upto, s.long)) (omega (arith, s.upto, s.long'))
        fields in
        let split : (l : List ℕ) → take 8 (drop i l) ++ drop (i + 8) l ≡ drop i l =
        λ l. rw (← (drop-drop 8 i l)) (take-append-drop 8 (drop i l)) in
        record {
          alike = record {
            upto = omega (arith, s.upto);
            long = s.long;
            long' = s.long';
            left = sym (same_front (take 8 (drop i a)) (drop (i + 8) a) (drop (i + 8) b))
                ∙ (rw (split a, p, split b) s.left);
          };
          bytes = g.bytes;
          bytes' = g.bytes';
        }

    pub groups_stop : (v ≡ w → ⊥) → false ≡ same a b
    groups_stop apart = go (same a b) refl
      where
        go : (t : Bool) → same a b ≡ t → false ≡ t
        go true e = let l : a ≡ b = same_bytes_equal a b e in absurd (apart (v-is ∙ rw l (sym w-is)))
        go false e = refl

  pub groups_end : {r : Bool} → r ≡ same (drop i a) (drop i b) → r ≡ same a b
  groups_end r-is = r-is ∙ g.alike.left

-- what two iterators over eight bytes each have left: the rest of both lists from the same place on
pub record Grouping (a b : List ℕ) (left left' : List ℕ) : Type 0 where
  pub at : ℕ
  pub groups : Groups a b (length a) at
  pub is : left ≡ drop at a
  pub is' : left' ≡ drop at b
  pub whole : length left % 8 ≡ length a % 8

pub grouping_start : (a b : List ℕ) {left left' : List ℕ} → Bytes a → Bytes b → length a ≡ length b → left ≡ a
    → left' ≡ b → Grouping a b left left'
grouping_start a b small small' e is is' = record {
  at = 0;
  groups = groups_start a b small small' e;
  is = is;
  is' = is';
  whole = rw is refl;
}

module _ {a b left left' : List ℕ} (g : Grouping a b left left') where
  lefts_long : (length left ≡ length a - g.at) × (length left' ≡ length left)
  lefts_long =
      let s = g.groups.alike in
      let one : length left ≡ length a - g.at = rw g.is (length-drop g.at a) in
      let two : length left' ≡ length b - g.at = rw g.is' (length-drop g.at b) in
      (one, omega (arith, s.long'))

  -- eight bytes at the front of what is left of a list, and what is left behind them
  front : (l part rest after : List ℕ) → length part ≡ 8 → rest ≡ part ++ after → rest ≡ drop g.at l
      → (part ≡ take (g.at + 8 - g.at) (drop g.at l)) × (after ≡ drop (g.at + 8) l)
  front l part rest after eight cut is =
      let n : g.at + 8 - g.at ≡ 8 = omega arith in
      let l-is : drop g.at l ≡ part ++ after = sym is ∙ cut in (
        rw (n, l-is) (sym (take_at part after 8 eight)),
        rw (← drop-drop 8 g.at l, l-is) (sym (drop_at part after 8 eight)),
      )

  module _ (x y more more' : List ℕ) {size size' : ℕ} (size-is : size ≡ 8) (size-is' : size' ≡ 8)
      (first : left ≡ x ++ more) (long : length x ≡ size) (second : left' ≡ y ++ more') (long' : length y ≡ size')
      {v w : ℕ} (v-is : v ≡ field 8 x 0) (w-is : w ≡ field 8 y 0) where
    enough : 8 ≤ length a - g.at
    enough =
        let all : length left ≡ length x + length more = rw first (length-append x more) in
        omega (arith, lefts_long.0, long, size-is)

    of-a : (x ≡ take (g.at + 8 - g.at) (drop g.at a)) × (more ≡ drop (g.at + 8) a)
    of-a = front a x left more (omega (arith, long, size-is)) first g.is

    of-b : (y ≡ take (g.at + 8 - g.at) (drop g.at b)) × (more' ≡ drop (g.at + 8) b)
    of-b = front b y left' more' (omega (arith, long', size-is')) second g.is'

    v-here : v ≡ field 8 (take (g.at + 8 - g.at) (drop g.at a)) 0
    v-here = rw of-a.0 at v-is

    w-here : w ≡ field 8 (take (g.at + 8 - g.at) (drop g.at b)) 0
    w-here = rw of-b.0 at w-is

    pub grouping_on : v ≡ w → Grouping a b more more'
    grouping_on e = record {
      at = g.at + 8;
      groups = groups_go g.groups enough v-here w-here e;
      is = of-a.1;
      is' = of-b.1;
      whole =
          let all : length left ≡ length x + length more = rw first (length-append x more) in
          omega (arith, long, size-is, g.whole);
    }

    pub grouping_stop : (v ≡ w → ⊥) → false ≡ same a b
    grouping_stop = groups_stop g.groups enough v-here w-here

  -- when one of the two has no eight bytes left, what is left is the rest of each list
  module _ {size size' : ℕ} (size-is : size ≡ 8) (size-is' : size' ≡ 8)
      (few : (length left < size) ⊎ (length left' < size')) {rest other : List ℕ}
      (rest-is : rest ≡ drop (length a - length a % 8) a) (other-is : other ≡ drop (length b - length b % 8) b) where
    short : length left < 8
    short = ⊎_elim (λ (h : length left < size). omega arith)
        (λ (h : length left' < size'). omega (arith, lefts_long.1)) few

    place : length a - length a % 8 ≡ g.at
    place = let s = g.groups.alike in omega (arith, lefts_long.0, short, g.whole, s.upto)

    place' : length b - length b % 8 ≡ g.at
    place' = let s = g.groups.alike in omega (arith, place, s.long')

    pub rests_long : length rest ≡ length other
    rests_long =
        let s = g.groups.alike in
        rw (rest-is, other-is, place, place') (simp length-drop (omega (arith, s.long')))

    pub grouping_end : {r : Bool} → r ≡ same rest other → r ≡ same a b
    grouping_end r-is = groups_end g.groups (r-is ∙ rw (rest-is, other-is, place, place') refl)
