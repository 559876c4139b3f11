-- Marks never hide an earlier name. A name has a place and a mark, both from its hash; noting a name writes its mark
-- there, or `several` if another mark was there (`joined`). So a place never loses what it says: every name that was
-- noted before still may be there (`noted_still`), and so may the new one (`noted_self`). Hence a name that cannot be
-- there is none of the noted ones (`not_noted`), and a search among them finds nothing (`Known`, kept from entry to
-- entry by `known_named` and `known_other`). Cite `known_new`. The hash itself is a loop over eight bytes at a time
-- (`Hashing`). Assumes nothing.
use Rattle.std.specs.Prelude.{None, Option, Some, ℕ}
use mathlib.Core.Path.{◌≡◌, refl, sym, ◌∙◌}
use mathlib.Core.Bool.{Bool, true, false, ◌||◌}
use mathlib.Core.List.{List, [], ◌∷◌, ◌++◌}
use mathlib.Core.Logic.{◌⊎◌, inl, inr, ⊎_elim}
use Prim.Native.Nat.{ℕ, zero, suc, ◌+◌, ◌-◌, ◌/◌, ◌%◌, ◌<◌, ◌≤◌}
use native.Mathlib.Nat.{mod-lt}
use native.Mathlib.Omega.{arith}
use lib.ListN.{length, get_or, take, drop, set, length-set, length-append, length-drop}
use lib.Seq.{get_or-set_same, get_or-set_other, set_out, take_at, drop_at, drop-drop}
use lib.Dec.{eqb}
use borrow.Author.Tests.{eq-eqb, ne_eqb, eqb-true, eqb-false}
use Rattle.fields.specs.Choice.{if'}
use Rattle.fields.specs.Field.{field}
use Rattle.fields.proofs.Basics.{clash, never}
use Rattle.fields.proofs.Fields.{field_take}
use Rattle.forest.specs.Names.{same}
use Rattle.forest.specs.Marks.{mixed, hash_from, hash_of, place_of, mark_of, several, joined, tells}
use Rattle.forest.specs.Marks.{noted, may_stand, Known}
use Rattle.forest.proofs.Named.{same_bytes_equal}

-- one of two tests
or_true : (a b : Bool) → (a || b) ≡ true → (a ≡ true) ⊎ (b ≡ true)
or_true true b e = inl refl
or_true false b e = inr e

-- the number of a name's bytes: h is mixed, and left, the end of the name, is to come
pub record Hashing (name : List ℕ) (h : ℕ) (left : List ℕ) : Type 0 where
  pub small : h < 4294967296
  pub rest : hash_from (length left / 8) h left ≡ hash_of name
  pub upto : length left ≤ length name
  pub behind : drop (length name - length left) name ≡ left
  pub whole : length left % 8 ≡ length name % 8

pub hash_start : (name : List ℕ) {left : List ℕ} → left ≡ name → Hashing name 0 left
unfolding hash_of
hash_start name is =
    let none : length name - length name ≡ 0 = omega arith in
    rw is record { small = omega arith; rest = refl; upto = omega arith; behind = rw none refl; whole = refl }

module _ {name : List ℕ} {h : ℕ} {left : List ℕ} (s : Hashing name h left) {w v : ℕ} (v-is : v ≡ mixed h w) where
  pub hash_on : (group : List ℕ) {more : List ℕ} {size : ℕ} → size ≡ 8 → left ≡ group ++ more → length group ≡ size
      → w ≡ field 8 group 0 → Hashing name v more
  unfolding hash_from
  hash_on group {more} size-is is long w-is =
      let eight : length group ≡ 8 = omega arith in
      let front : take 8 left ≡ group = rw is (take_at group more 8 eight) in
      let after : drop 8 left ≡ more = rw is (drop_at group more 8 eight) in
      let all : length left ≡ length group + length more = rw is (length-append group more) in
      let k : length left / 8 ≡ suc (length (drop 8 left) / 8) = simp length-drop (omega arith) in
      let here : w ≡ field 8 left 0 = w-is ∙ rw (← front) (field_take 8 left 8 0 (omega arith)) in
      let next : hash_from (length (drop 8 left) / 8) v (drop 8 left) ≡ hash_of name =
      rw (v-is, here) (rw k at s.rest) in
      let place : length name - length more ≡ length name - length left + 8 = omega (arith, s.upto) in
      record {
        small = rw v-is (mod-lt _ (omega arith));
        rest = rw after at next;
        upto = omega (arith, s.upto);
        behind = rw (place, ← drop-drop 8 (length name - length left) name, s.behind) after;
        whole = omega (arith, s.whole);
      }

  pub hash_end : {size : ℕ} → size ≡ 8 → length left < size → {rest : List ℕ}
      → rest ≡ drop (length name - length name % 8) name → w ≡ field 8 rest 0 → v ≡ hash_of name
  unfolding hash_from
  hash_end size-is few {rest} rest-is w-is =
      let k : length left / 8 ≡ 0 = omega arith in
      let n : length name % 8 ≡ length left = omega (arith, s.whole) in
      let same : rest ≡ left = rest-is ∙ rw n s.behind in
      rw (v-is, w-is, same) (rw k at s.rest)

-- the value of a place after one more mark
module _ (old mark : ℕ) where
  pub joined_mark : (eqb old 0 || eqb old mark) ≡ true → mark ≡ joined old mark
  unfolding joined
  joined_mark e = rw e refl

  pub joined_several : (eqb old 0 || eqb old mark) ≡ false → several ≡ joined old mark
  unfolding joined
  joined_several e = rw e refl

  joined_or : (P : ℕ → Type 0) → ((eqb old 0 || eqb old mark) ≡ true → P mark) → P several → P (joined old mark)
  unfolding joined
  joined_or P p q = go (eqb old 0 || eqb old mark) refl
    where
      go : (b : Bool) → (eqb old 0 || eqb old mark) ≡ b → P (if' b (λ _. mark) (λ _. several))
      go true e = p e
      go false e = q

several_tells : (mark : ℕ) → tells several mark ≡ true
unfolding tells
several_tells mark = go (eqb several mark)
  where
    go : (b : Bool) → (b || true) ≡ true
    go true = refl
    go false = refl

mark_tells : (mark : ℕ) → tells mark mark ≡ true
unfolding tells
mark_tells mark = rw (eq-eqb mark mark refl) refl

-- a place shows the mark that is joined to it, and every mark that it showed before
tells_joined : (old mark : ℕ) → tells (joined old mark) mark ≡ true
tells_joined old mark =
    joined_or old mark (λ (p : ℕ). tells p mark ≡ true) (λ _. mark_tells mark) (several_tells mark)

nothing_told : (k : ℕ) → 1 ≤ k → tells 0 k ≡ true → ⊥
unfolding tells
nothing_told k pos e = ⊎_elim (λ (q : eqb 0 k ≡ true). omega (arith, pos, eqb-true 0 k q))
    (λ (q : eqb 0 several ≡ true). never (cc)) (or_true (eqb 0 k) (eqb 0 several) e)

tells_still : (old mark k : ℕ) → 1 ≤ k → tells old k ≡ true → tells (joined old mark) k ≡ true
tells_still old mark k pos e =
    joined_or old mark (λ (p : ℕ). tells p k ≡ true) (λ t. same_place (or_true (eqb old 0) (eqb old mark) t))
    (several_tells k)
  where
    same_place : (eqb old 0 ≡ true) ⊎ (eqb old mark ≡ true) → tells mark k ≡ true
    same_place (inl z) = let o : old ≡ 0 = eqb-true old 0 z in absurd (nothing_told k pos (rw o at e))
    same_place (inr m) = let o : old ≡ mark = eqb-true old mark m in rw o at e

-- a name's place is one of those that are there, and its mark is not the empty one
positive : (n : ℕ) → (n ≡ 0 → ⊥) → 0 < n
positive zero some = absurd (some refl)
positive (suc n) some = omega arith

pub place_in : {n : ℕ} (h : ℕ) → (n ≡ 0 → ⊥) → h % n < n
place_in {n} h some = mod-lt h (positive n some)

place_of_lem : (n : ℕ) (x : List ℕ) → (n ≡ 0 → ⊥) → place_of n x < n
unfolding place_of
place_of_lem n x some = place_in (hash_of x) some

mark_some : (x : List ℕ) → 1 ≤ mark_of x
unfolding mark_of
mark_some x = omega arith

-- noting a name, and testing for one, as code does it
module _ (marks x : List ℕ) where
  pub note_none : length marks ≡ 0 → (true ≡ may_stand marks x) × (marks ≡ noted marks x)
  unfolding may_stand noted
  note_none e = (rw (eq-eqb (length marks) 0 e) refl, sym (set_out marks _ _ (omega arith)))

  pub note_may : (length marks ≡ 0 → ⊥) → {h : ℕ} → h ≡ hash_of x → {t : Bool}
      → t ≡ tells (get_or marks (h % length marks) 0) (h % 254 + 1) → t ≡ may_stand marks x
  unfolding may_stand place_of mark_of
  note_may some h-is t-is = rw (ne_eqb (length marks) 0 some, t-is, h-is) refl

  pub note_set : {h : ℕ} → h ≡ hash_of x → {j : ℕ} → j ≡ joined (get_or marks (h % length marks) 0) (h % 254 + 1)
      → set marks (h % length marks) j ≡ noted marks x
  unfolding noted place_of mark_of
  note_set h-is j-is = rw (j-is, h-is) refl

-- LAW: a name that is noted may be there, and so may every name that might have been there before
module _ (marks : List ℕ) (x : List ℕ) where
  long : length (noted marks x) ≡ length marks
  unfolding noted
  long = length-set marks _ _

  -- the marks show y after x is noted, whatever the place of y
  told_of_lem : (y : List ℕ) → (length marks ≡ 0 → ⊥)
      → (eqb (place_of (length marks) y) (place_of (length marks) x) ≡ true
      → tells (joined (get_or marks (place_of (length marks) x) 0) (mark_of x)) (mark_of y) ≡ true)
      → (eqb (place_of (length marks) y) (place_of (length marks) x) ≡ false
      → tells (get_or marks (place_of (length marks) y) 0) (mark_of y) ≡ true)
      → tells (get_or (noted marks x) (place_of (length marks) y) 0) (mark_of y) ≡ true
  unfolding noted
  told_of_lem y some p q = go (eqb (place_of (length marks) y) (place_of (length marks) x)) refl
    where
      go : (b : Bool) → eqb (place_of (length marks) y) (place_of (length marks) x) ≡ b
          → tells (get_or (noted marks x) (place_of (length marks) y) 0) (mark_of y) ≡ true
      go true e =
          let at : place_of (length marks) y ≡ place_of (length marks) x = eqb-true _ _ e in
          rw (at, get_or-set_same marks (place_of (length marks) x) _ 0 (place_of_lem (length marks) x some)) (p e)
      go false e = rw (get_or-set_other marks (place_of (length marks) x) (place_of (length marks) y) _ 0
          (eqb-false _ _ e)) (q e)

  may_or : (y : List ℕ)
      → ((length marks ≡ 0 → ⊥) → tells (get_or (noted marks x) (place_of (length marks) y) 0) (mark_of y)
      ≡ true) → may_stand (noted marks x) y ≡ true
  unfolding may_stand
  may_or y f = rw long (go (eqb (length marks) 0) refl)
    where
      go : (b : Bool) → eqb (length marks) 0 ≡ b
          → (b || tells (get_or (noted marks x) (place_of (length marks) y) 0) (mark_of y)) ≡ true
      go true e = refl
      go false e = f (eqb-false _ _ e)

  noted_self : may_stand (noted marks x) x ≡ true
  noted_self = may_or x (λ some. told_of_lem x some
      (λ e. tells_joined (get_or marks (place_of (length marks) x) 0) (mark_of x))
      (λ e. clash (eq-eqb (place_of (length marks) x) (place_of (length marks) x) refl) e))

  noted_still : (y : List ℕ) → may_stand marks y ≡ true → may_stand (noted marks x) y ≡ true
  unfolding may_stand
  noted_still y e = may_or y (λ some.
      let t : tells (get_or marks (place_of (length marks) y) 0) (mark_of y) ≡ true =
      rw (ne_eqb (length marks) 0 some) at e in
      told_of_lem y some
      (λ at. tells_still _ (mark_of x) (mark_of y) (mark_some y)
      (rw (eqb-true (place_of (length marks) y) (place_of (length marks) x) at) at t)) (λ at. t))

  pub not_noted : (y : List ℕ) → may_stand (noted marks x) y ≡ false → (may_stand marks y ≡ false) × (same x y ≡ false)
  not_noted y e = (before (may_stand marks y) refl, other (same x y) refl)
    where
      before : (b : Bool) → may_stand marks y ≡ b → b ≡ false
      before true t = clash (noted_still y t) e
      before false t = refl

      other : (b : Bool) → same x y ≡ b → b ≡ false
      other true t = clash noted_self (rw (← (same_bytes_equal x y t)) at e)
      other false t = refl

-- a search by a test, one entry after the other, as both lists have it, of parameters and of arguments
pub record Searches {A : Type 0} (find : List ℕ → List A → Option ℕ) (has : List ℕ → A → Bool) : Type 0 where
  pub node : A → ℕ
  pub none : (x : List ℕ) → find x [] ≡ None
  pub first : (x : List ℕ) (p : A) (l : List A) → find x (p ∷ l) ≡ if' (has x p) (λ _. Some (node p)) (λ _. find x l)

-- LAWS for both lists: what is known of the marks, at the start, after an entry with a name and after one with none
module _ {A : Type 0} {find : List ℕ → List A → Option ℕ} {has : List ℕ → A → Bool} (s : Searches find has) where
  first_more : (x : List ℕ) (l : List A) (p : A) → find x l ≡ None → has x p ≡ false → find x (l ++ p ∷ []) ≡ None
  first_more x [] p e h = s.first x p [] ∙ rw h (s.none x)
  first_more x (q ∷ l) p e h =
      s.first x q (l ++ p ∷ []) ∙ go (has x q) (sym (s.first x q l) ∙ e) (λ rest. first_more x l p rest h)
    where
      go : (b : Bool) → if' b (λ _. Some (s.node q)) (λ _. find x l) ≡ None
          → (find x l ≡ None → find x (l ++ p ∷ []) ≡ None)
          → if' b (λ _. Some (s.node q)) (λ _. find x (l ++ p ∷ [])) ≡ None
      go true e rest = never (cc)
      go false e rest = rest e

  pub known_start : (marks : List ℕ) → Known find marks []
  known_start marks = record { none = λ x e. s.none x }

  module _ {marks : List ℕ} {l : List A} (k : Known find marks l) (p : A) where
    pub known_named : (n : List ℕ) → ((x : List ℕ) → same n x ≡ has x p) → Known find (noted marks n) (l ++ p ∷ [])
    known_named n tested = record {
      none = λ x e.
          let new = not_noted marks n x e in
          first_more x l p (k.none x new.0) (sym (tested x) ∙ new.1);
    }

    pub known_other : ((x : List ℕ) → false ≡ has x p) → Known find marks (l ++ p ∷ [])
    known_other unnamed = record { none = λ x e. first_more x l p (k.none x e) (sym (unnamed x)) }

-- a name that cannot be there is new
pub known_new : {A : Type 0} {find : List ℕ → List A → Option ℕ} {marks : List ℕ} {l : List A} → Known find marks l
    → {x : List ℕ} {b : Bool} → b ≡ may_stand marks x → b ≡ false → None ≡ find x l
known_new k b_is b-no = sym (k.none _ (sym b_is ∙ b-no))
