-- The search for a repeated zone and setting, with marks. The loop keeps two facts about the places before p
-- (`Once`): no zone and setting occurs twice there, and the marks cover those entries, so six bytes that are not
-- marked belong to none of them. Two entries with the same zone and setting have the same six bytes (`keys_same`). So
-- an entry that is not marked did not occur before (`unseen`), and the comparison with the earlier places can be left
-- out (`again_is`). Cite `once_stop`, `once_on` and `once_end`. Assumes nothing.
use mathlib.Core.Path.{◌≡◌, refl, sym, ap, ◌∙◌}
use mathlib.Core.Bool.{Bool, true, false, ◌&&◌, not}
use mathlib.Core.Logic.{⊎_elim}
use mathlib.Core.List.{List, ◌++◌}
use Prim.Native.Nat.{ℕ, ◌+◌, ◌<◌, ◌≤◌}
use native.Mathlib.Numerals.{add-one}
use native.Mathlib.Omega.{arith}
use lib.ListN.{length, take, drop, length-drop, length-set}
use lib.Seq.{length-take-le, take-add}
use lib.Dec.{eqb}
use borrow.Author.Tests.{eq-eqb, eqb-true, not-true}
use Rattle.fields.specs.Choice.{if'}
use Rattle.fields.specs.Field.{field, bytes_of}
use Rattle.fields.proofs.Basics.{clash, and_left, and_right, le_or_lt}
use Rattle.fields.proofs.Spelling.{Bytes, bytes_take, bytes_drop, bytes_field}
use Rattle.forest.specs.Marks.{noted, may_stand}
use Rattle.forest.proofs.Named.{same_bytes_refl}
use Rattle.forest.proofs.Marked.{not_noted}
use Rattle.std.specs.List.{list_all}
use Rattle.blocks.proofs.Judging.{zeros_all}
use Rattle.blocks.specs.Block.{zeros}
use Rattle.books.specs.Book.{some, places_of, place_at, entry_at, zone_of, setting_of, is_for, seen_in, seen_before}
use Rattle.books.specs.Book.{again}
use Rattle.books.specs.Book.{twice_in}
use Rattle.books.specs.Marked.{key_of, may_repeat, noted_entry}
use Rattle.books.proofs.Laws.{some_stop, some_none}

-- a place is marked: the returns of `note`
module _ (marks e : List ℕ) {x : Bool} (x_is : x ≡ list_all (λ y. eqb y 0) e) where
  x-is : x ≡ zeros e
  x-is = x_is ∙ sym (zeros_all e)

  pub empty_new : x ≡ true → false ≡ may_repeat marks e
  unfolding may_repeat
  empty_new f = rw (← x-is, f) refl

  pub empty_stays : x ≡ true → marks ≡ noted_entry marks e
  unfolding noted_entry
  empty_stays f = rw (← x-is, f) refl

  module _ (f : x ≡ false) {k : List ℕ} (k_is : k ≡ take 6 (drop 0 e)) where
    pub note_may : {t : Bool} → t ≡ may_stand marks k → t ≡ may_repeat marks e
    unfolding may_repeat
    note_may t-is = t-is ∙ rw (← x-is, f, k_is) refl

    pub note_set : {m : List ℕ} → m ≡ noted marks k → m ≡ noted_entry marks e
    unfolding noted_entry
    note_set m_is = m_is ∙ rw (← x-is, f, k_is) refl

-- the returns of `again`: only an entry that may have occurred before is searched for
module _ (book : List ℕ) (p : ℕ) {may : Bool} where
  pub again_not : may ≡ false → false ≡ (may && seen_before book p)
  again_not f = rw f refl

  pub again_seen : may ≡ true → {e : List ℕ} → e ≡ entry_at book p → {o w : ℕ} → o ≡ field 2 e 0 → w ≡ field 4 e 2
      → {t : Bool} → t ≡ seen_in o w book p → t ≡ (may && seen_before book p)
  unfolding seen_before
  again_seen f e-is o_is w-is t-is = rw (f, ← e-is, ← o_is, ← w-is) t-is

-- an entry for a zone and a setting: it is not empty, and these are its zone and its setting
pub record For (zone setting : ℕ) (e : List ℕ) : Type 0 where
  pub taken : zeros e ≡ false
  pub zoned : zone_of e ≡ zone
  pub set : setting_of e ≡ setting

pub for_parts : {zone setting : ℕ} {e : List ℕ} → is_for zone setting e ≡ true → For zone setting e
unfolding is_for
for_parts {zone} {setting} {e} h =
    let two = and_right (not (zeros e)) _ h in
    record {
      taken = not-true (zeros e) (and_left (not (zeros e)) _ h);
      zoned = eqb-true (zone_of e) zone (and_left (eqb (zone_of e) zone) _ two);
      set = eqb-true (setting_of e) setting (and_right (eqb (zone_of e) zone) _ two);
    }

pub parts_for : {zone setting : ℕ} {e : List ℕ} → For zone setting e → is_for zone setting e ≡ true
unfolding is_for
parts_for {zone} {setting} {e} f =
    rw (f.taken, eq-eqb (zone_of e) zone f.zoned, eq-eqb (setting_of e) setting f.set) refl

-- the bytes of a place
pub entry_there : (book : List ℕ) (p : ℕ) → p < places_of book → length (entry_at book p) ≡ 24
unfolding entry_at
entry_there book p h = length-take-le 24 (drop (place_at p) book) (simp length-drop (omega arith))

pub entry_bytes : (book : List ℕ) (p : ℕ) → Bytes book → Bytes (entry_at book p)
unfolding entry_at
entry_bytes book p small = bytes_take (drop (place_at p) book) 24 (bytes_drop book (place_at p) small)

-- the six bytes spell the zone and the setting
key_spelled : (e : List ℕ) → length e ≡ 24 → Bytes e → bytes_of 2 (zone_of e) ++ bytes_of 4 (setting_of e) ≡ key_of e
key_spelled e long small = rw (bytes_field 2 e 0 small (omega arith), bytes_field 4 e 2 small (omega arith))
    (sym (take-add 2 4 e))

keys_same : (book : List ℕ) → Bytes book → {p q : ℕ} → p < places_of book → q < places_of book
    → zone_of (entry_at book q) ≡ zone_of (entry_at book p)
    → setting_of (entry_at book q) ≡ setting_of (entry_at book p)
    → key_of (entry_at book q) ≡ key_of (entry_at book p)
keys_same book small {p} {q} h g zones settings =
    sym (key_spelled (entry_at book q) (entry_there book q g) (entry_bytes book q small))
    ∙ rw (zones, settings) (key_spelled (entry_at book p) (entry_there book p h) (entry_bytes book p small))

-- as many marks as before
noted_long : (marks e : List ℕ) → length (noted_entry marks e) ≡ length marks
unfolding noted_entry noted
noted_long marks e = go (zeros e)
  where
    go : (z : Bool) → length (if' z (λ _. marks) (λ _. noted marks (key_of e))) ≡ length marks
    go true = refl
    go false = length-set marks _ _

-- the invariant of the loop: no entry of the earlier places repeats another, and the marks cover them
pub record Once (book first marks : List ℕ) (p : ℕ) : Type 0 where
  pub upto : p ≤ places_of book
  pub long : length marks ≡ length first
  pub small : Bytes book
  pub sofar : twice_in book p ≡ false
  pub known : (x : List ℕ) → may_stand marks x ≡ false → (q : ℕ) → q < p → zeros (entry_at book q) ≡ false
      → key_of (entry_at book q) ≡ x → ⊥

pub once_start : (book marks : List ℕ) → Bytes book → Once book marks marks 0
unfolding twice_in some
once_start book marks small = record {
  upto = omega arith;
  long = refl;
  small = small;
  sofar = refl;
  known = λ x gone q h taken key. omega arith;
}

module _ {book first marks : List ℕ} {p : ℕ} (s : Once book first marks p) where
  -- an entry that is not marked did not occur before
  module _ (h : p < places_of book) (new : may_stand marks (key_of (entry_at book p)) ≡ false) where
    not_for : (q : ℕ) → q < p
        → is_for (zone_of (entry_at book p)) (setting_of (entry_at book p)) (entry_at book q) ≡ false
    not_for q g = go (is_for (zone_of (entry_at book p)) (setting_of (entry_at book p)) (entry_at book q)) refl
      where
        go : (t : Bool) → is_for (zone_of (entry_at book p)) (setting_of (entry_at book p)) (entry_at book q) ≡ t
            → t ≡ false
        go false e = refl
        go true e =
            let f : For (zone_of (entry_at book p)) (setting_of (entry_at book p)) (entry_at book q) = for_parts e in
            let key : key_of (entry_at book q) ≡ key_of (entry_at book p) =
            keys_same book s.small h (omega arith) f.zoned f.set in
            absurd (s.known (key_of (entry_at book p)) new q g f.taken key)

    unseen : seen_before book p ≡ false
    unfolding seen_before seen_in
    unseen = some_none (λ q. is_for (zone_of (entry_at book p)) (setting_of (entry_at book p)) (entry_at book q)) p
        not_for

  module _ (h : p < places_of book) {e : List ℕ} (e-is : e ≡ entry_at book p) {may : Bool}
      (may-is : may ≡ may_repeat marks e) {t : Bool} (t-is : t ≡ (may && seen_before book p)) where
    again_is : t ≡ again book p
    unfolding again may_repeat
    again_is = t-is ∙ rw (may-is, e-is)
        (go (zeros (entry_at book p)) (may_stand marks (key_of (entry_at book p))) refl)
      where
        go : (x y : Bool) → may_stand marks (key_of (entry_at book p)) ≡ y
            → ((not x && y) && seen_before book p) ≡ (not x && seen_before book p)
        go true y y-is = refl
        go false true y-is = refl
        go false false y-is = sym (unseen h y-is)

    pub once_stop : t ≡ true → true ≡ twice_in book (places_of book)
    unfolding twice_in
    once_stop f = sym (some_stop (again book) (places_of book) p h (sym again_is ∙ f))

    -- the marks then cover this place too
    knows : (x : List ℕ) → may_stand (noted_entry marks (entry_at book p)) x ≡ false → (q : ℕ) → q < p + 1
        → zeros (entry_at book q) ≡ false → key_of (entry_at book q) ≡ x → ⊥
    unfolding noted_entry
    knows x gone q g taken key = go (zeros (entry_at book p)) refl gone
      where
        here : (p ≤ q) → zeros (entry_at book p) ≡ false
        here k = let same_place : q ≡ p = omega arith in rw same_place at taken

        own : (p ≤ q) → key_of (entry_at book p) ≡ x
        own k = let same_place : q ≡ p = omega arith in rw same_place at key

        go : (z : Bool) → zeros (entry_at book p) ≡ z
            → may_stand (if' z (λ _. marks) (λ _. noted marks (key_of (entry_at book p)))) x ≡ false → ⊥
        go true z-is away = ⊎_elim
            (λ (k : p ≤ q). clash z-is (here k))
            (λ (k : q < p). s.known x away q k taken key) (le_or_lt p q)
        go false z-is away =
            let two = not_noted marks (key_of (entry_at book p)) x away in ⊎_elim
            (λ (k : p ≤ q). clash (same_bytes_refl (key_of (entry_at book p))) (rw (← own k) at two.1))
            (λ (k : q < p). s.known x two.0 q k taken key) (le_or_lt p q)

    pub once_on : t ≡ false → {m : List ℕ} → m ≡ noted_entry marks e → Once book first m (p + 1)
    unfolding twice_in some
    once_on f {m} m_is =
        let m-so : m ≡ noted_entry marks (entry_at book p) = m_is ∙ ap (noted_entry marks) e-is in record {
          upto = omega arith;
          long = ap length m-so ∙ noted_long marks (entry_at book p) ∙ s.long;
          small = s.small;
          sofar = rw (add-one p, s.sofar, ← again_is) f;
          known = rw m-so knows;
        }

  pub once_long : length marks ≡ length first
  once_long = s.long

  -- the place is marked before the search
  pub noted_once : (e : List ℕ) {m : List ℕ} → m ≡ noted_entry marks e → length m ≡ length first
  noted_once e m_is = ap length m_is ∙ noted_long marks e ∙ s.long

  pub once_end : places_of book ≤ p → false ≡ twice_in book (places_of book)
  once_end h = let e : p ≡ places_of book = omega (arith, s.upto) in sym (rw e at s.sofar)
