-- Laws of lookups and of the judgement of a book, one for each `return`. A loop over the places keeps a fact about
-- the places before p: they are sound (`Sounding`), none is for the zone and setting (`Unseen`), the best of them is
-- known (`Best`). Each turn is then one step of `every`, `some` or `best_in`, and the last turn gives the definition's
-- value. `book_length` to `judge_passed` are the tests of one book in their order, `look_zone` to `look_nothing`
-- those of a lookup in both books. No induction is needed beyond these loops. Assumes nothing.
use Rattle.std.specs.Prelude.{Err, Ok, Result, ℕ}
use mathlib.Core.Path.{◌≡◌, refl, sym, ap, ◌∙◌}
use mathlib.Core.Bool.{Bool, true, false, ◌&&◌, ◌||◌, not, and-false, or-true}
use mathlib.Core.Logic.{⊎_elim}
use mathlib.Core.List.{List}
use Prim.Native.Nat.{ℕ, zero, suc, ◌+◌, ◌*◌, ◌-◌, ◌/◌, ◌<◌, ◌≤◌}
use native.Mathlib.Numerals.{add-one}
use native.Mathlib.Omega.{arith}
use lib.ListN.{length, take, drop, drop_of_length-le}
use Rattle.std.specs.List.{list_all}
use Rattle.blocks.proofs.Judging.{zeros_all}
use lib.Seq.{take_all, take-nil}
use lib.Dec.{eqb, leb, ltb}
use Rattle.fields.proofs.Basics.{le_or_lt}
use Rattle.fields.proofs.Fields.{tail_part}
use Rattle.blocks.specs.Block.{judged}
use Rattle.blocks.specs.Run.{judge_run}
use Rattle.dialect.specs.Bytes.{valid_bytes}
use Rattle.books.specs.Book.{every, some, places_of, place_at, entry_at, setting_of, belongs}
use Rattle.books.specs.Book.{sound_length, sound_blocks, sound_place, sound_places, sound_book, is_for, seen_in}
use Rattle.books.specs.Book.{twice_in, judge_book, sound_entry}
use Rattle.books.specs.Lookup.{fits, best_setting, best_in, Chosen, told, lookup_of, part_of}
use Rattle.books.specs.declared.Looked.{Looked}
use Rattle.books.specs.declared.Looked.TheVariants.{Zone, Line, Refused, Nothing}
use Rattle.fields.specs.Field.{field}

-- the zones that belong into each book
pub belongs_line : (zone : ℕ) {line : Bool} → line ≡ true → eqb zone 0 ≡ belongs line zone
belongs_line zone e = rw e refl

pub belongs_zone : (zone : ℕ) {line : Bool} → line ≡ false → not (eqb zone 0) ≡ belongs line zone
belongs_zone zone e = rw e refl

-- the returns of `piece`: no bytes, fewer than n, n
module _ (b : List ℕ) (at n : ℕ) where
  pub piece_none : length b < at → take (0 - 0) b ≡ take n (drop at b)
  piece_none h = rw (drop_of_length-le b {i = at} (omega arith)) (sym (take-nil n))

  pub piece_cut : length (take (length b - at) (drop at b)) < n
      → take (length b - at) (drop at b) ≡ take n (drop at b)
  piece_cut h =
      tail_part at b ∙ sym (take_all n (drop at b) (let e : length (drop at b) < n = rw (tail_part at b) at h
      in omega arith))

  pub piece_whole : take (n - 0) (take (length b - at) (drop at b)) ≡ take n (drop at b)
  piece_whole = let e : n - 0 ≡ n = omega arith in rw (e, tail_part at b) refl

pub entry_is : (b : List ℕ) (p : ℕ) → take (place_at p + 24 - place_at p) (drop (place_at p) b) ≡ entry_at b p
unfolding entry_at
entry_is b p = let e : place_at p + 24 - place_at p ≡ 24 = omega arith in rw e refl

-- the blocks of a book
module _ (b : List ℕ) (j : Result (Unit {0}) ℕ) (j-is : judged j ≡ judge_run 0 (504 * (length b / 512)) b) where
  pub blocks_passed : j ≡ Ok tt → true ≡ sound_blocks b
  blocks_passed e = rw (← j-is, e) refl

  pub blocks_refused : {n : ℕ} → j ≡ Err n → false ≡ sound_blocks b
  blocks_refused e = rw (← j-is, e) refl

-- tests of an entry
module _ (e : List ℕ) {o w : ℕ} (o_is : o ≡ field 2 e 0) (w-is : w ≡ field 4 e 2) where
  pub sound_entry_is : (line : Bool) {six fifteen : List ℕ} {v z h : Bool} → six ≡ take 9 (drop 6 e)
      → v ≡ valid_bytes six
      → fifteen ≡ take 9 (drop 15 e) → z ≡ list_all (λ x. eqb x 0) fifteen → h ≡ belongs line o
      → (leb 1 w && (v && (z && h))) ≡ sound_entry line e
  unfolding sound_entry
  sound_entry_is line {fifteen = fifteen} a v-is b z-is h-is =
      rw (v-is, a, z-is, ← zeros_all fifteen, b, h-is, o_is, w-is) refl

  module _ (zone setting : ℕ) {x : Bool} (x-is : x ≡ list_all (λ y. eqb y 0) e) where
    pub is_for_is : (not x && (eqb o zone && eqb w setting)) ≡ is_for zone setting e
    unfolding is_for
    is_for_is = rw (x-is, ← zeros_all e, o_is, w-is) refl

    pub fits_is : (not x && (eqb o zone && leb w setting)) ≡ fits zone setting e
    unfolding fits
    fits_is = rw (x-is, ← zeros_all e, o_is, w-is) refl

pub sound_place_is : (line : Bool) (e : List ℕ) {x y : Bool} → x ≡ list_all (λ z. eqb z 0) e → y ≡ sound_entry line e
    → (x || y) ≡ sound_place line e
unfolding sound_place
sound_place_is line e x-is y-is = rw (x-is, ← zeros_all e, y-is) refl

-- a place that fails a test, and one that passes it
pub every_stop : (test : ℕ → Bool) (n p : ℕ) → p < n → test p ≡ false → every test n ≡ false
unfolding every
every_stop test zero p h e = absurd (omega arith)
every_stop test (suc n) p h e = ⊎_elim
    (λ (k : n ≤ p). let same : p ≡ n = omega arith in rw (sym (ap test same) ∙ e) (and-false (every test n)))
    (λ (k : p < n). rw (every_stop test n p k e) refl) (le_or_lt n p)

pub some_stop : (test : ℕ → Bool) (n p : ℕ) → p < n → test p ≡ true → some test n ≡ true
unfolding some
some_stop test zero p h e = absurd (omega arith)
some_stop test (suc n) p h e = ⊎_elim
    (λ (k : n ≤ p). let same : p ≡ n = omega arith in rw (sym (ap test same) ∙ e) (or-true (some test n)))
    (λ (k : p < n). rw (some_stop test n p k e) refl) (le_or_lt n p)

pub some_none : (test : ℕ → Bool) (n : ℕ) → ((p : ℕ) → p < n → test p ≡ false) → some test n ≡ false
unfolding some
some_none test zero f = refl
some_none test (suc n) f = rw (some_none test n (λ p h. f p (omega arith)), f n (omega arith)) refl

-- the invariant of `sound_places`: the earlier places are sound
pub record Sounding (line : Bool) (book : List ℕ) (p : ℕ) : Type 0 where
  pub upto : p ≤ places_of book
  pub sofar : sound_places line book p ≡ true

pub sounding_start : (line : Bool) (book : List ℕ) → Sounding line book 0
unfolding sound_places every
sounding_start line book = record { upto = omega arith; sofar = refl }

module _ {line : Bool} {book : List ℕ} {p : ℕ} (s : Sounding line book p) where
  module _ (h : p < places_of book) {e : List ℕ} (e-is : e ≡ entry_at book p) {t : Bool} (t-is : t
      ≡ sound_place line e) where
    pub sounding_stop : t ≡ false → false ≡ sound_places line book (places_of book)
    unfolding sound_places
    sounding_stop f =
        sym (every_stop (λ q. sound_place line (entry_at book q)) (places_of book) p h (rw (← e-is, ← t-is) f))

    pub sounding_on : t ≡ true → Sounding line book (p + 1)
    unfolding sound_places every
    sounding_on f = record {
      upto = omega arith;
      sofar = rw (add-one p, s.sofar, ← e-is, ← t-is) f;
    }

  pub sounding_end : places_of book ≤ p → true ≡ sound_places line book (places_of book)
  sounding_end h = let e : p ≡ places_of book = omega (arith, s.upto) in sym (rw e at s.sofar)

-- the invariant of `seen_in`: no earlier place is for this zone and setting
pub record Unseen (zone setting : ℕ) (book : List ℕ) (n q : ℕ) : Type 0 where
  pub inside : n ≤ places_of book
  pub upto : q ≤ n
  pub sofar : seen_in zone setting book q ≡ false

pub unseen_start : (zone setting : ℕ) (book : List ℕ) (n : ℕ) → n ≤ places_of book → Unseen zone setting book n 0
unfolding seen_in some
unseen_start zone setting book n h = record { inside = h; upto = omega arith; sofar = refl }

module _ {zone setting : ℕ} {book : List ℕ} {n q : ℕ} (s : Unseen zone setting book n q) where
  pub unseen_place : q < n → place_at q + 24 ≤ length book
  unseen_place h = omega (arith, s.inside)

  module _ (h : q < n) {e : List ℕ} (e-is : e ≡ entry_at book q) {t : Bool} (t-is : t ≡ is_for zone setting e) where
    pub unseen_stop : t ≡ true → true ≡ seen_in zone setting book n
    unfolding seen_in
    unseen_stop f = sym (some_stop (λ p. is_for zone setting (entry_at book p)) n q h (rw (← e-is, ← t-is) f))

    pub unseen_on : t ≡ false → Unseen zone setting book n (q + 1)
    unfolding seen_in some
    unseen_on f = record {
      inside = s.inside;
      upto = omega arith;
      sofar = rw (add-one q, s.sofar, ← e-is, ← t-is) f;
    }

  pub unseen_end : n ≤ q → false ≡ seen_in zone setting book n
  unseen_end h = let e : q ≡ n = omega (arith, s.upto) in sym (rw e at s.sofar)

-- the invariant of `best_in`: the best of the earlier places
pub record Best (zone asked : ℕ) (book : List ℕ) (best top p : ℕ) : Type 0 where
  pub upto : p ≤ places_of book
  pub inside : best ≤ p
  pub is : best ≡ best_in zone asked book p
  pub tops : top ≡ best_setting book best

pub best_start : (zone asked : ℕ) (book : List ℕ) → Best zone asked book 0 0 0
unfolding best_in best_setting
best_start zone asked book = record { upto = omega arith; inside = omega arith; is = refl; tops = refl }

module _ {zone asked : ℕ} {book : List ℕ} {best top p : ℕ} (s : Best zone asked book best top p) where
  module _ (h : p < places_of book) {e : List ℕ} (e-is : e ≡ entry_at book p) {w : ℕ}
      (w-is : w ≡ field 4 e 2) {f : Bool}
      (f-is : f ≡ fits zone asked e) where
    test_is : (f && ltb top w) ≡ (fits zone asked (entry_at book p)
        && ltb (best_setting book (best_in zone asked book p)) (setting_of (entry_at book p)))
    test_is = rw (← s.is, ← s.tops, ← e-is, ← f-is, ← w-is) refl

    pub best_taken : (f && ltb top w) ≡ true → Best zone asked book (p + 1) w (p + 1)
    unfolding best_in best_setting
    best_taken t = record {
      upto = omega arith;
      inside = omega arith;
      is = rw (add-one p, ← test_is, t) refl;
      tops = rw (add-one p, ← e-is) w-is;
    }

    pub best_left : (f && ltb top w) ≡ false → Best zone asked book best top (p + 1)
    unfolding best_in
    best_left t = record {
      upto = omega arith;
      inside = omega (arith, s.inside);
      is = rw (add-one p, ← test_is, t) s.is;
      tops = s.tops;
    }

  pub best_end : places_of book ≤ p → Chosen zone asked book best
  best_end h = let e : p ≡ places_of book = omega (arith, s.upto) in
      record { is = rw e at s.is; inside = rw e at s.inside }

-- the tests of one book: the length, the blocks, the places; then repeated entries
module _ (line : Bool) (book : List ℕ) {s : Bool} (s-is : s ≡ sound_length (length book)) where
  pub book_length : s ≡ false → false ≡ sound_book line book
  unfolding sound_book
  book_length f = rw (← s-is, f) refl

  module _ (long : s ≡ true) {b : Bool} (b_is : b ≡ sound_blocks book) where
    pub book_blocks : b ≡ false → false ≡ sound_book line book
    unfolding sound_book
    book_blocks f = rw (← s-is, long, ← b_is, f) refl

    pub book_places : b ≡ true → {t : Bool} → t ≡ sound_places line book (places_of book) → t ≡ sound_book line book
    unfolding sound_book
    book_places f t-is = rw (← s-is, long, ← b_is, f) t-is

-- the best place is inside the book
pub best_place : {zone asked : ℕ} {book : List ℕ} {a : ℕ} → Chosen zone asked book a → 0 < a
    → place_at (a - 1) + 24 ≤ length book
best_place e h = omega (arith, e.inside)

module _ (line : Bool) (book : List ℕ) {s : Bool} (s-is : s ≡ sound_book line book) where
  pub judge_unsound : s ≡ false → 95 ≡ judge_book line book
  unfolding judge_book
  judge_unsound f = rw (← s-is, f) refl

  module _ (sound : s ≡ true) {t : Bool} (t-is : t ≡ twice_in book (places_of book)) where
    pub judge_twice : t ≡ true → 96 ≡ judge_book line book
    unfolding judge_book
    judge_twice f = rw (← s-is, sound, ← t-is, f) refl

    pub judge_passed : t ≡ false → 0 ≡ judge_book line book
    unfolding judge_book
    judge_passed f = rw (← s-is, sound, ← t-is, f) refl

-- the tests of a lookup in both books, in their order
module _ (zb lb : List ℕ) (zone asked : ℕ) {s : Bool} (s-is : s ≡ sound_book false zb) where
  pub look_zone : s ≡ false → Refused 95 0 ≡ lookup_of zb lb zone asked
  unfolding lookup_of
  look_zone f = rw (← s-is, f) refl

  module _ (s-yes : s ≡ true) {u : Bool} (u-is : u ≡ sound_book true lb) where
    pub look_line : u ≡ false → Refused 95 1 ≡ lookup_of zb lb zone asked
    unfolding lookup_of
    look_line f = rw (← s-is, s-yes, ← u-is, f) refl

    module _ (u-yes : u ≡ true) {t : Bool} (t-is : t ≡ twice_in zb (places_of zb)) where
      pub look_zone_twice : t ≡ true → Refused 96 0 ≡ lookup_of zb lb zone asked
      unfolding lookup_of
      look_zone_twice f = rw (← s-is, s-yes, ← u-is, u-yes, ← t-is, f) refl

      module _ (t-no : t ≡ false) {v : Bool} (v-is : v ≡ twice_in lb (places_of lb)) where
        pub look_line_twice : v ≡ true → Refused 96 1 ≡ lookup_of zb lb zone asked
        unfolding lookup_of
        look_line_twice f = rw (← s-is, s-yes, ← u-is, u-yes, ← t-is, t-no, ← v-is, f) refl

        module _ (v-no : v ≡ false) where
          both : lookup_of zb lb zone asked
              ≡ told (best_in zone asked zb (places_of zb)) (best_in 0 asked lb (places_of lb))
          unfolding lookup_of
          both = rw (← s-is, s-yes, ← u-is, u-yes, ← t-is, t-no, ← v-is, v-no) refl

          module _ {a : ℕ} (a-is : Chosen zone asked zb a) where
            pub look_found : 0 < a → {at : ℕ} → at ≡ place_at (a - 1) → Zone (at + 6) ≡ lookup_of zb lb zone asked
            look_found h at-is =
                let e : best_in zone asked zb (places_of zb) ≡ suc (a - 1) = omega (arith, a-is.is) in
                sym (both ∙ rw (e, at-is) refl)

            module _ (none : a ≤ 0) {d : ℕ} (d-is : Chosen 0 asked lb d) where
              own : best_in zone asked zb (places_of zb) ≡ 0
              own = omega (arith, a-is.is)

              pub look_general : 0 < d → {at : ℕ} → at ≡ place_at (d - 1) → Line (at + 6) ≡ lookup_of zb lb zone asked
              look_general h at-is =
                  let e : best_in 0 asked lb (places_of lb) ≡ suc (d - 1) = omega (arith, d-is.is) in
                  sym (both ∙ rw (own, e, at-is) refl)

              pub look_nothing : d ≤ 0 → Nothing ≡ lookup_of zb lb zone asked
              look_nothing h =
                  let e : best_in 0 asked lb (places_of lb) ≡ 0 = omega (arith, d-is.is) in
                  sym (both ∙ rw (own, e) refl)

-- the part of a book that a lookup returns
module _ (zb lb : List ℕ) (zone asked : ℕ) {a : Looked} (a-is : a ≡ lookup_of zb lb zone asked) where
  pub part_zone : {at : ℕ} → a ≡ Zone at → {r : List ℕ} → r ≡ take 9 (drop at zb)
      → r ≡ part_of (lookup_of zb lb zone asked) zb lb
  part_zone e r-is = rw (← a-is, e) r-is

  pub part_line : {at : ℕ} → a ≡ Line at → {r : List ℕ} → r ≡ take 9 (drop at lb)
      → r ≡ part_of (lookup_of zb lb zone asked) zb lb
  part_line e r-is = rw (← a-is, e) r-is

  pub part_refused : {n b : ℕ} → a ≡ Refused n b → take (0 - 0) lb ≡ part_of (lookup_of zb lb zone asked) zb lb
  part_refused e = rw (← a-is, e) refl

  pub part_nothing : a ≡ Nothing → take (0 - 0) lb ≡ part_of (lookup_of zb lb zone asked) zb lb
  part_nothing e = rw (← a-is, e) refl
