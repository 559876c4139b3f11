-- Laws of additions and removals, one for each `return`. The searches keep that no earlier place passes the test
-- (`Searching`), or which place is the first so far (`Finding`); `first_keeps`, by induction on the number of places,
-- says that later places do not change the first one. `entry_built` puts the 24 bytes of an entry together,
-- `put_entry_is` writes them and renews the block's sum. The tests 95, 96, 97 and 98 come in the order of the
-- definition (`add_unsound` to `add_placed`, `remove_unsound` to `remove_placed`). At last the entry's book changes
-- and the other book stays, by whether the zone is 0 (`zone_stays` to `zone_loses`). Assumes nothing.
use mathlib.Core.Path.{◌≡◌, refl, sym, ap, ◌∙◌}
use mathlib.Core.Bool.{Bool, true, false, ◌&&◌}
use mathlib.Core.Logic.{⊎_elim}
use mathlib.Core.List.{List}
use Prim.Native.Nat.{ℕ, zero, suc, ◌+◌, ◌*◌, ◌-◌, ◌/◌, ◌<◌, ◌≤◌}
use native.Mathlib.Numerals.{add-one}
use native.Mathlib.Omega.{arith}
use lib.ListN.{length, take, drop, replicate, length-append, length-replicate}
use lib.Dec.{eqb, leb}
use borrow.Author.Tests.{eq-eqb, ne_eqb, eqb-true}
use Rattle.fields.specs.Choice.{if'}
use Rattle.fields.specs.Field.{bytes_of}
use Rattle.fields.proofs.Basics.{never, clash, le_or_lt, and_left, and_right}
use Rattle.fields.proofs.Spelling.{length_bytes}
use Rattle.dialect.specs.Bytes.{valid_bytes}
use Rattle.dialect.proofs.Laws.{valid_length}
use Rattle.std.specs.List.{list_all}
use Rattle.blocks.proofs.Judging.{zeros_all}
use Rattle.blocks.specs.Block.{zeros, sum_of}
use Rattle.books.specs.declared.Changed.{Changed}
use Rattle.books.specs.declared.Changed.TheVariants.{Placed, Refused, Bare}
use Rattle.books.specs.Book.{places_of, place_at, entry_at, sound_book, is_for, seen_in, twice_in}
use Rattle.fields.specs.Over.{over}
use Rattle.blocks.specs.Laid.{laid_at}
use Rattle.blocks.proofs.Laying.{laid_fits, length_laid}
use Rattle.books.specs.Change.{or_else, first_in, empty_at, for_at, First, entry_of, may_add, renewed}
use Rattle.books.specs.Change.{put_entry, book_number, found_or, place_to_add, add_in, remove_in, after, add_of}
use Rattle.books.specs.Change.{remove_of}
use Rattle.books.specs.Change.{zone_after, line_after, zone_added, line_added, zone_removed, line_removed}
use Rattle.books.specs.Change.{no_entry_bytes}

-- a place that passes the test after places that do not is the first one
first_keeps : (test : ℕ → Bool) (n p : ℕ) → p < n → first_in test p ≡ 0 → test p ≡ true → first_in test n ≡ suc p
unfolding first_in
first_keeps test zero p h none e = absurd (omega arith)
first_keeps test (suc n) p h none e = ⊎_elim
    (λ (k : n ≤ p).
    let same : p ≡ n = omega arith in
    let f : first_in test n ≡ 0 = sym (ap (first_in test) same) ∙ none in
    let t : test n ≡ true = sym (ap test same) ∙ e in
    rw (f, t) (ap suc (sym same)))
    (λ (k : p < n). rw (first_keeps test n p k none e) refl) (le_or_lt n p)

pub first_inside : (test : ℕ → Bool) (n : ℕ) → first_in test n ≤ n
unfolding first_in
first_inside test zero = omega arith
first_inside test (suc n) = go (first_in test n) (test n) (first_inside test n)
  where
    go : (a : ℕ) (t : Bool) → a ≤ n → or_else a (if' t (λ _. suc n) (λ _. 0)) ≤ suc n
    go zero true h = omega arith
    go zero false h = omega arith
    go (suc a) t h = omega arith

-- the invariant of a search that ends at the first place: no earlier place passes the test
pub record Searching (test : ℕ → Bool) (n p : ℕ) : Type 0 where
  pub upto : p ≤ n
  pub none : first_in test p ≡ 0

pub search_start : (test : ℕ → Bool) (n : ℕ) → Searching test n 0
unfolding first_in
search_start test n = record { upto = omega arith; none = refl }

module _ {test : ℕ → Bool} {n p : ℕ} (s : Searching test n p) where
  hit : p < n → test p ≡ true → First test n (p + 1)
  hit h e = record {
    is = let f : first_in test n ≡ suc p = first_keeps test n p h s.none e in omega arith;
    inside = omega arith;
  }

  miss : p < n → test p ≡ false → Searching test n (p + 1)
  unfolding first_in
  miss h e = record { upto = omega arith; none = rw (add-one p, s.none, e) refl }

  pub search_end : n ≤ p → First test n 0
  search_end h =
      let e : p ≡ n = omega (arith, s.upto) in
      record { is = sym (rw e at s.none); inside = omega arith }

-- the invariant of a search over all places: the first of the earlier places that passes the test
pub record Finding (test : ℕ → Bool) (n first p : ℕ) : Type 0 where
  pub upto : p ≤ n
  pub inside : first ≤ p
  pub is : first ≡ first_in test p

pub find_start : (test : ℕ → Bool) (n : ℕ) → Finding test n 0 0
unfolding first_in
find_start test n = record { upto = omega arith; inside = omega arith; is = refl }

-- one more place does not change the first one
first_on : (a p : ℕ) (t : Bool) → (t && eqb a 0) ≡ false → or_else a (if' t (λ _. suc p) (λ _. 0)) ≡ a
first_on zero p true e = clash refl e
first_on zero p false e = refl
first_on (suc a) p t e = refl

module _ (book : List ℕ) {n p : ℕ} (h : p < n) {e : List ℕ} (e-is : e ≡ entry_at book p) {t : Bool} where
  module _ {first : ℕ} (s : Finding (empty_at book) n first p) (t_is : t ≡ list_all (λ x. eqb x 0) e) where
    t-is : t ≡ zeros e
    t-is = t_is ∙ sym (zeros_all e)

    pub empty_hit : (t && eqb first 0) ≡ true → Finding (empty_at book) n (p + 1) (p + 1)
    unfolding first_in empty_at
    empty_hit f =
        let here : zeros (entry_at book p) ≡ true = rw (← e-is, ← t-is) (and_left t (eqb first 0) f) in
        let none : first_in (empty_at book) p ≡ 0 = sym s.is ∙ eqb-true first 0 (and_right t (eqb first 0) f) in
        record { upto = omega arith; inside = omega arith; is = rw (add-one p, none, here) refl }

    pub empty_miss : (t && eqb first 0) ≡ false → Finding (empty_at book) n first (p + 1)
    unfolding first_in empty_at
    empty_miss f = record {
      upto = omega arith;
      inside = omega (arith, s.inside);
      is = rw (add-one p, ← s.is, ← e-is, ← t-is) (sym (first_on first p t f));
    }

  module _ (zone setting : ℕ) (s : Searching (for_at zone setting book) n p) (t-is : t ≡ is_for zone setting e) where
    pub for_hit : t ≡ true → First (for_at zone setting book) n (p + 1)
    unfolding for_at
    for_hit f = hit s h (rw (← e-is, ← t-is) f)

    pub for_miss : t ≡ false → Searching (for_at zone setting book) n (p + 1)
    unfolding for_at
    for_miss f = miss s h (rw (← e-is, ← t-is) f)

pub find_end : {test : ℕ → Bool} {n first p : ℕ} → Finding test n first p → n ≤ p → First test n first
find_end {test} {n} {first} {p} s h =
    let e : p ≡ n = omega (arith, s.upto) in record { is = rw e at s.is; inside = rw e at s.inside }

-- zone and setting, written over zeros, and then the dialect after them
nine_laid : (zone setting : ℕ) (dialect : List ℕ) → length dialect ≡ 9
    → laid_at 6 dialect (laid_at 2 (bytes_of 4 setting) (laid_at 0 (bytes_of 2 zone) (replicate 24 0)))
    ≡ entry_of zone setting dialect
unfolding entry_of laid_at over bytes_of
nine_laid zone setting dialect nine = rw nine refl

-- the 24 bytes of an entry
pub entry_built : (zone setting : ℕ) (dialect : List ℕ) {z s o₁ o₂ o₃ : List ℕ} → length dialect ≡ 9
    → z ≡ bytes_of 2 zone → o₁ ≡ laid_at 0 z (replicate 24 0) → s ≡ bytes_of 4 setting → o₂ ≡ laid_at 2 s o₁
    → o₃ ≡ laid_at 6 dialect o₂ → o₃ ≡ entry_of zone setting dialect
entry_built zone setting dialect nine z-is o₁-is s-is o₂-is o₃-is =
    o₃-is ∙ rw (o₂-is, s-is, o₁-is, z-is) (nine_laid zone setting dialect nine)

pub may_add_is : (zone setting : ℕ) (dialect : List ℕ) {v : Bool} → v ≡ valid_bytes dialect
    → (leb 1 setting && (leb zone 65535 && v)) ≡ may_add zone setting dialect
may_add_is zone setting dialect v-is = rw v-is refl

pub may_nine : (zone setting : ℕ) (dialect : List ℕ) {m : Bool} → m ≡ may_add zone setting dialect → m ≡ true
    → length dialect ≡ 9
may_nine zone setting dialect m_is e = valid_length dialect
    (and_right (leb zone 65535) _ (and_right (leb 1 setting) _ (sym m_is ∙ e)))

-- the bytes are written at their place, and the sum of the block is renewed
pub put_entry_is : (book : List ℕ) (p : ℕ) (e : List ℕ) {at : ℕ} {o₁ check o₂ : List ℕ} {s : ℕ}
    → (p < places_of book) × (length e ≡ 24) → at ≡ place_at p → o₁ ≡ laid_at at e book
    → s ≡ sum_of (take (512 * (p / 21) + 512 - 512 * (p / 21)) (drop (512 * (p / 21)) o₁)) → check ≡ bytes_of 4 s
    → o₂ ≡ laid_at (512 * (p / 21) + 508) check o₁ → o₂ ≡ put_entry book p e
unfolding put_entry renewed
put_entry_is book p e {at} {o₁} {check} {s = s} (inside, long) at-is o₁-is s-is check-is o₂-is =
    let n : 512 * (p / 21) + 512 - 512 * (p / 21) ≡ 512 = omega arith in
    let laid : o₁ ≡ laid_at (place_at p) e book = rw at-is at o₁-is in
    let o₁-so : o₁ ≡ over (place_at p) e book = laid ∙ laid_fits (place_at p) e book (omega arith) in
    let o₁-long : length o₁ ≡ length book = ap length laid ∙ length_laid (place_at p) e book in
    let four : length check ≡ 4 = ap length check-is ∙ length_bytes 4 s in
    o₂-is ∙ laid_fits (512 * (p / 21) + 508) check o₁ (omega arith) ∙ rw (check-is, s-is, n, o₁-so) refl

pub entry_long : (zone setting : ℕ) (dialect : List ℕ) {e : List ℕ} → length dialect ≡ 9
    → e ≡ entry_of zone setting dialect
    → length e ≡ 24
unfolding entry_of
entry_long zone setting dialect nine e-is =
    rw e-is (simp (length-append, length_bytes, length-replicate {A = ℕ}) (omega arith))

-- the tests of an addition and of a removal, in their order
module _ (line : Bool) (book : List ℕ) (zone setting : ℕ) {s : Bool} (s-is : s ≡ sound_book line book) where
  module _ {b : ℕ} (b_is : b ≡ book_number line) (f : s ≡ false) where
    pub add_unsound : Refused 95 b ≡ place_to_add line book zone setting
    unfolding place_to_add
    add_unsound = rw (← s-is, f, b_is) refl

    pub remove_unsound : Refused 95 b ≡ remove_in line book zone setting
    unfolding remove_in
    remove_unsound = rw (← s-is, f, b_is) refl

  module _ (sound : s ≡ true) {t : Bool} (t-is : t ≡ twice_in book (places_of book)) where
    module _ {b : ℕ} (b_is : b ≡ book_number line) (f : t ≡ true) where
      pub add_twice : Refused 96 b ≡ place_to_add line book zone setting
      unfolding place_to_add
      add_twice = rw (← s-is, sound, ← t-is, f, b_is) refl

      pub remove_twice : Refused 96 b ≡ remove_in line book zone setting
      unfolding remove_in
      remove_twice = rw (← s-is, sound, ← t-is, f, b_is) refl

    module _ (once : t ≡ false) where
      module _ {g : ℕ} (g-is : First (for_at zone setting book) (places_of book) g) where
        pub remove_none : g ≡ 0 → Bare 97 ≡ remove_in line book zone setting
        unfolding remove_in
        remove_none e = rw (← s-is, sound, ← t-is, once, ← g-is.is, e) refl

        pub remove_placed : (g ≡ 0 → ⊥) → {b : ℕ} → b ≡ book_number line
            → Placed b (g - 1) ≡ remove_in line book zone setting
        unfolding remove_in
        remove_placed e b_is =
            let some : first_in (for_at zone setting book) (places_of book) ≡ suc (g - 1) = omega (arith, g-is.is, e) in
            rw (← s-is, sound, ← t-is, once, some, b_is) refl

      module _ {v : Bool} (v-is : v ≡ seen_in zone setting book (places_of book)) where
        pub add_again : v ≡ true → {b : ℕ} → b ≡ book_number line → Refused 96 b ≡ place_to_add line book zone setting
        unfolding place_to_add
        add_again e b_is = rw (← s-is, sound, ← t-is, once, ← v-is, e, b_is) refl

        module _ (new : v ≡ false) {g : ℕ} (g-is : First (empty_at book) (places_of book) g) where
          pub add_full : g ≡ 0 → Bare 98 ≡ place_to_add line book zone setting
          unfolding place_to_add
          add_full e = rw (← s-is, sound, ← t-is, once, ← v-is, new, ← g-is.is, e) refl

          pub add_placed : (g ≡ 0 → ⊥) → {b : ℕ} → b ≡ book_number line
              → Placed b (g - 1) ≡ place_to_add line book zone setting
          unfolding place_to_add
          add_placed e b_is =
              let some : first_in (empty_at book) (places_of book) ≡ suc (g - 1) = omega (arith, g-is.is, e) in
              rw (← s-is, sound, ← t-is, once, ← v-is, new, some, b_is) refl

-- the place that is returned is in the book
found_inside : (number : ℕ) (line : Bool) (n f : ℕ) → f ≤ n → (b p : ℕ) → found_or number line f ≡ Placed b p → p < n
found_inside number line n zero h b p e = never (cc)
found_inside number line n (suc q) h b p e = let same : q ≡ p = cc in omega arith

module _ (line : Bool) (book : List ℕ) (zone setting : ℕ) {b p : ℕ} where
  add_in_lem : place_to_add line book zone setting ≡ Placed b p → p < places_of book
  unfolding place_to_add
  add_in_lem = go (sound_book line book) (twice_in book (places_of book)) (seen_in zone setting book (places_of book))
    where
      go : (s t v : Bool) → if' s (λ _. if' t (λ _. Refused 96 (book_number line)) (λ _.
          if' v (λ _. Refused 96 (book_number line))
          (λ _. found_or 98 line (first_in (empty_at book) (places_of book)))))
          (λ _. Refused 95 (book_number line)) ≡ Placed b p → p < places_of book
      go true false false e = found_inside 98 line (places_of book) (first_in (empty_at book) (places_of book))
          (first_inside (empty_at book) (places_of book)) b p e
      go true false true e = never (cc)
      go true true v e = never (cc)
      go false t v e = never (cc)

  remove_in_lem : remove_in line book zone setting ≡ Placed b p → p < places_of book
  unfolding remove_in
  remove_in_lem = go (sound_book line book) (twice_in book (places_of book))
    where
      go : (s t : Bool) → if' s (λ _. if' t (λ _. Refused 96 (book_number line))
          (λ _. found_or 97 line (first_in (for_at zone setting book) (places_of book))))
          (λ _. Refused 95 (book_number line)) ≡ Placed b p → p < places_of book
      go true false e = found_inside 97 line (places_of book) (first_in (for_at zone setting book) (places_of book))
          (first_inside (for_at zone setting book) (places_of book)) b p e
      go true true e = never (cc)
      go false t e = never (cc)

  module _ {j : Changed} (e : j ≡ Placed b p) where
    pub add_inside : j ≡ place_to_add line book zone setting → p < places_of book
    add_inside j-is = add_in_lem (sym j-is ∙ e)

    pub remove_inside : j ≡ remove_in line book zone setting → p < places_of book
    remove_inside j-is = remove_in_lem (sym j-is ∙ e)

-- an addition: refused for the entry itself, or the answer of `place_to_add`
module _ (line : Bool) (book : List ℕ) (zone setting : ℕ) (dialect : List ℕ) {m : Bool}
    (m_is : m ≡ may_add zone setting dialect) where
  pub add_away : m ≡ false → {b : ℕ} → b ≡ book_number line → Refused 95 b ≡ add_in line book zone setting dialect
  unfolding add_in
  add_away f b_is = rw (← m_is, f, b_is) refl

  pub add_to : m ≡ true → {j : Changed} → j ≡ place_to_add line book zone setting → {r : Changed} → j ≡ r
      → r ≡ add_in line book zone setting dialect
  unfolding add_in
  add_to f j-is r-is = sym r-is ∙ j-is ∙ rw (← m_is, f) refl

pub written : (book : List ℕ) (b p : ℕ) {e f o : List ℕ} → e ≡ f → o ≡ put_entry book p e
    → o ≡ after (Placed b p) f book
written book b p e-is o_is = rw e-is at o_is

pub removed : (line : Bool) (book : List ℕ) (zone setting : ℕ) {j : Changed} → j ≡ remove_in line book zone setting
    → {r : Changed} → j ≡ r → r ≡ remove_in line book zone setting
removed line book zone setting j-is r-is = sym r-is ∙ j-is

-- the book that changes: the line book for zone 0, else the zone book; the other one stays
module _ (zb lb : List ℕ) (zone setting : ℕ) (dialect : List ℕ) where
  module _ (h : zone ≡ 0) where
    pub zone_stays : zb ≡ zone_added zb lb zone setting dialect
    unfolding zone_added zone_after
    zone_stays = rw (eq-eqb zone 0 h) refl

    module _ {a : Changed} (a-is : a ≡ add_in true lb zone setting dialect) where
      pub add_line : a ≡ add_of zb lb zone setting dialect
      unfolding add_of
      add_line = a-is ∙ rw (eq-eqb zone 0 h) refl

      pub line_changes : {o : List ℕ} → o ≡ after a (entry_of zone setting dialect) lb
          → o ≡ line_added zb lb zone setting dialect
      unfolding line_added line_after
      line_changes o_is = o_is ∙ rw (← add_line, eq-eqb zone 0 h) refl

  module _ (h : zone ≡ 0 → ⊥) where
    pub line_stays : lb ≡ line_added zb lb zone setting dialect
    unfolding line_added line_after
    line_stays = rw (ne_eqb zone 0 h) refl

    module _ {a : Changed} (a-is : a ≡ add_in false zb zone setting dialect) where
      pub add_zone : a ≡ add_of zb lb zone setting dialect
      unfolding add_of
      add_zone = a-is ∙ rw (ne_eqb zone 0 h) refl

      pub zone_changes : {o : List ℕ} → o ≡ after a (entry_of zone setting dialect) zb
          → o ≡ zone_added zb lb zone setting dialect
      unfolding zone_added zone_after
      zone_changes o_is = o_is ∙ rw (← add_zone, ne_eqb zone 0 h) refl

module _ (zb lb : List ℕ) (zone setting : ℕ) where
  module _ (h : zone ≡ 0) where
    pub zone_left : zb ≡ zone_removed zb lb zone setting
    unfolding zone_removed zone_after
    zone_left = rw (eq-eqb zone 0 h) refl

    module _ {a : Changed} (a-is : a ≡ remove_in true lb zone setting) where
      pub remove_line : a ≡ remove_of zb lb zone setting
      unfolding remove_of
      remove_line = a-is ∙ rw (eq-eqb zone 0 h) refl

      pub line_loses : {o : List ℕ} → o ≡ after a no_entry_bytes lb → o ≡ line_removed zb lb zone setting
      unfolding line_removed line_after
      line_loses o_is = o_is ∙ rw (← remove_line, eq-eqb zone 0 h) refl

  module _ (h : zone ≡ 0 → ⊥) where
    pub line_left : lb ≡ line_removed zb lb zone setting
    unfolding line_removed line_after
    line_left = rw (ne_eqb zone 0 h) refl

    module _ {a : Changed} (a-is : a ≡ remove_in false zb zone setting) where
      pub remove_zone : a ≡ remove_of zb lb zone setting
      unfolding remove_of
      remove_zone = a-is ∙ rw (ne_eqb zone 0 h) refl

      pub zone_loses : {o : List ℕ} → o ≡ after a no_entry_bytes zb → o ≡ zone_removed zb lb zone setting
      unfolding zone_removed zone_after
      zone_loses o_is = o_is ∙ rw (← remove_zone, ne_eqb zone 0 h) refl
