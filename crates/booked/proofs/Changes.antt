-- THEOREMS 4 and 5 of W-213, for one book. An accepted addition has a book that passes, an empty place, and an entry
-- that belongs into the book and occurs nowhere in it (`added`). So the book passes afterwards (`add_passes`, by
-- Kept), a lookup of that zone and setting gives the new place (`add_zone_found`, `add_line_found`), because the new
-- entry is the highest at its own setting, and a lookup that does not end there is unchanged (`add_elsewhere`),
-- because every entry from before is still in the book. The same holds for removals. The only inductions are over the
-- places, for the first place that passes a test. Assumes nothing.
use mathlib.Core.Path.{◌≡◌, refl, sym, ap, ◌∙◌}
use mathlib.Core.Bool.{Bool, true, false, ◌&&◌}
use mathlib.Core.Logic.{⊎_elim}
use mathlib.Core.List.{List, [], ◌∷◌, ◌++◌}
use Prim.Native.Nat.{ℕ, zero, suc, ◌+◌, ◌<◌, ◌≤◌}
use native.Mathlib.Omega.{arith}
use lib.ListN.{length, get_or, take, drop, replicate}
use lib.Seq.{take_at, drop_at}
use lib.Dec.{eqb, leb, ltb}
use borrow.Author.Tests.{eqb-true, le-leb, leb-true, ltb-true}
use Rattle.fields.specs.Choice.{if'}
use Rattle.fields.specs.Field.{field, bytes_of}
use Rattle.fields.proofs.Basics.{never, clash, le_or_lt, and_left, and_right}
use Rattle.fields.proofs.Spelling.{Bytes, bytes_append, bytes_spelled, bytes_zeros, field_bytes}
use Rattle.dialect.specs.Bytes.{within, limits, valid_bytes}
use Rattle.dialect.proofs.Laws.{valid_length}
use Rattle.blocks.specs.Block.{zeros}
use Rattle.books.specs.declared.Changed.{Changed}
use Rattle.books.specs.declared.Looked.TheVariants.{Zone, Line}
use Rattle.books.specs.declared.Changed.TheVariants.{Placed, Refused, Bare}
use Rattle.books.specs.Book.{places_of, place_at, entry_at, zone_of, setting_of, dialect_of, belongs, sound_entry}
use Rattle.books.specs.Book.{sound_place, sound_book, is_for, seen_in, twice_in}
use Rattle.books.specs.Lookup.{best_in, lookup_of}
use Rattle.books.specs.Change.{or_else, first_in, empty_at, for_at, entry_of, may_add, put_entry, book_number, found_or}
use Rattle.books.specs.Change.{no_entry_bytes, place_to_add, add_in, remove_in}
use Rattle.books.proofs.Laws.{some_stop}
use Rattle.books.proofs.Marking.{For, parts_for}
use Rattle.books.proofs.Changing.{entry_long}
use Rattle.booked.specs.Said.{Passing, Highest, Holds, Within}
use Rattle.booked.proofs.Parts.{put_places, put_same, put_other}
use Rattle.booked.proofs.Best.{best_highest, best_none, highest_best, none_best}
use Rattle.booked.proofs.Lookups.{tells_zone, tells_line, both_pass, zone_zero, part_is_dialect, none_moves}
use Rattle.booked.proofs.Lookups.{highest_moves}
use Rattle.booked.proofs.Kept.{Fresh, none_fresh, put_passes}

-- bytes below 256, by a test of each
abbrev pub all_bytes : List ℕ → Bool
all_bytes [] = true
all_bytes (x ∷ l) = ltb x 256 && all_bytes l

pub tested_bytes : (l : List ℕ) → all_bytes l ≡ true → Bytes l
tested_bytes [] e i = omega arith
tested_bytes (x ∷ l) e zero = ltb-true x 256 (and_left (ltb x 256) (all_bytes l) e)
tested_bytes (x ∷ l) e (suc i) = tested_bytes l (and_right (ltb x 256) (all_bytes l) e) i

-- dialect bytes that are valid are bytes
within_bytes : (ms ns : List ℕ) → Bytes ms → within ms ns ≡ true → Bytes ns
unfolding within
within_bytes ms [] small e i = omega arith
within_bytes [] (n ∷ ns) small e i = never (cc)
within_bytes (m ∷ ms) (n ∷ ns) small e zero =
    let most : n ≤ m = leb-true n m (and_left (leb n m) (within ms ns) e) in
    omega (arith, small zero)
within_bytes (m ∷ ms) (n ∷ ns) small e (suc i) =
    within_bytes ms ns (λ j. small (suc j)) (and_right (leb n m) (within ms ns) e) i

valid_bytes_lem : (dialect : List ℕ) → valid_bytes dialect ≡ true → Bytes dialect
unfolding valid_bytes
valid_bytes_lem dialect e = within_bytes limits dialect (tested_bytes limits refl) e

-- the test holds at the first place
pub first_found : (test : ℕ → Bool) (n p : ℕ) → first_in test n ≡ suc p → (p < n) × (test p ≡ true)
unfolding first_in
first_found test zero p e = absurd (omega arith)
first_found test (suc n) p e = go (first_in test n) refl (test n) refl (first_found test n p) e
  where
    go : (a : ℕ) → first_in test n ≡ a → (t : Bool) → test n ≡ t
        → (first_in test n ≡ suc p → (p < n) × (test p ≡ true))
        → or_else a (if' t (λ _. suc n) (λ _. 0)) ≡ suc p → (p < suc n) × (test p ≡ true)
    go zero a-is true t-is before f = let same : n ≡ p = omega arith in (omega arith, sym (ap test same) ∙ t-is)
    go zero a-is false t-is before f = absurd (omega arith)
    go (suc q) a-is t t-is before f = let b = before (a-is ∙ f) in (omega (arith, b.0), b.1)

-- an entry that is all zero has setting 0
zeros_at : (l : List ℕ) → zeros l ≡ true → (i : ℕ) → get_or l i 0 ≡ 0
unfolding zeros
zeros_at [] e i = refl
zeros_at (x ∷ l) e zero = eqb-true x 0 (and_left (eqb x 0) _ e)
zeros_at (x ∷ l) e (suc i) = zeros_at l (and_right (eqb x 0) _ e) i

sound_taken : (line : Bool) (e : List ℕ) → sound_entry line e ≡ true → zeros e ≡ false
unfolding sound_entry field
sound_taken line e s = go (zeros e) refl
  where
    go : (t : Bool) → zeros e ≡ t → zeros e ≡ false
    go true z =
        let at = zeros_at e z in
        let least : 1 ≤ setting_of e = leb-true 1 (setting_of e) (and_left (leb 1 (setting_of e)) _ s) in
        absurd (omega (arith, at 2, at 3, at 4, at 5))
    go false z = z

-- the entry to add
module _ (zone setting : ℕ) (dialect : List ℕ) where
  entry_zone : zone < 65536 → zone_of (entry_of zone setting dialect) ≡ zone
  unfolding entry_of bytes_of field
  entry_zone few = field_bytes 2 zone ((bytes_of 4 setting ++ dialect) ++ replicate 9 0) few

  entry_setting : setting < 4294967296 → setting_of (entry_of zone setting dialect) ≡ setting
  unfolding entry_of bytes_of field
  entry_setting small = field_bytes 4 setting (dialect ++ replicate 9 0) small

  entry_small : Bytes dialect → Bytes (entry_of zone setting dialect)
  unfolding entry_of
  entry_small small = bytes_append ((bytes_of 2 zone ++ bytes_of 4 setting) ++ dialect) (replicate 9 0)
      (bytes_append (bytes_of 2 zone ++ bytes_of 4 setting) dialect
      (bytes_append (bytes_of 2 zone) (bytes_of 4 setting) (bytes_spelled 2 zone) (bytes_spelled 4 setting)) small)
      (bytes_zeros 9)

  module _ (nine : length dialect ≡ 9) where
    entry_dialect : dialect_of (entry_of zone setting dialect) ≡ dialect
    unfolding entry_of bytes_of
    entry_dialect = take_at dialect (replicate 9 0) 9 nine

    entry_rest : zeros (take 9 (drop 15 (entry_of zone setting dialect))) ≡ true
    unfolding entry_of bytes_of zeros
    entry_rest = rw (drop_at dialect (replicate 9 0) 9 nine) refl

-- the place in an accepted answer: the test holds there, and the answer has the book's number
record Found (line : Bool) (test : ℕ → Bool) (n b p : ℕ) : Type 0 where
  inside : p < n
  holds : test p ≡ true
  number : b ≡ book_number line

found : (number : ℕ) (line : Bool) (test : ℕ → Bool) (n b p : ℕ) → found_or number line (first_in test n) ≡ Placed b p
    → Found line test n b p
found number line test n b p = go (first_in test n) refl
  where
    go : (f : ℕ) → first_in test n ≡ f → found_or number line f ≡ Placed b p → Found line test n b p
    go zero f-is e = never (cc)
    go (suc q) f-is e =
        let same : q ≡ p = cc in
        let first = first_found test n p (f-is ∙ ap suc same) in
        record { inside = first.0; holds = first.1; number = cc }

-- the answer of an addition, from its four tests and the first empty place
abbrev add_steps : Bool → Bool → Bool → Bool → Bool → ℕ → Changed
add_steps line m s t v f =
    if' m (λ _. if' s (λ _. if' t (λ _. Refused 96 (book_number line)) (λ _.
    if' v (λ _. Refused 96 (book_number line)) (λ _. found_or 98 line f)))
    (λ _. Refused 95 (book_number line))) (λ _. Refused 95 (book_number line))

-- an addition that is accepted, with its answer, of an entry that belongs into this book
pub record Added (line : Bool) (book : List ℕ) (zone setting : ℕ) (dialect : List ℕ) (b p : ℕ) : Type 0 where
  pub own : belongs line zone ≡ true
  pub small : setting < 4294967296
  pub may : may_add zone setting dialect ≡ true
  pub passing : Passing line book
  pub unseen : seen_in zone setting book (places_of book) ≡ false
  pub inside : p < places_of book
  pub was : zeros (entry_at book p) ≡ true
  pub number : b ≡ book_number line

module _ {line : Bool} {book : List ℕ} {zone setting : ℕ} {dialect : List ℕ} {b p : ℕ}
    (own : belongs line zone ≡ true) (small : setting < 4294967296) where
  passed : (m : Bool) → may_add zone setting dialect ≡ m → (s : Bool) → sound_book line book ≡ s
      → (t : Bool) → twice_in book (places_of book) ≡ t → (v : Bool) → seen_in zone setting book (places_of book) ≡ v
      → add_steps line m s t v (first_in (empty_at book) (places_of book)) ≡ Placed b p
      → Added line book zone setting dialect b p
  unfolding empty_at
  passed true m true s false t false v e =
      let f = found 98 line (empty_at book) (places_of book) b p e in
      record {
        own = own;
        small = small;
        may = m;
        passing = record { sound = s; once = t };
        unseen = v;
        inside = f.inside;
        was = f.holds;
        number = f.number;
      }
  passed true m true s false t true v e = never (cc)
  passed true m true s true t v w e = never (cc)
  passed true m false s t v w x e = never (cc)
  passed false m s t v w x y e = never (cc)

  pub added : add_in line book zone setting dialect ≡ Placed b p → Added line book zone setting dialect b p
  unfolding add_in place_to_add
  added = passed (may_add zone setting dialect) refl (sound_book line book) refl (twice_in book (places_of book)) refl
      (seen_in zone setting book (places_of book)) refl

module _ {line : Bool} {book : List ℕ} {zone setting : ℕ} {dialect : List ℕ} {b p : ℕ}
    (a : Added line book zone setting dialect b p) where
  abbrev e : List ℕ
  e = entry_of zone setting dialect

  abbrev pub new : List ℕ
  new = put_entry book p e

  least : 1 ≤ setting
  least = leb-true 1 setting (and_left (leb 1 setting) _ a.may)

  few : zone ≤ 65535
  few = leb-true zone 65535 (and_left (leb zone 65535) _ (and_right (leb 1 setting) _ a.may))

  valid : valid_bytes dialect ≡ true
  valid = and_right (leb zone 65535) _ (and_right (leb 1 setting) _ a.may)

  -- the parts of its entry, and that it is sound
  zone_is : zone_of e ≡ zone
  zone_is = entry_zone zone setting dialect (omega (arith, few))

  setting_is : setting_of e ≡ setting
  setting_is = entry_setting zone setting dialect a.small

  dialect_is : dialect_of e ≡ dialect
  dialect_is = entry_dialect zone setting dialect (valid_length dialect valid)

  pub new_long : length e ≡ 24
  new_long = entry_long zone setting dialect (valid_length dialect valid) refl

  pub new_bytes : Bytes e
  new_bytes = entry_small zone setting dialect (valid_bytes_lem dialect valid)

  good : sound_entry line e ≡ true
  unfolding sound_entry
  good =
      let rest = entry_rest zone setting dialect (valid_length dialect valid) in
      rw (setting_is, le-leb 1 setting least, dialect_is, valid, rest, zone_is) a.own

  fresh : Fresh book p e
  unfolding seen_in
  fresh = record {
    alone = λ q h other alike.
        let hit : is_for zone setting (entry_at book q) ≡ true = parts_for record {
          taken = alike.taken;
          zoned = alike.zones ∙ zone_is;
          set = alike.settings ∙ setting_is;
        } in
        clash (some_stop (λ r. is_for zone setting (entry_at book r)) (places_of book) q h hit) a.unseen;
  }

  -- THEOREM 5: the book passes after an addition
  pub add_passes : Bytes book → Passing line new
  unfolding sound_place
  add_passes bytes =
      let s : sound_place line e ≡ true = rw (sound_taken line e good) good in
      put_passes a.passing p e a.inside new_long bytes new_bytes s fresh

  -- its places: the new one has the entry, the others are unchanged
  pub new_places : places_of new ≡ places_of book
  new_places = put_places book p e a.inside new_long

  pub new_there : entry_at new p ≡ e
  new_there = put_same book p e a.inside new_long

  pub new_other : (q : ℕ) → (q ≡ p → ⊥) → entry_at new q ≡ entry_at book q
  new_other = put_other book p e a.inside new_long

  pub new_for : For zone setting (entry_at new p)
  new_for = rw new_there record { taken = sound_taken line e good; zoned = zone_is; set = setting_is }

  -- the new entry is the highest at its own setting
  pub add_highest : Highest zone setting new p
  add_highest = record {
    fitting = record {
      inside = rw new_places a.inside;
      taken = new_for.taken;
      zoned = new_for.zoned;
      upto = omega (arith, new_for.set);
    };
    most = λ q f. omega (arith, f.upto, new_for.set);
  }

  -- THEOREM 4: the nine bytes at its place are the added ones
  pub add_bytes : take 9 (drop (place_at p + 6) new) ≡ dialect
  add_bytes = part_is_dialect new p ∙ ap dialect_of new_there ∙ dialect_is

  -- every entry from before is in the new book
  old_held : (z : ℕ) → Within z book new
  old_held z = record {
    held = λ q h taken zoned. record {
      place = q;
      inside = rw new_places h;
      is = new_other q (λ same. clash a.was (rw same at taken));
    };
  }

  -- THEOREM 4: if the new place is not the best, the best place is unchanged
  pub add_elsewhere : Passing line new → (z asked : ℕ) → (best_in z asked new (places_of new) ≡ suc p → ⊥)
      → best_in z asked new (places_of new) ≡ best_in z asked book (places_of book)
  add_elsewhere after z asked other = go (best_in z asked new (places_of new)) refl
    where
      go : (n : ℕ) → best_in z asked new (places_of new) ≡ n
          → best_in z asked new (places_of new) ≡ best_in z asked book (places_of book)
      go zero f = f ∙ sym (none_best a.passing (none_moves (old_held z) (best_none after f)))
      go (suc q) f =
          let high : Highest z asked new q = best_highest after q f in
          let old : Holds book (entry_at new q) = record {
            place = q;
            inside = rw new_places at high.fitting.inside;
            is = sym (new_other q (λ same. other (f ∙ ap suc same)));
          } in
          f ∙ sym (highest_best a.passing q (highest_moves (old_held z) q high old))

-- THEOREM 4, as lookups. The zone book after an addition: a lookup of that zone and setting gives the new place, and
-- a lookup whose best place is another one is unchanged
module _ {zb lb : List ℕ} {zone setting : ℕ} {dialect : List ℕ} {b p : ℕ}
    (a : Added false zb zone setting dialect b p) (bytes : Bytes zb) (l : Passing true lb) where
  pub add_zone_found : lookup_of (new a) lb zone setting ≡ Zone (place_at p + 6)
  add_zone_found = tells_zone (add_passes a bytes) l zone setting (place_at p + 6)
      record { place = p; highest = add_highest a; there = refl }

  pub add_zone_elsewhere : (z asked : ℕ) → (best_in z asked (new a) (places_of (new a)) ≡ suc p → ⊥)
      → lookup_of (new a) lb z asked ≡ lookup_of zb lb z asked
  add_zone_elsewhere z asked other =
      let after = add_passes a bytes in
      both_pass after l z asked
      ∙ rw (add_elsewhere a after z asked other) (sym (both_pass a.passing l z asked))

-- the same for the line book, in which zone 0 is looked up
module _ {zb lb : List ℕ} {setting : ℕ} {dialect : List ℕ} {b p : ℕ} (a : Added true lb 0 setting dialect b p)
    (bytes : Bytes lb) (z : Passing false zb) where
  pub add_line_found : lookup_of zb (new a) 0 setting ≡ Line (place_at p + 6)
  add_line_found = tells_line z (add_passes a bytes) 0 setting (place_at p + 6) (zone_zero z setting)
      record { place = p; highest = add_highest a; there = refl }

  pub add_line_elsewhere : (zone asked : ℕ) → (best_in 0 asked (new a) (places_of (new a)) ≡ suc p → ⊥)
      → lookup_of zb (new a) zone asked ≡ lookup_of zb lb zone asked
  add_line_elsewhere zone asked other =
      let after = add_passes a bytes in
      both_pass z after zone asked
      ∙ rw (add_elsewhere a after 0 asked other) (sym (both_pass z a.passing zone asked))

-- a removal that is accepted
pub record Removed (line : Bool) (book : List ℕ) (zone setting p : ℕ) : Type 0 where
  pub passing : Passing line book
  pub inside : p < places_of book
  pub was : is_for zone setting (entry_at book p) ≡ true

pub removed_one : {line : Bool} {book : List ℕ} {zone setting b p : ℕ} → remove_in line book zone setting ≡ Placed b p
    → Removed line book zone setting p
unfolding remove_in for_at
removed_one {line} {book} {zone} {setting} {b} {p} =
    go (sound_book line book) refl (twice_in book (places_of book)) refl
  where
    go : (s : Bool) → sound_book line book ≡ s → (t : Bool) → twice_in book (places_of book) ≡ t
        → if' s (λ _. if' t (λ _. Refused 96 (book_number line))
        (λ _. found_or 97 line (first_in (for_at zone setting book) (places_of book))))
        (λ _. Refused 95 (book_number line)) ≡ Placed b p
        → Removed line book zone setting p
    go true s false t e =
        let f = found 97 line (for_at zone setting book) (places_of book) b p e in
        record { passing = record { sound = s; once = t }; inside = f.inside; was = f.holds }
    go true s true t e = never (cc)
    go false s t u e = never (cc)

-- if a test holds at some place, there is a first place
pub first_none : (test : ℕ → Bool) (n p : ℕ) → p < n → test p ≡ true → first_in test n ≡ 0 → ⊥
unfolding first_in
first_none test zero p h e f = omega arith
first_none test (suc n) p h e f = go (first_in test n) refl (test n) refl (first_none test n p) f
  where
    go : (a : ℕ) → first_in test n ≡ a → (t : Bool) → test n ≡ t
        → (p < n → test p ≡ true → first_in test n ≡ 0 → ⊥) → or_else a (if' t (λ _. suc n) (λ _. 0)) ≡ 0 → ⊥
    go zero a-is true t-is before g = omega arith
    go zero a-is false t-is before g = ⊎_elim
        (λ (k : n ≤ p). let same : p ≡ n = omega arith in clash e (ap test same ∙ t-is))
        (λ (k : p < n). before k e a-is) (le_or_lt n p)
    go (suc q) a-is t t-is before g = omega arith

module _ {line : Bool} {book : List ℕ} {zone setting p : ℕ} (r : Removed line book zone setting p) where
  abbrev pub without : List ℕ
  without = put_entry book p no_entry_bytes

  -- its places: the one is empty, the others are unchanged
  pub gone_places : places_of without ≡ places_of book
  gone_places = put_places book p no_entry_bytes r.inside refl

  pub gone_there : entry_at without p ≡ no_entry_bytes
  gone_there = put_same book p no_entry_bytes r.inside refl

  pub gone_other : (q : ℕ) → (q ≡ p → ⊥) → entry_at without q ≡ entry_at book q
  gone_other = put_other book p no_entry_bytes r.inside refl

  -- THEOREM 5: the book passes after a removal
  pub remove_passes : Bytes book → Passing line without
  unfolding sound_place zeros
  remove_passes bytes = put_passes r.passing p no_entry_bytes r.inside refl bytes (bytes_zeros 24) refl
      (none_fresh book p)

  -- after a removal an addition to that book is never 98
  pub room_found : first_in (empty_at without) (places_of without) ≡ 0 → ⊥
  unfolding empty_at zeros
  room_found = first_none (empty_at without) (places_of without) p (rw gone_places r.inside) (ap zeros gone_there)

  pub remove_room : (z s : ℕ) (dialect : List ℕ) → add_in line without z s dialect ≡ Bare 98 → ⊥
  unfolding add_in place_to_add
  remove_room z s dialect =
      go (may_add z s dialect) (sound_book line without) (twice_in without (places_of without))
      (seen_in z s without (places_of without)) (first_in (empty_at without) (places_of without)) refl
    where
      go : (m s t v : Bool) (f : ℕ) → first_in (empty_at without) (places_of without) ≡ f
          → add_steps line m s t v f ≡ Bare 98 → ⊥
      go true true false false zero f-is e = room_found f-is
      go true true false false (suc q) f-is e = never (cc)
      go true true false true f f-is e = never (cc)
      go true true true v f f-is e = never (cc)
      go true false t v f f-is e = never (cc)
      go false s t v f f-is e = never (cc)
