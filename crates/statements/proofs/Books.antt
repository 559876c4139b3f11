-- W-213: DIALECTS BY ZONE AND EDITION
--
-- Theorems of the crate `booked` about the contracts of `books`: the answers are `lookup_of`, `add_of` and `remove_of`,
-- and the books at exit `zone_added`, `line_added`, `zone_removed` and `line_removed`. A book passes 95 and 96 if
-- `sound_book` is true and `twice_in` is false. The setting is the edition of an entry. Each statement is proved by
-- citing the theorem. Assumes nothing.
use mathlib.Core.Path.{◌≡◌, refl}
use mathlib.Core.Bool.{Bool, true, false}
use mathlib.Core.Logic.{◌⊎◌}
use mathlib.Core.List.{List, []}
use Prim.Native.Nat.{ℕ, suc, ◌+◌, ◌*◌, ◌/◌, ◌<◌, ◌≤◌}
use lib.ListN.{length, get_or, take, drop}
use Rattle.fields.specs.Choice.{if'}
use Rattle.blocks.specs.Block.{zeros}
use Rattle.books.specs.declared.Looked.{Looked}
use Rattle.books.specs.declared.Looked.TheVariants.{Zone, Line, Nothing}
use Rattle.books.specs.declared.Looked.TheVariants as looks
use Rattle.books.specs.declared.Changed.TheVariants.{Placed, Bare}
use Rattle.books.specs.Book.{places_of, place_at, entry_at, zone_of, setting_of, dialect_of, sound_book, twice_in}
use Rattle.books.specs.Lookup.{best_in, lookup_of, part_of}
use Rattle.books.specs.Change.{book_number, is_line, add_of, zone_added, line_added, remove_of, zone_removed, line_removed}
use Rattle.books.specs.Change.{blank_of, blank_after}
use Rattle.booked.specs.Said.{book_of}
use Rattle.booked.proofs.Lookups as theorem
use Rattle.booked.proofs.Back as theorem_back
use Rattle.booked.proofs.Booked as theorem_both

-- "gets back the nine bytes as they stand in the zone book": one direction
-- In words: if a lookup returns a position in the zone book, both books pass, and the position is that of an entry of
-- this zone whose setting is not above the requested one, and no such entry has a higher setting.
pub zone_book_tells : (zb lb : List ℕ) (zone asked at : ℕ)
    → lookup_of zb lb zone asked ≡ Zone at
    → ((sound_book false zb ≡ true) × (twice_in zb (places_of zb) ≡ false))
    × (((sound_book true lb ≡ true) × (twice_in lb (places_of lb) ≡ false))
    × ((p : ℕ)
    × ((at ≡ place_at p + 6)
    × ((p < places_of zb)
    × ((zeros (entry_at zb p) ≡ false)
    × ((zone_of (entry_at zb p) ≡ zone)
    × ((setting_of (entry_at zb p) ≤ asked)
    × ((q : ℕ)
    → q < places_of zb
    → zeros (entry_at zb q) ≡ false
    → zone_of (entry_at zb q) ≡ zone
    → setting_of (entry_at zb q) ≤ asked
    → setting_of (entry_at zb q) ≤ setting_of (entry_at zb p)))))))))
zone_book_tells zb lb zone asked at e =
    let two = theorem.zone_passing zb lb zone asked at e in
    let t = theorem.zone_tells two.0 two.1 zone asked at e in
    let f = t.highest.fitting in (
      (two.0.sound, two.0.once),
      (
        (two.1.sound, two.1.once),
        (
          t.place,
          (
            t.there,
            (
              f.inside,
              (
                f.taken,
                (
                  f.zoned,
                  (f.upto, λ q a b c d. t.highest.most q record { inside = a; taken = b; zoned = c; upto = d }),
                ),
              ),
            ),
          ),
        ),
      ),
    )

-- the converse
-- In words: if both books pass, and an entry of this zone in the zone book has a setting not above the requested one,
-- and no such entry has a higher setting, the lookup returns the position of its nine bytes.
pub zone_book_told : (zb lb : List ℕ) (zone asked p : ℕ)
    → sound_book false zb ≡ true
    → twice_in zb (places_of zb) ≡ false
    → sound_book true lb ≡ true
    → twice_in lb (places_of lb) ≡ false
    → p < places_of zb
    → zeros (entry_at zb p) ≡ false
    → zone_of (entry_at zb p) ≡ zone
    → setting_of (entry_at zb p) ≤ asked
    → ((q : ℕ)
    → q < places_of zb
    → zeros (entry_at zb q) ≡ false
    → zone_of (entry_at zb q) ≡ zone
    → setting_of (entry_at zb q) ≤ asked
    → setting_of (entry_at zb q) ≤ setting_of (entry_at zb p))
    → lookup_of zb lb zone asked ≡ Zone (place_at p + 6)
zone_book_told zb lb zone asked p s o u v h taken zoned upto most =
    theorem.tells_zone record { sound = s; once = o } record { sound = u; once = v } zone asked (place_at p + 6)
    record {
      place = p;
      highest = record {
        fitting = record { inside = h; taken = taken; zoned = zoned; upto = upto };
        most = λ q f. most q f.inside f.taken f.zoned f.upto;
      };
      there = refl;
    }

-- "or, if it has none, in the line book"
-- In words: if a lookup returns a position in the line book, the zone book has no fitting entry, and the position is
-- that of the line's entry whose setting is not above the requested one, and no such entry has a higher setting.
pub line_book_tells : (zb lb : List ℕ) (zone asked at : ℕ)
    → lookup_of zb lb zone asked ≡ Line at
    → ((q : ℕ)
    → q < places_of zb
    → zeros (entry_at zb q) ≡ false
    → zone_of (entry_at zb q) ≡ zone
    → setting_of (entry_at zb q) ≤ asked
    → ⊥)
    × ((p : ℕ)
    × ((at ≡ place_at p + 6)
    × ((p < places_of lb)
    × ((zeros (entry_at lb p) ≡ false)
    × ((zone_of (entry_at lb p) ≡ 0)
    × ((setting_of (entry_at lb p) ≤ asked)
    × ((r : ℕ)
    → r < places_of lb
    → zeros (entry_at lb r) ≡ false
    → zone_of (entry_at lb r) ≡ 0
    → setting_of (entry_at lb r) ≤ asked
    → setting_of (entry_at lb r) ≤ setting_of (entry_at lb p))))))))
line_book_tells zb lb zone asked at e =
    let two = theorem.line_passing zb lb zone asked at e in
    let both = theorem.line_tells two.0 two.1 zone asked at e in
    let t = both.1 in
    let f = t.highest.fitting in (
      λ q a b c d. both.0 q record { inside = a; taken = b; zoned = c; upto = d },
      (
        t.place,
        (
          t.there,
          (
            f.inside,
            (
              f.taken,
              (
                f.zoned,
                (
                  f.upto,
                  λ r a b c d. t.highest.most r record { inside = a; taken = b; zoned = c; upto = d },
                ),
              ),
            ),
          ),
        ),
      ),
    )

-- the converse
-- In words: if both books pass, no entry of the zone book fits, and an entry of the line book has a setting not above
-- the requested one, and no such entry has a higher setting, the lookup returns the position of its nine bytes in the
-- line book.
pub line_book_told : (zb lb : List ℕ) (zone asked p : ℕ)
    → sound_book false zb ≡ true
    → twice_in zb (places_of zb) ≡ false
    → sound_book true lb ≡ true
    → twice_in lb (places_of lb) ≡ false
    → ((r : ℕ)
    → r < places_of zb
    → zeros (entry_at zb r) ≡ false
    → zone_of (entry_at zb r) ≡ zone
    → setting_of (entry_at zb r) ≤ asked
    → ⊥)
    → p < places_of lb
    → zeros (entry_at lb p) ≡ false
    → zone_of (entry_at lb p) ≡ 0
    → setting_of (entry_at lb p) ≤ asked
    → ((q : ℕ)
    → q < places_of lb
    → zeros (entry_at lb q) ≡ false
    → zone_of (entry_at lb q) ≡ 0
    → setting_of (entry_at lb q) ≤ asked
    → setting_of (entry_at lb q) ≤ setting_of (entry_at lb p))
    → lookup_of zb lb zone asked ≡ Line (place_at p + 6)
line_book_told zb lb zone asked p s o u v none h taken zoned upto most =
    theorem.tells_line record { sound = s; once = o } record { sound = u; once = v } zone asked (place_at p + 6)
    (λ r f. none r f.inside f.taken f.zoned f.upto)
    record {
      place = p;
      highest = record {
        fitting = record { inside = h; taken = taken; zoned = zoned; upto = upto };
        most = λ q f. most q f.inside f.taken f.zoned f.upto;
      };
      there = refl;
    }

-- "97 no fitting entry in either book"
-- In words: a lookup answers 97 only if neither book has a fitting entry, and if both books pass and neither has one it
-- does.
pub nothing_fits : (zb lb : List ℕ) (zone asked : ℕ)
    → (lookup_of zb lb zone asked ≡ Nothing
    → ((q : ℕ)
    → q < places_of zb
    → zeros (entry_at zb q) ≡ false
    → zone_of (entry_at zb q) ≡ zone
    → setting_of (entry_at zb q) ≤ asked
    → ⊥)
    × ((r : ℕ)
    → r < places_of lb
    → zeros (entry_at lb r) ≡ false
    → zone_of (entry_at lb r) ≡ 0
    → setting_of (entry_at lb r) ≤ asked
    → ⊥))
    × (sound_book false zb ≡ true
    → twice_in zb (places_of zb) ≡ false
    → sound_book true lb ≡ true
    → twice_in lb (places_of lb) ≡ false
    → ((j : ℕ)
    → j < places_of zb
    → zeros (entry_at zb j) ≡ false
    → zone_of (entry_at zb j) ≡ zone
    → setting_of (entry_at zb j) ≤ asked
    → ⊥)
    → ((k : ℕ)
    → k < places_of lb
    → zeros (entry_at lb k) ≡ false
    → zone_of (entry_at lb k) ≡ 0
    → setting_of (entry_at lb k) ≤ asked
    → ⊥)
    → lookup_of zb lb zone asked ≡ Nothing)
nothing_fits zb lb zone asked = (
  λ e.
      let two = theorem.nothing_passing zb lb zone asked e in
      let none = theorem.nothing_fits two.0 two.1 zone asked e in (
        λ q a b c d. none.0 q record { inside = a; taken = b; zoned = c; upto = d },
        λ r a b c d. none.1 r record { inside = a; taken = b; zoned = c; upto = d },
      ),
  λ s o u v f g. theorem.fits_nothing record { sound = s; once = o } record { sound = u; once = v } zone asked
      (λ q h. f q h.inside h.taken h.zoned h.upto) (λ r h. g r h.inside h.taken h.zoned h.upto),
)

-- "gets back the nine bytes as they stand", "A refusal gives back no bytes"
-- In words: the part is the nine bytes at the returned position of the book, and empty if the lookup refuses.
pub part_is : (zb lb : List ℕ) (answer : Looked)
    → ((at : ℕ) → answer ≡ Zone at → part_of answer zb lb ≡ take 9 (drop at zb))
    × (((below : ℕ) → answer ≡ Line below → part_of answer zb lb ≡ take 9 (drop below lb))
    × (((n b : ℕ) → answer ≡ looks.Refused n b → part_of answer zb lb ≡ []) × (answer ≡ Nothing
    → part_of answer zb lb ≡ [])))
part_is zb lb answer = (
  λ at e. theorem.part_in_zone zb lb e,
  (
    λ below e. theorem.part_in_line zb lb e,
    (
      λ n b e. theorem.part_away zb lb e,
      λ e. theorem.part_of_nothing zb lb e,
    ),
  ),
)

-- "Changing entries of other zones changes nothing that this zone is told by a lookup"
-- In words: two zone books that pass with the line book, and which hold the same entries of this zone, at whatever
-- places, give the same bytes or none.
pub other_zones_change_nothing : (a b lb : List ℕ) (zone asked : ℕ)
    → sound_book false a ≡ true
    → twice_in a (places_of a) ≡ false
    → sound_book false b ≡ true
    → twice_in b (places_of b) ≡ false
    → sound_book true lb ≡ true
    → twice_in lb (places_of lb) ≡ false
    → ((p : ℕ)
    → p < places_of a
    → zeros (entry_at a p) ≡ false
    → zone_of (entry_at a p) ≡ zone
    → (q : ℕ) × ((q < places_of b) × (entry_at b q ≡ entry_at a p)))
    → ((r : ℕ)
    → r < places_of b
    → zeros (entry_at b r) ≡ false
    → zone_of (entry_at b r) ≡ zone
    → (s : ℕ) × ((s < places_of a) × (entry_at a s ≡ entry_at b r)))
    → part_of (lookup_of a lb zone asked) a lb ≡ part_of (lookup_of b lb zone asked) b lb
other_zones_change_nothing a b lb zone asked sa oa sb ob sl ol to back =
    theorem.same_part record { sound = sa; once = oa } record { sound = sb; once = ob } record { sound = sl; once = ol }
    zone asked
    record { held = λ p h t z. let w = to p h t z in record { place = w.0; inside = w.1.0; is = w.1.1 } }
    record { held = λ r h t z. let w = back r h t z in record { place = w.0; inside = w.1.0; is = w.1.1 } }

-- the same book and position, if the entries keep their places
-- In words: if each entry of this zone in one of the two zone books is at the same place in the other, the two lookups
-- give the same answer.
pub same_place : (a b lb : List ℕ) (zone asked : ℕ)
    → sound_book false a ≡ true
    → twice_in a (places_of a) ≡ false
    → sound_book false b ≡ true
    → twice_in b (places_of b) ≡ false
    → sound_book true lb ≡ true
    → twice_in lb (places_of lb) ≡ false
    → ((p : ℕ)
    → p < places_of a
    → zeros (entry_at a p) ≡ false
    → zone_of (entry_at a p) ≡ zone
    → (p < places_of b) × (entry_at b p ≡ entry_at a p))
    → ((r : ℕ)
    → r < places_of b
    → zeros (entry_at b r) ≡ false
    → zone_of (entry_at b r) ≡ zone
    → (r < places_of a) × (entry_at a r ≡ entry_at b r))
    → lookup_of a lb zone asked ≡ lookup_of b lb zone asked
same_place a b lb zone asked sa oa sb ob sl ol to back =
    theorem.same_place record { sound = sa; once = oa } record { sound = sb; once = ob } record
    { sound = sl; once = ol }
    zone asked record { kept = to } record { kept = back }

-- "after an addition the lookup at that zone and setting gives the bytes added"
-- In words: after an addition that is accepted at place p, if both books pass, the lookup at that zone and setting
-- returns the entry's book and the start of its dialect at place p, and the part that it returns is the dialect added.
pub added_is_told : (zb lb : List ℕ) (zone setting : ℕ) (dialect : List ℕ) (b p : ℕ)
    → add_of zb lb zone setting dialect ≡ Placed b p
    → setting < 4294967296
    → ((i : ℕ) → get_or zb i 0 < 256)
    → ((j : ℕ) → get_or lb j 0 < 256)
    → sound_book false zb ≡ true
    → twice_in zb (places_of zb) ≡ false
    → sound_book true lb ≡ true
    → twice_in lb (places_of lb) ≡ false
    → (lookup_of (zone_added zb lb zone setting dialect) (line_added zb lb zone setting dialect) zone setting
    ≡ if' (is_line zone) (λ _. Line (place_at p + 6)) (λ _. Zone (place_at p + 6)))
    × (part_of
    (lookup_of (zone_added zb lb zone setting dialect) (line_added zb lb zone setting dialect) zone setting)
    (zone_added zb lb zone setting dialect) (line_added zb lb zone setting dialect) ≡ dialect)
added_is_told zb lb zone setting dialect b p e small x y sz oz sl ol =
    theorem_both.added_found zb lb zone setting dialect b p e small x y
    record { zone = record { sound = sz; once = oz }; line = record { sound = sl; once = ol } }

-- "every lookup that does not reach it is as before"
-- In words: a lookup whose best place in the changed book is not the new entry gives the same answer as before.
pub added_elsewhere : (zb lb : List ℕ) (zone setting : ℕ) (dialect : List ℕ) (b p : ℕ)
    → add_of zb lb zone setting dialect ≡ Placed b p
    → setting < 4294967296
    → ((i : ℕ) → get_or zb i 0 < 256)
    → ((j : ℕ) → get_or lb j 0 < 256)
    → sound_book false zb ≡ true
    → twice_in zb (places_of zb) ≡ false
    → sound_book true lb ≡ true
    → twice_in lb (places_of lb) ≡ false
    → (z asked : ℕ)
    → (best_in (if' (is_line zone) (λ _. 0) (λ _. z)) asked
    (book_of zone (zone_added zb lb zone setting dialect) (line_added zb lb zone setting dialect))
    (places_of (book_of zone (zone_added zb lb zone setting dialect)
    (line_added zb lb zone setting dialect))) ≡ suc p
    → ⊥)
    → lookup_of (zone_added zb lb zone setting dialect) (line_added zb lb zone setting dialect) z asked
    ≡ lookup_of zb lb z asked
added_elsewhere zb lb zone setting dialect b p e small x y sz oz sl ol z asked other =
    theorem_both.added_elsewhere zb lb zone setting dialect b p e small x y
    record { zone = record { sound = sz; once = oz }; line = record { sound = sl; once = ol } } z asked other

-- "Removing what was just added restores the book byte for byte"
-- In words: the removal of an entry that was just added returns the same place, and both books are then as they were
-- before the addition.
pub added_then_removed : (zb lb : List ℕ) (zone setting : ℕ) (dialect : List ℕ) (b p : ℕ)
    → add_of zb lb zone setting dialect ≡ Placed b p
    → setting < 4294967296
    → ((i : ℕ) → get_or zb i 0 < 256)
    → ((j : ℕ) → get_or lb j 0 < 256)
    → (remove_of (zone_added zb lb zone setting dialect) (line_added zb lb zone setting dialect) zone setting
    ≡ Placed b p)
    × ((zone_removed (zone_added zb lb zone setting dialect) (line_added zb lb zone setting dialect) zone setting ≡ zb)
    × (line_removed (zone_added zb lb zone setting dialect) (line_added zb lb zone setting dialect) zone setting ≡ lb))
added_then_removed zb lb zone setting dialect b p e small x y =
    let r = theorem_both.added_removed zb lb zone setting dialect b p e small x y in
    (r.answered, (r.zone_book, r.line_book))

-- "adding what was just removed is accepted and gives the same set of entries"
-- In words: after a removal at place p, adding the same zone, setting and dialect is accepted, in the same book; the
-- book then has every entry that it had before the removal, and no other.
pub removed_then_added : (zb lb : List ℕ) (zone setting b p : ℕ)
    → remove_of zb lb zone setting ≡ Placed b p
    → setting < 4294967296
    → ((i : ℕ) → get_or zb i 0 < 256)
    → ((j : ℕ) → get_or lb j 0 < 256)
    → ((q : ℕ)
    × (add_of (zone_removed zb lb zone setting) (line_removed zb lb zone setting) zone setting
    (dialect_of (entry_at (book_of zone zb lb) p)) ≡ Placed (book_number (is_line zone)) q))
    × (((r : ℕ)
    → r < places_of (book_of zone zb lb)
    → zeros (entry_at (book_of zone zb lb) r) ≡ false
    → (k : ℕ)
    × ((k < places_of (book_of zone
    (zone_added (zone_removed zb lb zone setting) (line_removed zb lb zone setting) zone setting
    (dialect_of (entry_at (book_of zone zb lb) p)))
    (line_added (zone_removed zb lb zone setting) (line_removed zb lb zone setting) zone setting
    (dialect_of (entry_at (book_of zone zb lb) p)))))
    × (entry_at (book_of zone
    (zone_added (zone_removed zb lb zone setting) (line_removed zb lb zone setting) zone setting
    (dialect_of (entry_at (book_of zone zb lb) p)))
    (line_added (zone_removed zb lb zone setting) (line_removed zb lb zone setting) zone setting
    (dialect_of (entry_at (book_of zone zb lb) p)))) k ≡ entry_at (book_of zone zb lb) r)))
    × ((m : ℕ)
    → m < places_of (book_of zone
    (zone_added (zone_removed zb lb zone setting) (line_removed zb lb zone setting) zone setting
    (dialect_of (entry_at (book_of zone zb lb) p)))
    (line_added (zone_removed zb lb zone setting) (line_removed zb lb zone setting) zone setting
    (dialect_of (entry_at (book_of zone zb lb) p))))
    → zeros (entry_at (book_of zone
    (zone_added (zone_removed zb lb zone setting) (line_removed zb lb zone setting) zone setting
    (dialect_of (entry_at (book_of zone zb lb) p)))
    (line_added (zone_removed zb lb zone setting) (line_removed zb lb zone setting) zone setting
    (dialect_of (entry_at (book_of zone zb lb) p)))) m) ≡ false
    → (h : ℕ)
    × ((h < places_of (book_of zone zb lb))
    × (entry_at (book_of zone zb lb) h ≡ entry_at (book_of zone
    (zone_added (zone_removed zb lb zone setting) (line_removed zb lb zone setting) zone setting
    (dialect_of (entry_at (book_of zone zb lb) p)))
    (line_added (zone_removed zb lb zone setting) (line_removed zb lb zone setting) zone setting
    (dialect_of (entry_at (book_of zone zb lb) p)))) m))))
removed_then_added zb lb zone setting b p e small x y =
    let a = theorem_both.removed_added zb lb zone setting b p e small x y in (
      (a.place, a.accepts),
      (
        λ r g t. let w = a.there.held r g t in (w.place, (w.inside, w.is)),
        λ m g t. let w = a.back.held m g t in (w.place, (w.inside, w.is)),
      ),
    )

-- "After a removal an addition to that book is never 98"
-- In words: if the removed entry and the one to be added are both of zone 0 or both not, the addition after the removal
-- does not answer 98.
pub room_after_a_removal : (zb lb : List ℕ) (zone setting b p : ℕ)
    → remove_of zb lb zone setting ≡ Placed b p
    → (z s : ℕ) (dialect : List ℕ)
    → is_line z ≡ is_line zone
    → add_of (zone_removed zb lb zone setting) (line_removed zb lb zone setting) z s dialect ≡ Bare 98
    → ⊥
room_after_a_removal zb lb zone setting b p e z s dialect same f =
    theorem_both.removed_room zb lb zone setting b p e z s dialect same f

-- "Results pass 95 and 96"
-- In words: after an addition that is accepted the book of the entry passes 95 and 96.
pub added_passes : (zb lb : List ℕ) (zone setting : ℕ) (dialect : List ℕ) (b p : ℕ)
    → add_of zb lb zone setting dialect ≡ Placed b p
    → setting < 4294967296
    → ((i : ℕ) → get_or zb i 0 < 256)
    → ((j : ℕ) → get_or lb j 0 < 256)
    → (sound_book (is_line zone)
    (book_of zone (zone_added zb lb zone setting dialect) (line_added zb lb zone setting dialect)) ≡ true)
    × (twice_in
    (book_of zone (zone_added zb lb zone setting dialect) (line_added zb lb zone setting dialect))
    (places_of
    (book_of zone (zone_added zb lb zone setting dialect) (line_added zb lb zone setting dialect)))
    ≡ false)
added_passes zb lb zone setting dialect b p e small x y =
    let w = theorem_both.added_passes zb lb zone setting dialect b p e small x y in
    (w.sound, w.once)

-- the same for removals
-- In words: after a removal that is accepted the book of the entry passes 95 and 96.
pub removed_passes : (zb lb : List ℕ) (zone setting b p : ℕ)
    → remove_of zb lb zone setting ≡ Placed b p
    → ((i : ℕ) → get_or zb i 0 < 256)
    → ((j : ℕ) → get_or lb j 0 < 256)
    → (sound_book (is_line zone)
    (book_of zone (zone_removed zb lb zone setting) (line_removed zb lb zone setting)) ≡ true)
    × (twice_in (book_of zone (zone_removed zb lb zone setting) (line_removed zb lb zone setting))
    (places_of (book_of zone (zone_removed zb lb zone setting) (line_removed zb lb zone setting)))
    ≡ false)
removed_passes zb lb zone setting b p e x y =
    let w = theorem_both.removed_passes zb lb zone setting b p e x y in
    (w.sound, w.once)

-- a first book
-- In words: if a blank book is made, it passes 95 and 96 as a zone book and as a line book.
pub blank_passes : (line : Bool) (book : List ℕ)
    → blank_of (length book) ≡ 0
    → (sound_book line (blank_after book) ≡ true) × (twice_in (blank_after book) (places_of (blank_after book)) ≡ false)
blank_passes line book e = let w = theorem_both.blanked_passes line book e in (w.sound, w.once)

-- "only the place and its block's sum change"
-- In words: n bytes from j on that overlap neither the new entry's place nor the sum of its block are unchanged.
pub added_apart : (zb lb : List ℕ) (zone setting : ℕ) (dialect : List ℕ) (b p : ℕ)
    → add_of zb lb zone setting dialect ≡ Placed b p
    → setting < 4294967296
    → (j n : ℕ)
    → (j + n ≤ place_at p) ⊎ (place_at p + 24 ≤ j)
    → (j + n ≤ 512 * (p / 21) + 508) ⊎ (512 * (p / 21) + 512 ≤ j)
    → take n (drop j
    (book_of zone (zone_added zb lb zone setting dialect) (line_added zb lb zone setting dialect)))
    ≡ take n (drop j (book_of zone zb lb))
added_apart zb lb zone setting dialect b p e small j n place sum =
    theorem_both.added_apart zb lb zone setting dialect b p e small j n record { place = place; sum = sum }

-- the same for removals
-- In words: n bytes from j on that overlap neither the removed entry's place nor the sum of its block are unchanged.
pub removed_apart : (zb lb : List ℕ) (zone setting b p : ℕ)
    → remove_of zb lb zone setting ≡ Placed b p
    → (j n : ℕ)
    → (j + n ≤ place_at p) ⊎ (place_at p + 24 ≤ j)
    → (j + n ≤ 512 * (p / 21) + 508) ⊎ (512 * (p / 21) + 512 ≤ j)
    → take n (drop j (book_of zone (zone_removed zb lb zone setting) (line_removed zb lb zone setting)))
    ≡ take n (drop j (book_of zone zb lb))
removed_apart zb lb zone setting b p e j n place sum =
    theorem_both.removed_apart zb lb zone setting b p e j n record { place = place; sum = sum }

-- "A refusal ... changes no book"
-- In words: an addition that is not accepted leaves both books unchanged.
pub refused_addition : (zb lb : List ℕ) (zone setting : ℕ) (dialect : List ℕ)
    → ((b p : ℕ) → add_of zb lb zone setting dialect ≡ Placed b p → ⊥)
    → (zone_added zb lb zone setting dialect ≡ zb) × (line_added zb lb zone setting dialect ≡ lb)
refused_addition zb lb zone setting dialect other = theorem_both.added_refused zb lb zone setting dialect other

-- the same for removals
-- In words: a removal that is not accepted leaves both books unchanged.
pub refused_removal : (zb lb : List ℕ) (zone setting : ℕ)
    → ((b p : ℕ) → remove_of zb lb zone setting ≡ Placed b p → ⊥)
    → (zone_removed zb lb zone setting ≡ zb) × (line_removed zb lb zone setting ≡ lb)
refused_removal zb lb zone setting other = theorem_both.removed_refused zb lb zone setting other

-- "Both look at the entry's book only, zone 0 being the line's."
-- In words: the answer of an addition depends only on the line book for zone 0, and only on the zone book for other
-- zones.
pub entrys_book_only : (zb lb zb' lb' : List ℕ) (zone setting : ℕ) (dialect : List ℕ)
    → book_of zone zb lb ≡ book_of zone zb' lb'
    → add_of zb lb zone setting dialect ≡ add_of zb' lb' zone setting dialect
entrys_book_only zb lb zb' lb' zone setting dialect e = theorem_both.add_unread zb lb zb' lb' zone setting dialect e

-- the same for removals
-- In words: the answer of a removal depends only on the line book for zone 0, and only on the zone book for other
-- zones.
pub removal_reads_one_book : (zb lb zb' lb' : List ℕ) (zone setting : ℕ)
    → book_of zone zb lb ≡ book_of zone zb' lb'
    → remove_of zb lb zone setting ≡ remove_of zb' lb' zone setting
removal_reads_one_book zb lb zb' lb' zone setting e = theorem_both.remove_unread zb lb zb' lb' zone setting e

-- a zone of more than 16 bits
-- In words: no entry of a book of bytes fits a zone above 65,535.
pub wide_zone_fits_nowhere : (zone asked : ℕ) (book : List ℕ)
    → ((i : ℕ) → get_or book i 0 < 256)
    → 65536 ≤ zone
    → (q : ℕ)
    → q < places_of book
    → zeros (entry_at book q) ≡ false
    → zone_of (entry_at book q) ≡ zone
    → setting_of (entry_at book q) ≤ asked
    → ⊥
wide_zone_fits_nowhere zone asked book small wide q a b c d =
    theorem_back.wide_zone zone asked book small wide q record { inside = a; taken = b; zoned = c; upto = d }
