-- The hypotheses of the theorems on books can be met, and not only trivially. Two empty books of one block pass. An
-- addition to the zone book is accepted at place 0, and the lookup then gives that place. A lookup below its setting
-- is 97, one of another zone is unchanged, the same entry again is 96, and its removal gives the empty book back. Two
-- zone books with the entry of zone 7 at different places give the same nine bytes, and so do two that have it at the
-- same place. The books are computed, and so are the tests that each byte is below 256 and that only one place has an
-- entry of zone 7. Assumes nothing.
use mathlib.Core.Path.{◌≡◌, refl, sym, ◌∙◌}
use mathlib.Core.Bool.{Bool, true, false, ◌||◌, not}
use mathlib.Core.List.{List, ◌∷◌}
use Prim.Native.Nat.{ℕ, ◌<◌}
use native.Mathlib.Omega.{arith}
use lib.ListN.{replicate}
use lib.Dec.{eqb}
use borrow.Author.Tests.{eqb-true, eq-eqb}
use Rattle.fields.specs.Field.{field, bytes_of}
use Rattle.fields.specs.Over.{over}
use Rattle.fields.proofs.Basics.{never, clash}
use Rattle.fields.proofs.Spelling.{Bytes}
use Rattle.dialect.specs.Bytes.{within, valid_bytes}
use Rattle.blocks.specs.Block.{weighed, sum_of, before_sum, block_of, zeros, examine, judge}
use Rattle.blocks.specs.Run.{blocks_for, judge_blocks, judge_run}
use Rattle.books.specs.declared.Looked.TheVariants.{Zone, Line, Nothing}
use Rattle.books.specs.declared.Changed.TheVariants.{Placed, Refused, Bare}
use Rattle.books.specs.Book.{every, some, places_of, entry_at, zone_of, dialect_of, sound_entry, sound_place, sound_places}
use Rattle.books.specs.Book.{sound_book, is_for, seen_in, seen_before, again, twice_in}
use Rattle.books.specs.Lookup.{fits, best_setting, best_in, lookup_of, part_of}
use Rattle.books.specs.Change.{first_in, empty_at, for_at, entry_of, renewed, put_entry, place_to_add, add_in, remove_in}
use Rattle.books.specs.Change.{add_of, remove_of, zone_after, line_after, zone_added, line_added, zone_removed, line_removed}
use Rattle.books.specs.Change.{blank_blocks, blank_of, blank_after}
use Rattle.books.proofs.Laws.{every_stop}
use Rattle.booked.specs.Said.{Passing, NoneFits, Tells, Within, Keeps, BothPass}
use Rattle.booked.proofs.Lookups.{zone_tells, line_tells, nothing_fits, same_part, same_place}
use Rattle.booked.proofs.Changes.{tested_bytes}
use Rattle.booked.proofs.Booked.{added_found, added_elsewhere, Restored, added_removed, AddedBack, removed_added}
use Rattle.booked.proofs.Booked.{added_refused, removed_refused, blanked_passes}

-- an empty book, and nine dialect bytes
abbrev pub blank : List ℕ
blank = blank_blocks 1

abbrev pub dialect : List ℕ
dialect = 1 ∷ replicate 8 0

-- the book with an entry of zone 7 for setting 3, and the line book with an entry for that setting
abbrev pub seven : List ℕ
seven = put_entry blank 0 (entry_of 7 3 dialect)

abbrev pub common : List ℕ
common = put_entry blank 0 (entry_of 0 3 dialect)

-- what computes a book and judges it: to unfold this is to unfold all of these
unfoldable judging : Bool
unfolding field bytes_of over within valid_bytes weighed sum_of before_sum block_of zeros examine judge blocks_for
    judge_blocks
    judge_run every some entry_at sound_entry sound_place sound_places sound_book is_for seen_in seen_before again
    twice_in
    blank_blocks entry_of renewed put_entry
judging = true

pub blank_bytes : Bytes blank
unfolding field bytes_of over weighed sum_of before_sum block_of blank_blocks
blank_bytes = tested_bytes blank refl

pub blank_both : BothPass blank blank
unfolding judging
blank_both =
    record { zone = record { sound = refl; once = refl }; line = record { sound = refl; once = refl } }

-- it is what `blank` makes of any 512 bytes
pub blanked : Passing false (blank_after (replicate 512 255))
unfolding blank_of
blanked = blanked_passes false (replicate 512 255) refl

-- an addition that is accepted: the zone book, place 0
pub accepts : add_of blank blank 7 3 dialect ≡ Placed 0 0
unfolding judging first_in empty_at place_to_add add_in add_of
accepts = refl

-- the books after it
pub is_added : (zone_added blank blank 7 3 dialect ≡ seven) × (line_added blank blank 7 3 dialect ≡ blank)
unfolding judging first_in empty_at place_to_add add_in add_of zone_after line_after zone_added line_added
is_added = (refl, refl)

-- DEMAND 4 applies: the lookup gives its nine bytes, which begin at byte 10 of the zone book
pub found : (lookup_of (zone_added blank blank 7 3 dialect) (line_added blank blank 7 3 dialect) 7 3 ≡ Zone 10)
    × (part_of (lookup_of (zone_added blank blank 7 3 dialect) (line_added blank blank 7 3 dialect) 7 3)
    (zone_added blank blank 7 3 dialect) (line_added blank blank 7 3 dialect) ≡ dialect)
found = added_found blank blank 7 3 dialect 0 0 accepts (omega arith) blank_bytes blank_bytes blank_both

-- a lookup of zone 8 does not reach the place, and is unchanged
pub elsewhere : lookup_of (zone_added blank blank 7 3 dialect) (line_added blank blank 7 3 dialect) 8 5
    ≡ lookup_of blank blank 8 5
unfolding judging first_in empty_at place_to_add add_in add_of zone_after line_after zone_added line_added fits
    best_setting best_in
elsewhere = added_elsewhere blank blank 7 3 dialect 0 0 accepts (omega arith) blank_bytes blank_bytes blank_both 8 5
    (λ (reaches : 0 ≡ 1). absurd (omega arith))

-- the removal finds the entry and gives both books back
pub restored : Restored blank blank 7 3 (Placed 0 0) (zone_added blank blank 7 3 dialect)
    (line_added blank blank 7 3 dialect)
restored = added_removed blank blank 7 3 dialect 0 0 accepts (omega arith) blank_bytes blank_bytes

-- a removal that is accepted; adding the removed entry is accepted too
pub seven_bytes : Bytes seven
unfolding field bytes_of over weighed sum_of before_sum block_of blank_blocks entry_of renewed put_entry
seven_bytes = tested_bytes seven refl

pub removes : remove_of seven blank 7 3 ≡ Placed 0 0
unfolding judging first_in for_at remove_in remove_of
removes = refl

pub added_back : AddedBack seven blank 7 3 (dialect_of (entry_at seven 0)) (zone_removed seven blank 7 3)
    (line_removed seven blank 7 3)
added_back = removed_added seven blank 7 3 0 0 removes (omega arith) seven_bytes blank_bytes

-- DEMAND 5 on refusals: the same entry again is 96, removing a missing one is 97, and no book changes
pub twice : add_of seven blank 7 3 dialect ≡ Refused 96 0
unfolding judging first_in empty_at place_to_add add_in add_of
twice = refl

pub twice_stays : (zone_added seven blank 7 3 dialect ≡ seven) × (line_added seven blank 7 3 dialect ≡ blank)
twice_stays = added_refused seven blank 7 3 dialect (λ b p e.
    let no : Refused 96 0 ≡ Placed b p = sym twice ∙ e in never (cc))

pub missing : remove_of blank blank 7 3 ≡ Bare 97
unfolding judging first_in for_at remove_in remove_of
missing = refl

pub missing_stays : (zone_removed blank blank 7 3 ≡ blank) × (line_removed blank blank 7 3 ≡ blank)
missing_stays = removed_refused blank blank 7 3 (λ b p e.
    let no : Bare 97 ≡ Placed b p = sym missing ∙ e in never (cc))

-- LOOKUPS: one above the setting gives the same place, one below it is 97; with the entry in the line book, that entry
pub seven_passing : Passing false seven
unfolding judging
seven_passing = record { sound = refl; once = refl }

pub common_passing : Passing true common
unfolding judging
common_passing = record { sound = refl; once = refl }

pub told_above : lookup_of seven blank 7 5 ≡ Zone 10
unfolding judging fits best_setting best_in lookup_of
told_above = refl

pub tells_above : Tells 7 5 seven 10
tells_above = zone_tells seven_passing blank_both.line 7 5 10 told_above

pub told_below : lookup_of seven blank 7 2 ≡ Nothing
unfolding judging fits best_setting best_in lookup_of
told_below = refl

pub none_below : NoneFits 7 2 seven × NoneFits 0 2 blank
none_below = nothing_fits seven_passing blank_both.line 7 2 told_below

pub told_common : lookup_of blank common 7 3 ≡ Line 10
unfolding judging fits best_setting best_in lookup_of
told_common = refl

pub tells_common : NoneFits 7 3 blank × Tells 0 3 common 10
tells_common = line_tells blank_both.zone common_passing 7 3 10 told_common

-- INDEPENDENCE: two zone books with the same entry of zone 7, beside one of zone 9, in the one order and the other
abbrev pub seven_first : List ℕ
seven_first = put_entry seven 1 (entry_of 9 1 dialect)

abbrev pub seven_last : List ℕ
seven_last = put_entry (put_entry blank 0 (entry_of 9 1 dialect)) 1 (entry_of 7 3 dialect)

-- no place but one has an entry of zone 7
abbrev elsewhere_none : List ℕ → ℕ → ℕ → Bool
elsewhere_none book at p = eqb p at || (zeros (entry_at book p) || not (eqb (zone_of (entry_at book p)) 7))

only_there : (book : List ℕ) (at : ℕ) → every (elsewhere_none book at) (places_of book) ≡ true
    → (p : ℕ) → p < places_of book → zeros (entry_at book p) ≡ false → zone_of (entry_at book p) ≡ 7 → p ≡ at
only_there book at all p inside taken zoned = go (eqb p at) refl
  where
    go : (b : Bool) → eqb p at ≡ b → p ≡ at
    go true e = eqb-true p at e
    go false e =
        let no : elsewhere_none book at p ≡ false = rw (e, taken, eq-eqb (zone_of (entry_at book p)) 7 zoned) refl in
        clash all (every_stop (elsewhere_none book at) (places_of book) p inside no)

pub first_passing : Passing false seven_first
unfolding judging
first_passing = record { sound = refl; once = refl }

pub last_passing : Passing false seven_last
unfolding judging
last_passing = record { sound = refl; once = refl }

pub first_in_last : Within 7 seven_first seven_last
unfolding judging
first_in_last = record {
  held = λ p inside taken zoned.
      let here : p ≡ 0 = only_there seven_first 0 refl p inside taken zoned in
      rw here (record { place = 1; inside = omega arith; is = refl });
}

pub last_in_first : Within 7 seven_last seven_first
unfolding judging
last_in_first = record {
  held = λ p inside taken zoned.
      let here : p ≡ 1 = only_there seven_last 1 refl p inside taken zoned in
      rw here (record { place = 0; inside = omega arith; is = refl });
}

-- the places differ, and the bytes are the same
pub places_differ : (lookup_of seven_first blank 7 3 ≡ Zone 10) × (lookup_of seven_last blank 7 3 ≡ Zone 34)
unfolding judging fits best_setting best_in lookup_of
places_differ = (refl, refl)

pub bytes_same : part_of (lookup_of seven_first blank 7 3) seven_first blank
    ≡ part_of (lookup_of seven_last blank 7 3) seven_last blank
bytes_same = same_part first_passing last_passing blank_both.line 7 3 first_in_last last_in_first

-- at the same place: with the entry of zone 9 and without it
pub kept_there : Keeps 7 seven seven_first
unfolding judging
kept_there = record {
  kept = λ p inside taken zoned.
      let here : p ≡ 0 = only_there seven 0 refl p inside taken zoned in rw here (omega arith, refl);
}

pub kept_back : Keeps 7 seven_first seven
unfolding judging
kept_back = record {
  kept = λ p inside taken zoned.
      let here : p ≡ 0 = only_there seven_first 0 refl p inside taken zoned in rw here (omega arith, refl);
}

pub same_lookup : lookup_of seven blank 7 4 ≡ lookup_of seven_first blank 7 4
same_lookup = same_place seven_passing first_passing blank_both.line 7 4 kept_there kept_back
