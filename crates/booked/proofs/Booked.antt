-- W-213, additions and removals, over both books. The book of an entry is the line book for zone 0 and the zone book
-- for every other zone; the other book is not read (`add_is`, `remove_is`) and stays (`other_after`). So each theorem
-- is the one that `Changes`, `Back` and `Kept` show for the entry's book. Demand 4: `added_found`, `added_elsewhere`,
-- `added_removed`, `removed_added`, `removed_room`. Demand 5: `added_passes`, `removed_passes`, `blanked_passes`,
-- `added_apart`, `removed_apart`, `added_refused`, `removed_refused`, `add_unread`, `remove_unread`. `Bytes` and
-- settings below 2^32 are what the code knows of its inputs. Assumes nothing.
use mathlib.Core.Path.{◌≡◌, refl, sym, ◌∙◌}
use mathlib.Core.Bool.{Bool, true, false}
use mathlib.Core.List.{List}
use Prim.Native.Nat.{ℕ, zero, suc, ◌+◌, ◌/◌, ◌%◌, ◌<◌}
use native.Mathlib.Omega.{arith}
use lib.ListN.{length}
use lib.Dec.{eqb, leb}
use borrow.Author.Tests.{leb-true, ne_eqb}
use Rattle.fields.specs.Choice.{if'}
use Rattle.fields.proofs.Basics.{and_left, and_right}
use Rattle.fields.proofs.Spelling.{Bytes}
use Rattle.books.specs.declared.Changed.{Changed}
use Rattle.books.specs.declared.Changed.TheVariants.{Placed, Refused, Bare}
use Rattle.books.specs.Book.{place_at, entry_at, dialect_of, belongs, sound_length}
use Rattle.books.specs.Lookup.{lookup_of, part_of}
use Rattle.books.specs.Change.{entry_of, no_entry_bytes, put_entry, book_number, add_in, remove_in, after, is_line}
use Rattle.books.specs.Change.{add_of, remove_of, zone_after, line_after, zone_added, line_added, zone_removed, line_removed}
use Rattle.books.specs.Change.{blank_blocks, blank_of, blank_after}
use Rattle.booked.specs.Said.{Passing, AllHeld, BothPass, book_of, told_in, Reaches, SameApart}
use Rattle.booked.proofs.Parts.{put_outside}
use Rattle.booked.proofs.Changes.{Added, added, new_long, add_passes, add_bytes, add_zone_found}
use Rattle.booked.proofs.Changes.{add_line_found, add_zone_elsewhere, add_line_elsewhere}
use Rattle.booked.proofs.Changes.{Removed, removed_one, without, remove_passes, remove_room}
use Rattle.booked.proofs.Back.{add_then_remove, add_remove, Again, remove_again, remove_add, remove_add_back}
use Rattle.booked.proofs.Fresh.{blank_passes}

-- the book that the entry does not belong to
abbrev pub other_of : ℕ → List ℕ → List ℕ → List ℕ
other_of zone zb lb = if' (is_line zone) (λ _. zb) (λ _. lb)

-- by whether the zone is 0: it belongs into its book, which is one of the two
own : (zone : ℕ) → belongs (is_line zone) zone ≡ true
own zone = go (is_line zone) refl
  where
    go : (t : Bool) → eqb zone 0 ≡ t → belongs t zone ≡ true
    go true e = e
    go false e = rw e refl

off : (n : ℕ) → eqb (suc n) 0 ≡ false
off n = ne_eqb (suc n) 0 (λ (e : suc n ≡ 0). omega arith)

own_bytes : (zone : ℕ) (zb lb : List ℕ) → Bytes zb → Bytes lb → Bytes (book_of zone zb lb)
own_bytes zone zb lb bytes-z bytes-l = go (is_line zone)
  where
    go : (t : Bool) → Bytes (if' t (λ _. lb) (λ _. zb))
    go true = bytes-l
    go false = bytes-z

both_same : (zone : ℕ) {zb lb zb' lb' : List ℕ} → book_of zone zb lb ≡ book_of zone zb' lb'
    → other_of zone zb lb ≡ other_of zone zb' lb' → (zb ≡ zb') × (lb ≡ lb')
both_same zone {zb} {lb} {zb'} {lb'} = go (is_line zone)
  where
    go : (t : Bool) → if' t (λ _. lb) (λ _. zb) ≡ if' t (λ _. lb') (λ _. zb')
        → if' t (λ _. zb) (λ _. lb) ≡ if' t (λ _. zb') (λ _. lb') → (zb ≡ zb') × (lb ≡ lb')
    go true e f = (f, e)
    go false e f = (e, f)

-- the two books afterwards, for any answer
module _ (zone : ℕ) (a : Changed) (e zb lb : List ℕ) where
  own_after : book_of zone (zone_after zone a e zb) (line_after zone a e lb) ≡ after a e (book_of zone zb lb)
  unfolding zone_after line_after
  own_after = go (is_line zone)
    where
      go : (t : Bool)
          → if' t (λ _. if' t (λ _. after a e lb) (λ _. lb)) (λ _. if' t (λ _. zb) (λ _. after a e zb))
          ≡ after a e (if' t (λ _. lb) (λ _. zb))
      go true = refl
      go false = refl

  other_after : other_of zone (zone_after zone a e zb) (line_after zone a e lb) ≡ other_of zone zb lb
  unfolding zone_after line_after
  other_after = go (is_line zone)
    where
      go : (t : Bool)
          → if' t (λ _. if' t (λ _. zb) (λ _. after a e zb)) (λ _. if' t (λ _. after a e lb) (λ _. lb))
          ≡ if' t (λ _. zb) (λ _. lb)
      go true = refl
      go false = refl

-- an addition answers for the entry's book
module _ (zb lb : List ℕ) (zone setting : ℕ) (dialect : List ℕ) where
  add_is : add_of zb lb zone setting dialect ≡ add_in (is_line zone) (book_of zone zb lb) zone setting dialect
  unfolding add_of
  add_is = go (is_line zone)
    where
      go : (t : Bool) → if' t (λ _. add_in true lb zone setting dialect) (λ _. add_in false zb zone setting dialect)
          ≡ add_in t (if' t (λ _. lb) (λ _. zb)) zone setting dialect
      go true = refl
      go false = refl

  -- the two books after an addition
  abbrev zb⁺ : List ℕ
  zb⁺ = zone_added zb lb zone setting dialect

  abbrev lb⁺ : List ℕ
  lb⁺ = line_added zb lb zone setting dialect

  -- the other book is not changed
  pub added_other : other_of zone zb⁺ lb⁺ ≡ other_of zone zb lb
  unfolding zone_added line_added
  added_other = other_after zone (add_of zb lb zone setting dialect) (entry_of zone setting dialect) zb lb

  module _ (b p : ℕ) (e : add_of zb lb zone setting dialect ≡ Placed b p) where
    book_added : book_of zone zb⁺ lb⁺ ≡ put_entry (book_of zone zb lb) p (entry_of zone setting dialect)
    unfolding zone_added line_added
    book_added = own_after zone (add_of zb lb zone setting dialect) (entry_of zone setting dialect) zb lb ∙ rw e refl

    module _ (small : setting < 4294967296) where
      in_book : Added (is_line zone) (book_of zone zb lb) zone setting dialect b p
      in_book = added (own zone) small (sym add_is ∙ e)

      -- only the place and its block's sum change
      pub added_apart : SameApart p (book_of zone zb⁺ lb⁺) (book_of zone zb lb)
      added_apart = rw book_added (λ j n apart.
          put_outside (book_of zone zb lb) p (entry_of zone setting dialect) in_book.inside (new_long in_book) j n
          apart.place apart.sum)

      -- DEMAND 5: the resulting book passes 95 and 96
      pub added_passes : Bytes zb → Bytes lb → Passing (is_line zone) (book_of zone zb⁺ lb⁺)
      added_passes bytes-z bytes-l = rw book_added (add_passes in_book (own_bytes zone zb lb bytes-z bytes-l))

-- the two books after an addition of zone 0, and of another zone
line_added_lem : (zb lb : List ℕ) (setting : ℕ) (dialect : List ℕ) {b p : ℕ}
    → add_of zb lb 0 setting dialect ≡ Placed b p
    → (zone_added zb lb 0 setting dialect ≡ zb)
    × (line_added zb lb 0 setting dialect ≡ put_entry lb p (entry_of 0 setting dialect))
line_added_lem zb lb setting dialect {b} {p} e =
    (added_other zb lb 0 setting dialect, book_added zb lb 0 setting dialect b p e)

zone_added_lem : (zb lb : List ℕ) (n setting : ℕ) (dialect : List ℕ) {b p : ℕ}
    → add_of zb lb (suc n) setting dialect ≡ Placed b p
    → (zone_added zb lb (suc n) setting dialect ≡ put_entry zb p (entry_of (suc n) setting dialect))
    × (line_added zb lb (suc n) setting dialect ≡ lb)
zone_added_lem zb lb n setting dialect {b} {p} e = (
  rw (off n) at (book_added zb lb (suc n) setting dialect b p e),
  rw (off n) at (added_other zb lb (suc n) setting dialect),
)

in_zone_book : (zb lb : List ℕ) (n setting : ℕ) (dialect : List ℕ) {b p : ℕ}
    → add_of zb lb (suc n) setting dialect ≡ Placed b p → setting < 4294967296
    → Added false zb (suc n) setting dialect b p
in_zone_book zb lb n setting dialect {b} {p} e small = rw (off n) at (in_book zb lb (suc n) setting dialect b p e small)

-- DEMAND 4: after an addition the lookup at that zone and setting gives the bytes added
pub added_found : (zb lb : List ℕ) (zone setting : ℕ) (dialect : List ℕ) (b p : ℕ)
    → add_of zb lb zone setting dialect ≡ Placed b p → setting < 4294967296 → Bytes zb → Bytes lb → BothPass zb lb
    → (lookup_of (zone_added zb lb zone setting dialect) (line_added zb lb zone setting dialect) zone setting
    ≡ told_in zone (place_at p + 6))
    × (part_of (lookup_of (zone_added zb lb zone setting dialect) (line_added zb lb zone setting dialect) zone setting)
    (zone_added zb lb zone setting dialect) (line_added zb lb zone setting dialect) ≡ dialect)
added_found zb lb zero setting dialect b p e small bytes-z bytes-l both =
    let a : Added true lb 0 setting dialect b p = in_book zb lb 0 setting dialect b p e small in
    let found = add_line_found a bytes-l both.zone in
    let now = line_added_lem zb lb setting dialect e in
    rw (now.0, now.1) (found, rw found (add_bytes a))
added_found zb lb (suc n) setting dialect b p e small bytes-z bytes-l both =
    let a : Added false zb (suc n) setting dialect b p = in_zone_book zb lb n setting dialect e small in
    let found = add_zone_found a bytes-z both.line in
    let now = zone_added_lem zb lb n setting dialect e in
    rw (now.0, now.1, off n) (found, rw found (add_bytes a))

-- every lookup that does not reach the new place is unchanged
pub added_elsewhere : (zb lb : List ℕ) (zone setting : ℕ) (dialect : List ℕ) (b p : ℕ)
    → add_of zb lb zone setting dialect ≡ Placed b p → setting < 4294967296 → Bytes zb → Bytes lb → BothPass zb lb
    → (z asked : ℕ)
    → (Reaches zone z asked (zone_added zb lb zone setting dialect) (line_added zb lb zone setting dialect) p → ⊥)
    → lookup_of (zone_added zb lb zone setting dialect) (line_added zb lb zone setting dialect) z asked
    ≡ lookup_of zb lb z asked
added_elsewhere zb lb zero setting dialect b p e small bytes-z bytes-l both z asked =
    let a : Added true lb 0 setting dialect b p = in_book zb lb 0 setting dialect b p e small in
    let now = line_added_lem zb lb setting dialect e in
    rw (now.0, now.1) (add_line_elsewhere a bytes-l both.zone z asked)
added_elsewhere zb lb (suc n) setting dialect b p e small bytes-z bytes-l both z asked =
    let a : Added false zb (suc n) setting dialect b p = in_zone_book zb lb n setting dialect e small in
    let now = zone_added_lem zb lb n setting dialect e in
    rw (now.0, now.1, off n) (add_zone_elsewhere a bytes-z both.line z asked)

-- adding the entry that was just removed is accepted, and gives the same set of entries
pub record AddedBack (zb lb : List ℕ) (zone setting : ℕ) (dialect zb' lb' : List ℕ) : Type 0 where
  pub place : ℕ
  pub accepts : add_of zb' lb' zone setting dialect ≡ Placed (book_number (is_line zone)) place
  pub there : AllHeld (book_of zone zb lb)
      (book_of zone (zone_added zb' lb' zone setting dialect) (line_added zb' lb' zone setting dialect))
  pub back : AllHeld
      (book_of zone (zone_added zb' lb' zone setting dialect) (line_added zb' lb' zone setting dialect))
      (book_of zone zb lb)

-- a removal answers for the entry's book
module _ (zb lb : List ℕ) (zone setting : ℕ) where
  remove_is : remove_of zb lb zone setting ≡ remove_in (is_line zone) (book_of zone zb lb) zone setting
  unfolding remove_of
  remove_is = go (is_line zone)
    where
      go : (t : Bool) → if' t (λ _. remove_in true lb zone setting) (λ _. remove_in false zb zone setting)
          ≡ remove_in t (if' t (λ _. lb) (λ _. zb)) zone setting
      go true = refl
      go false = refl

  -- the two books after a removal
  abbrev zb⁻ : List ℕ
  zb⁻ = zone_removed zb lb zone setting

  abbrev lb⁻ : List ℕ
  lb⁻ = line_removed zb lb zone setting

  -- the other book is not changed
  pub removed_other : other_of zone zb⁻ lb⁻ ≡ other_of zone zb lb
  unfolding zone_removed line_removed
  removed_other = other_after zone (remove_of zb lb zone setting) no_entry_bytes zb lb

  module _ (b p : ℕ) (e : remove_of zb lb zone setting ≡ Placed b p) where
    book_removed : book_of zone zb⁻ lb⁻ ≡ put_entry (book_of zone zb lb) p no_entry_bytes
    unfolding zone_removed line_removed
    book_removed = own_after zone (remove_of zb lb zone setting) no_entry_bytes zb lb ∙ rw e refl

    from_book : Removed (is_line zone) (book_of zone zb lb) zone setting p
    from_book = removed_one (sym remove_is ∙ e)

    -- only the place and its block's sum change
    pub removed_apart : SameApart p (book_of zone zb⁻ lb⁻) (book_of zone zb lb)
    removed_apart = rw book_removed (λ j n apart.
        put_outside (book_of zone zb lb) p no_entry_bytes from_book.inside refl j n apart.place apart.sum)

    -- DEMAND 5: the resulting book passes 95 and 96
    pub removed_passes : Bytes zb → Bytes lb → Passing (is_line zone) (book_of zone zb⁻ lb⁻)
    removed_passes bytes-z bytes-l = rw book_removed (remove_passes from_book (own_bytes zone zb lb bytes-z bytes-l))

    -- after a removal an addition to that book is never 98: another entry of zone 0, or of a zone that is not 0
    pub removed_room : (z s : ℕ) (dialect : List ℕ) → is_line z ≡ is_line zone
        → add_of zb⁻ lb⁻ z s dialect ≡ Bare 98 → ⊥
    removed_room z s dialect same f = remove_room from_book z s dialect
        (rw (same, book_removed) at (sym (add_is zb⁻ lb⁻ z s dialect) ∙ f))

    -- the dialect of the entry that was removed
    abbrev dialect⁻ : List ℕ
    dialect⁻ = dialect_of (entry_at (book_of zone zb lb) p)

    module _ (small : setting < 4294967296) (bytes-z : Bytes zb) (bytes-l : Bytes lb) where
      again : Again (is_line zone) (without from_book) zone setting dialect⁻
      again = remove_again from_book (own_bytes zone zb lb bytes-z bytes-l)

      accepts_again : add_of zb⁻ lb⁻ zone setting dialect⁻ ≡ Placed (book_number (is_line zone)) again.place
      accepts_again = add_is zb⁻ lb⁻ zone setting dialect⁻ ∙ rw book_removed again.is

      pub removed_added : AddedBack zb lb zone setting dialect⁻ zb⁻ lb⁻
      removed_added =
          let bytes = own_bytes zone zb lb bytes-z bytes-l in
          let a = added (own zone) small again.is in
          let now = book_added zb⁻ lb⁻ zone setting dialect⁻ (book_number (is_line zone)) again.place accepts_again in
          record {
            place = again.place;
            accepts = accepts_again;
            there = rw (now, book_removed) (remove_add from_book bytes a);
            back = rw (now, book_removed) (remove_add_back from_book bytes a);
          }

-- removing the entry that was just added finds it, and restores both books byte for byte
pub record Restored (zb lb : List ℕ) (zone setting : ℕ) (answer : Changed) (zb' lb' : List ℕ) : Type 0 where
  pub answered : remove_of zb' lb' zone setting ≡ answer
  pub zone_book : zone_removed zb' lb' zone setting ≡ zb
  pub line_book : line_removed zb' lb' zone setting ≡ lb

pub added_removed : (zb lb : List ℕ) (zone setting : ℕ) (dialect : List ℕ) (b p : ℕ)
    → add_of zb lb zone setting dialect ≡ Placed b p → setting < 4294967296 → Bytes zb → Bytes lb
    → Restored zb lb zone setting (Placed b p) (zone_added zb lb zone setting dialect)
    (line_added zb lb zone setting dialect)
added_removed zb lb zone setting dialect b p e small bytes-z bytes-l =
    let zb' : List ℕ = zone_added zb lb zone setting dialect in
    let lb' : List ℕ = line_added zb lb zone setting dialect in
    let a = in_book zb lb zone setting dialect b p e small in
    let bytes = own_bytes zone zb lb bytes-z bytes-l in
    let new-book = book_added zb lb zone setting dialect b p e in
    let found : remove_of zb' lb' zone setting ≡ Placed b p = remove_is zb' lb' zone setting
    ∙ rw (new-book, a.number) (add_then_remove a bytes) in
    let back : book_of zone (zone_removed zb' lb' zone setting) (line_removed zb' lb' zone setting)
    ≡ book_of zone zb lb =
    book_removed zb' lb' zone setting b p found ∙ rw new-book (add_remove a bytes) in
    let both = both_same zone back (removed_other zb' lb' zone setting ∙ added_other zb lb zone setting dialect) in
    record { answered = found; zone_book = both.0; line_book = both.1 }

pub blanked_passes : (line : Bool) (book : List ℕ) → blank_of (length book) ≡ 0 → Passing line (blank_after book)
unfolding blank_of blank_after
blanked_passes line book = go (sound_length (length book)) refl
  where
    go : (t : Bool) → sound_length (length book) ≡ t → if' {A = ℕ} t (λ _. 0) (λ _. 95) ≡ 0
        → Passing line (if' t (λ _. blank_blocks (length book / 512)) (λ _. book))
    go true t-is e =
        let whole = and_right (eqb (length book % 512) 0) _ t-is in
        blank_passes line (length book / 512)
        (leb-true 1 (length book / 512) (and_left (leb 1 (length book / 512)) _ whole))
        (leb-true (length book / 512) 100 (and_right (leb 1 (length book / 512)) _ whole))
    go false t-is e = absurd (omega arith)

-- a refusal changes no book
abbrev pub IsRefused : Changed → Type 0
IsRefused a = (b p : ℕ) → a ≡ Placed b p → ⊥

after_refused : (a : Changed) (e book : List ℕ) → IsRefused a → after a e book ≡ book
after_refused (Placed b p) e book other = absurd (other b p refl)
after_refused (Refused n b) e book other = refl
after_refused (Bare n) e book other = refl

pub added_refused : (zb lb : List ℕ) (zone setting : ℕ) (dialect : List ℕ)
    → IsRefused (add_of zb lb zone setting dialect)
    → (zone_added zb lb zone setting dialect ≡ zb) × (line_added zb lb zone setting dialect ≡ lb)
unfolding zone_added line_added
added_refused zb lb zone setting dialect other =
    let answer : Changed = add_of zb lb zone setting dialect in
    let e : List ℕ = entry_of zone setting dialect in
    both_same zone (own_after zone answer e zb lb ∙ after_refused answer e (book_of zone zb lb) other)
    (other_after zone answer e zb lb)

pub removed_refused : (zb lb : List ℕ) (zone setting : ℕ) → IsRefused (remove_of zb lb zone setting)
    → (zone_removed zb lb zone setting ≡ zb) × (line_removed zb lb zone setting ≡ lb)
unfolding zone_removed line_removed
removed_refused zb lb zone setting other =
    let answer : Changed = remove_of zb lb zone setting in
    both_same zone
    (own_after zone answer no_entry_bytes zb lb ∙ after_refused answer no_entry_bytes (book_of zone zb lb) other)
    (other_after zone answer no_entry_bytes zb lb)

-- the other book is not read
pub add_unread : (zb lb zb' lb' : List ℕ) (zone setting : ℕ) (dialect : List ℕ)
    → book_of zone zb lb ≡ book_of zone zb' lb'
    → add_of zb lb zone setting dialect ≡ add_of zb' lb' zone setting dialect
add_unread zb lb zb' lb' zone setting dialect e =
    add_is zb lb zone setting dialect ∙ rw e (sym (add_is zb' lb' zone setting dialect))

pub remove_unread : (zb lb zb' lb' : List ℕ) (zone setting : ℕ) → book_of zone zb lb ≡ book_of zone zb' lb'
    → remove_of zb lb zone setting ≡ remove_of zb' lb' zone setting
remove_unread zb lb zb' lb' zone setting e =
    remove_is zb lb zone setting ∙ rw e (sym (remove_is zb' lb' zone setting))
