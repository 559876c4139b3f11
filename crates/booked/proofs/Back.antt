-- THEOREM 4, a change and its reverse. Removing the entry that was just added finds the place that was written
-- (`remove_finds`) and restores the book byte for byte (`add_remove`): both books pass and have the same entry at
-- every place, and the entries determine the bytes (Whole's `same_book`). Adding the entry that was just removed is
-- accepted, because it was sound and no other place has its zone and setting, and gives the same set of entries
-- (`remove_add`, `remove_add_back`). A zone above 65,535 matches no entry (`wide_zone`). Assumes nothing.
use mathlib.Core.Path.{◌≡◌, refl, sym, ap, ◌∙◌}
use mathlib.Core.Bool.{Bool, true, false}
use mathlib.Core.Logic.{⊎_elim}
use mathlib.Core.List.{List, ◌++◌}
use Prim.Native.Nat.{ℕ, zero, suc, ◌+◌, ◌*◌, ◌/◌, ◌<◌, ◌≤◌}
use native.Mathlib.Omega.{arith}
use lib.ListN.{length, take, drop, replicate, length-drop}
use lib.Seq.{length-take-le, take-add, take_all}
use lib.Dec.{leb}
use borrow.Author.Tests.{leb-true, le-leb}
use Rattle.fields.specs.Field.{field, bytes_of}
use Rattle.fields.proofs.Basics.{clash, and_left, and_right}
use Rattle.fields.proofs.Spelling.{bytes_field, Bytes, bytes_take, bytes_drop, bytes_append, bytes_spelled}
use Rattle.fields.proofs.Spelling.{bytes_zeros}
use Rattle.dialect.specs.Bytes.{valid_bytes}
use Rattle.blocks.specs.Block.{zeros, sum_of}
use Rattle.blocks.proofs.Blocks.{zeros_are}
use Rattle.books.specs.declared.Changed.TheVariants.{Placed}
use Rattle.books.specs.Book.{places_of, place_at, entry_at, zone_of, setting_of, dialect_of, sound_entry, sound_place, is_for}
use Rattle.books.specs.Book.{seen_in}
use Rattle.fields.specs.Over.{over}
use Rattle.books.specs.Change.{first_in, empty_at, for_at, place_to_add, may_add, entry_of, no_entry_bytes, block_at, renewed}
use Rattle.books.specs.Change.{put_entry, book_number, add_in, remove_in}
use Rattle.books.proofs.Laws.{some_none}
use Rattle.books.proofs.Marking.{For, for_parts, parts_for, entry_there, entry_bytes}
use Rattle.booked.specs.Said.{Passing, NoneFits, AllHeld}
use Rattle.booked.proofs.Parts.{put_length, put_same, put_other}
use Rattle.booked.proofs.Best.{one_place, entry_sound}
use Rattle.booked.proofs.Kept.{none_fresh, put_passes, same_or_other}
use Rattle.booked.proofs.Changes.{Added, new, new_long, new_bytes, new_places, new_there, new_other, new_for}
use Rattle.booked.proofs.Changes.{add_passes, add_highest, first_found, first_none}
use Rattle.booked.proofs.Changes.{Removed, without, gone_places, gone_there, gone_other, remove_passes}
use Rattle.booked.proofs.Changes.{room_found}
use Rattle.booked.proofs.Whole.{same_book}

-- a zone above 65,535 matches no entry
pub wide_zone : (zone asked : ℕ) (book : List ℕ) → Bytes book → 65536 ≤ zone → NoneFits zone asked book
unfolding field
wide_zone zone asked book small wide q f =
    let e : Bytes (entry_at book q) = entry_bytes book q small in omega (arith, f.zoned, e 0, e 1)

-- bytes stay bytes
over_bytes : (at : ℕ) (b d : List ℕ) → Bytes b → Bytes d → Bytes (over at b d)
unfolding over
over_bytes at b d sb sd =
    bytes_append (take at d) (b ++ drop (at + length b) d) (bytes_take d at sd)
    (bytes_append b (drop (at + length b) d) sb (bytes_drop d (at + length b) sd))

pub put_bytes : (book : List ℕ) (p : ℕ) (e : List ℕ) → Bytes book → Bytes e → Bytes (put_entry book p e)
unfolding put_entry renewed
put_bytes book p e small small-e =
    let mid : List ℕ = over (place_at p) e book in
    over_bytes (512 * (p / 21) + 508) (bytes_of 4 (sum_of (block_at mid (p / 21)))) mid
    (bytes_spelled 4 (sum_of (block_at mid (p / 21)))) (over_bytes (place_at p) e book small-e small)

-- two entries of one zone and setting are at the same place
for_one : {line : Bool} {book : List ℕ} → Passing line book → {zone setting : ℕ} (p q : ℕ) → p < places_of book
    → q < places_of book → For zone setting (entry_at book p) → For zone setting (entry_at book q) → p ≡ q
for_one b p q hp hq x y = one_place b p q hp hq record {
  taken = x.taken;
  other = y.taken;
  zones = x.zoned ∙ sym y.zoned;
  settings = x.set ∙ sym y.set;
}

-- LAW: a removal finds the one place
pub remove_finds : {line : Bool} {book : List ℕ} {zone setting p : ℕ} → Passing line book → p < places_of book
    → For zone setting (entry_at book p) → remove_in line book zone setting ≡ Placed (book_number line) p
unfolding remove_in for_at
remove_finds {line} {book} {zone} {setting} {p} b h f =
    let first : first_in (for_at zone setting book) (places_of book) ≡ suc p =
    go (first_in (for_at zone setting book) (places_of book)) refl in
    rw (b.sound, b.once, first) refl
  where
    go : (n : ℕ) → first_in (for_at zone setting book) (places_of book) ≡ n
        → first_in (for_at zone setting book) (places_of book) ≡ suc p
    go zero e = absurd (first_none (for_at zone setting book) (places_of book) p h (parts_for f) e)
    go (suc q) e =
        let g = first_found (for_at zone setting book) (places_of book) q e in
        e ∙ ap suc (for_one b q p g.0 h (for_parts g.1) f)

-- THEOREM 4: removing what was just added
module _ {line : Bool} {book : List ℕ} {zone setting : ℕ} {dialect : List ℕ} {b p : ℕ}
    (a : Added line book zone setting dialect b p) (bytes : Bytes book) where
  inside : p < places_of (new a)
  inside = (add_highest a).fitting.inside

  pub add_then_remove : remove_in line (new a) zone setting ≡ Placed (book_number line) p
  add_then_remove = remove_finds (add_passes a bytes) inside (new_for a)

  abbrev back : List ℕ
  back = put_entry (new a) p no_entry_bytes

  small_new : Bytes (new a)
  small_new = put_bytes book p (entry_of zone setting dialect) bytes (new_bytes a)

  back_passes : Passing line back
  unfolding sound_place zeros
  back_passes = put_passes (add_passes a bytes) p no_entry_bytes inside refl small_new (bytes_zeros 24) refl
      (none_fresh (new a) p)

  back_long : length back ≡ length book
  back_long = put_length (new a) p no_entry_bytes inside refl
      ∙ put_length book p (entry_of zone setting dialect) a.inside (new_long a)

  -- the place is empty again, and the others never changed
  back_entry : (q : ℕ) → entry_at back q ≡ entry_at book q
  back_entry q = ⊎_elim
      (λ (same : q ≡ p).
      let was : entry_at book p ≡ no_entry_bytes = zeros_are (entry_at book p) a.was
      ∙ ap (λ (n : ℕ). replicate n 0) (entry_there book p a.inside) in
      rw same (put_same (new a) p no_entry_bytes inside refl ∙ sym was))
      (λ (other : q ≡ p → ⊥). put_other (new a) p no_entry_bytes inside refl q other ∙ new_other a q other)
      (same_or_other q p)

  -- the book is restored byte for byte
  pub add_remove : put_entry (new a) p no_entry_bytes ≡ book
  add_remove = same_book back_passes a.passing (put_bytes (new a) p no_entry_bytes small_new (bytes_zeros 24)) bytes
      back_long (λ q h. back_entry q)

-- an entry is put together from its parts
pub entry_again : (line : Bool) (e : List ℕ) → length e ≡ 24 → Bytes e → sound_entry line e ≡ true
    → entry_of (zone_of e) (setting_of e) (dialect_of e) ≡ e
unfolding entry_of sound_entry
entry_again line e long small sound =
    let rest : zeros (take 9 (drop 15 e)) ≡ true = and_left (zeros (take 9 (drop 15 e))) _
    (and_right (valid_bytes (dialect_of e)) _ (and_right (leb 1 (setting_of e)) _ sound)) in
    let nine : length (take 9 (drop 15 e)) ≡ 9 = length-take-le 9 (drop 15 e) (simp length-drop (omega arith)) in
    let none : replicate 9 0 ≡ take 9 (drop 15 e) =
    sym (zeros_are (take 9 (drop 15 e)) rest ∙ ap (λ (n : ℕ). replicate n 0) nine) in
    let zone : bytes_of 2 (zone_of e) ≡ take 2 e = bytes_field 2 e 0 small (omega arith) in
    let setting : bytes_of 4 (setting_of e) ≡ take 4 (drop 2 e) = bytes_field 4 e 2 small (omega arith) in
    rw (zone, setting, none, ← take-add 2 4 e, ← take-add 6 9 e, ← take-add 15 9 e) (take_all 24 e (omega arith))

-- THEOREM 4: adding what was just removed is accepted
pub record Again (line : Bool) (book : List ℕ) (zone setting : ℕ) (dialect : List ℕ) : Type 0 where
  pub place : ℕ
  pub is : add_in line book zone setting dialect ≡ Placed (book_number line) place

module _ {line : Bool} {book : List ℕ} {zone setting p : ℕ} (r : Removed line book zone setting p)
    (bytes : Bytes book) where
  abbrev removed : List ℕ
  removed = entry_at book p

  parts : For zone setting removed
  parts = for_parts r.was

  was_sound : sound_entry line removed ≡ true
  was_sound = entry_sound r.passing p r.inside parts.taken

  -- it may be added, since it was sound
  may_again : may_add zone setting (dialect_of removed) ≡ true
  unfolding sound_entry field
  may_again =
      let e : Bytes removed = entry_bytes book p bytes in
      let least : 1 ≤ setting_of removed =
      leb-true 1 (setting_of removed) (and_left (leb 1 (setting_of removed)) _ was_sound) in
      let valid : valid_bytes (dialect_of removed) ≡ true =
      and_left (valid_bytes (dialect_of removed)) _ (and_right (leb 1 (setting_of removed)) _ was_sound) in
      let few : zone ≤ 65535 = omega (arith, parts.zoned, e 0, e 1) in
      rw (le-leb 1 setting (omega (arith, least, parts.set)), le-leb zone 65535 few, valid) refl

  -- no other place is for its zone and setting
  unseen_at : (q : ℕ) → q < places_of book → is_for zone setting (entry_at (without r) q) ≡ false
  unfolding is_for zeros
  unseen_at q h = ⊎_elim
      (λ (same : q ≡ p). rw (same, gone_there r) refl)
      (λ (other : q ≡ p → ⊥). rw (gone_other r q other) (go other (is_for zone setting (entry_at book q)) refl))
      (same_or_other q p)
    where
      go : (q ≡ p → ⊥) → (t : Bool) → is_for zone setting (entry_at book q) ≡ t
          → is_for zone setting (entry_at book q) ≡ false
      go other true f = absurd (other (for_one r.passing q p h r.inside (for_parts f) parts))
      go other false f = f

  unseen_again : seen_in zone setting (without r) (places_of (without r)) ≡ false
  unfolding seen_in
  unseen_again = some_none (λ q. is_for zone setting (entry_at (without r) q)) (places_of (without r))
      (λ q h. unseen_at q (rw (gone_places r) at h))

  pub remove_again : Again line (without r) zone setting (dialect_of removed)
  unfolding add_in place_to_add
  remove_again =
      let passing : Passing line (without r) = remove_passes r bytes in
      go passing (first_in (empty_at (without r)) (places_of (without r))) refl
    where
      go : Passing line (without r) → (n : ℕ) → first_in (empty_at (without r)) (places_of (without r)) ≡ n
          → Again line (without r) zone setting (dialect_of removed)
      go passing zero f = absurd (room_found r f)
      go passing (suc q) f = record {
        place = q;
        is = rw (may_again, passing.sound, passing.once, unseen_again, f) refl;
      }

  -- THEOREM 4: adding what was just removed gives the same set of entries
  module _ {c q : ℕ} (a : Added line (without r) zone setting (dialect_of removed) c q) where
    there : entry_at (new a) q ≡ removed
    there =
        let spelled = entry_again line removed (entry_there book p r.inside) (entry_bytes book p bytes) was_sound in
        new_there a ∙ (rw (parts.zoned, parts.set) at spelled)

    pub remove_add : AllHeld book (new a)
    remove_add = record {
      held = λ i h taken. ⊎_elim
          (λ (same : i ≡ p). record {
            place = q;
            inside = rw (new_places a) a.inside;
            is = there ∙ ap (entry_at book) (sym same);
          })
          (λ (other : i ≡ p → ⊥).
          let kept : entry_at (without r) i ≡ entry_at book i = gone_other r i other in
          let not-q : i ≡ q → ⊥ = λ same. clash a.was (ap zeros (ap (entry_at (without r)) (sym same) ∙ kept)
          ∙ taken) in
          record {
            place = i;
            inside = rw (new_places a, gone_places r) h;
            is = new_other a i not-q ∙ kept;
          })
          (same_or_other i p);
    }

    pub remove_add_back : AllHeld (new a) book
    unfolding zeros
    remove_add_back = record {
      held = λ i h taken. ⊎_elim
          (λ (same : i ≡ q). record {
            place = p;
            inside = r.inside;
            is = sym there ∙ ap (entry_at (new a)) (sym same);
          })
          (λ (other : i ≡ q → ⊥).
          let stays : entry_at (new a) i ≡ entry_at (without r) i = new_other a i other in
          let not-p : i ≡ p → ⊥ = λ same.
          let z : zeros (entry_at (new a) i)
          ≡ true = ap zeros (stays ∙ ap (entry_at (without r)) same ∙ gone_there r) in
          clash z taken in
          record {
            place = i;
            inside = rw (new_places a, gone_places r) at h;
            is = sym (stays ∙ gone_other r i not-p);
          })
          (same_or_other i q);
    }
