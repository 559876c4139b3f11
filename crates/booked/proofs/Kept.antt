-- A book that passes 95 and 96 passes them after a place is written with an entry that is sound and occurs nowhere
-- else (`put_passes`; theorem 5). A run passes exactly if each of its blocks does (`run_each`, `each_run`, by
-- induction on the blocks). All blocks but one are unchanged, and that one keeps its head and has the new sum. All
-- places but one are unchanged too, so each is still sound, and no zone and setting occurs twice. Assumes nothing.
use mathlib.Core.Path.{◌≡◌, refl, sym, ap, ◌∙◌}
use mathlib.Core.Bool.{Bool, true, false, ◌&&◌, not}
use mathlib.Core.Logic.{◌⊎◌, inl, inr, ⊎_elim}
use mathlib.Core.List.{List, [], ◌∷◌, append-nil}
use Prim.Native.Nat.{ℕ, zero, suc, ◌+◌, ◌*◌, ◌-◌, ◌/◌, ◌<◌, ◌≤◌, min}
use native.Mathlib.Nat.{add-zero, zero-add}
use native.Mathlib.Omega.{arith}
use lib.ListN.{length, take, drop, length-take, length-drop, take-append-drop, drop_of_length-le}
use lib.Seq.{length-take-le, take-take, drop-drop}
use Rattle.fields.specs.Field.{field, bytes_of}
use Rattle.fields.proofs.Basics.{never, clash, drop_take, le_or_lt, and_left, and_right, and_both}
use Rattle.fields.proofs.Fields.{field_drop, field_take}
use Rattle.fields.proofs.Spelling.{Bytes, bytes_take, bytes_drop, bytes_append, field_bytes, length_bytes}
use Rattle.table.specs.Answer.{Answer, accepted, refused}
use Rattle.blocks.specs.Block.{sum_of, zeros}
use Rattle.blocks.specs.Run.{blocks_for, judge_blocks, judge_run}
use Rattle.blocks.proofs.Sums.{weighed_front, sum_small}
use Rattle.blocks.proofs.Blocks.{Passing as Block, passing_then, passes as block_passes}
use Rattle.books.specs.Book.{every, places_of, place_at, entry_at, zone_of, setting_of, sound_length, passes}
use Rattle.books.specs.Book.{sound_blocks, sound_place, sound_places, sound_book, is_for, seen_in, seen_before, again, twice_in}
use Rattle.fields.specs.Over.{over}
use Rattle.books.specs.Change.{no_entry_bytes, block_at, renewed, put_entry}
use Rattle.fields.proofs.Over.{length_over}
use Rattle.books.proofs.Laws.{every_stop, some_none}
use Rattle.books.proofs.Marking.{for_parts}
use Rattle.booked.specs.Said.{Passing}
use Rattle.booked.proofs.Parts.{part_before, part_behind, part_same, put_length, put_places, put_same}
use Rattle.booked.proofs.Parts.{put_other}
use Rattle.booked.proofs.Best.{Alike, alike_back, apart, places_sound}

-- two numbers are equal or not
pub same_or_other : (a b : ℕ) → (a ≡ b) ⊎ (a ≡ b → ⊥)
same_or_other a b = ⊎_elim
    (λ (h : a ≤ b). ⊎_elim (λ (k : b ≤ a). let e : a ≡ b = omega arith in inl e)
    (λ (k : a < b). inr (λ (e : a ≡ b). omega arith)) (le_or_lt b a))
    (λ (h : b < a). inr (λ (e : a ≡ b). omega arith)) (le_or_lt a b)

-- a run of full blocks passes exactly if each block does
blocks_each : (n number : ℕ) (bs : List ℕ) → judge_blocks n number (504 * n) bs ≡ accepted [] → (j : ℕ) → j < n
    → Block (number + j) 504 (drop (512 * j) bs)
unfolding judge_blocks
blocks_each zero number bs e j h = absurd (omega arith)
blocks_each (suc n) number bs e j h =
    let full : min 504 (504 * suc n) ≡ 504 = omega arith in
    let less : 504 * suc n - 504 ≡ 504 * n = omega arith in
    let next : Unit {0} → Answer = λ _. judge_blocks n (number + 1) (504 * n) (drop 512 bs) in
    let step = passing_then number 504 bs next (rw (full, less) at e) in
    go j h step.0 (blocks_each n (number + 1) (drop 512 bs) step.1)
  where
    go : (j : ℕ) → j < suc n → Block number 504 bs
        → ((i : ℕ) → i < n → Block (number + 1 + i) 504 (drop (512 * i) (drop 512 bs)))
        → Block (number + j) 504 (drop (512 * j) bs)
    go zero h first others = rw (add-zero number) first
    go (suc i) h first others =
        let number_is : number + suc i ≡ number + 1 + i = omega arith in
        let at : 512 * suc i ≡ 512 + 512 * i = omega arith in
        rw (number_is, at, ← drop-drop (512 * i) 512 bs) (others i (omega arith))

each_blocks : (n number : ℕ) (bs : List ℕ) → ((j : ℕ) → j < n → Block (number + j) 504 (drop (512 * j) bs))
    → judge_blocks n number (504 * n) bs ≡ accepted []
unfolding judge_blocks
each_blocks zero number bs f = refl
each_blocks (suc n) number bs f =
    let full : min 504 (504 * suc n) ≡ 504 = omega arith in
    let less : 504 * suc n - 504 ≡ 504 * n = omega arith in
    let first : Block number 504 bs = rw (add-zero number) at (f 0 (omega arith)) in
    let others : (j : ℕ) → j < n → Block (number + 1 + j) 504 (drop (512 * j) (drop 512 bs)) = λ j h.
    let number_is : number + 1 + j ≡ number + suc j = omega arith in
    let at : 512 + 512 * j ≡ 512 * suc j = omega arith in
    rw (number_is, drop-drop (512 * j) 512 bs, at) (f (suc j) (omega arith)) in
    rw (full, less, block_passes number 504 bs first) (each_blocks n (number + 1) (drop 512 bs) others)

passes_is : (a : Answer) → passes a ≡ true → a ≡ accepted []
passes_is (accepted []) e = refl
passes_is (accepted (v ∷ vs)) e = never (cc)
passes_is (refused n vs) e = never (cc)

module _ (book : List ℕ) where
  count : blocks_for (504 * (length book / 512)) ≡ length book / 512
  unfolding blocks_for
  count = omega arith

  pub run_each : sound_blocks book ≡ true → (j : ℕ) → j < length book / 512 → Block j 504 (drop (512 * j) book)
  unfolding judge_run
  run_each e j h = rw (zero-add j) at (blocks_each (length book / 512) 0 book
      (rw count at (passes_is (judge_run 0 (504 * (length book / 512)) book) e)) j h)

  pub each_run : ((j : ℕ) → j < length book / 512 → Block j 504 (drop (512 * j) book)) → sound_blocks book ≡ true
  unfolding judge_run
  each_run f = rw (count, each_blocks (length book / 512) 0 book (λ j h. rw (zero-add j) (f j h))) refl

-- the judgement of a block depends on its 512 bytes alone
block_same : (j : ℕ) (bs cs : List ℕ) → take 512 cs ≡ take 512 bs → 512 ≤ length cs → Block j 504 bs → Block j 504 cs
block_same j bs cs e long b = record {
  long = long;
  check = rw e b.check;
  numbered = rw e b.numbered;
  said = rw e b.said;
  padding = rw e b.padding;
}

-- the sum depends on the first 508 bytes alone
sum_front : (l : List ℕ) → 508 ≤ length l → sum_of l ≡ sum_of (take 508 l)
unfolding sum_of
sum_front l h = ap sum_of (sym (take-append-drop 508 l))
    ∙ weighed_front 508 (take 508 l) (drop 508 l) (omega (arith, length-take-le 508 l h))

module _ (book : List ℕ) (p : ℕ) (e : List ℕ) (h : p < places_of book) (long : length e ≡ 24) (small : Bytes book)
    (small-e : Bytes e) where
  abbrev k : ℕ
  k = p / 21

  abbrev mid : List ℕ
  mid = over (place_at p) e book

  abbrev check : List ℕ
  check = bytes_of 4 (sum_of (block_at mid k))

  abbrev new : List ℕ
  new = over (512 * k + 508) check mid

  four : length check ≡ 4
  four = length_bytes 4 (sum_of (block_at mid k))

  room : place_at p + length e ≤ length book
  room = omega arith

  mid_long : length mid ≡ length book
  mid_long = length_over (place_at p) e book room

  room2 : 512 * k + 508 + length check ≤ length mid
  room2 = omega (arith, mid_long, four)

  new_long : length new ≡ length book
  new_long = length_over (512 * k + 508) check mid room2 ∙ mid_long

  mid_small : Bytes mid
  unfolding over
  mid_small = bytes_append (take (place_at p) book) _ (bytes_take book (place_at p) small)
      (bytes_append e _ small-e (bytes_drop book (place_at p + length e) small))

  -- every other block is unchanged
  other_block : (j : ℕ) → j < length book / 512 → (j ≡ k → ⊥)
      → take 512 (drop (512 * j) new) ≡ take 512 (drop (512 * j) book)
  other_block j inside other = ⊎_elim
      (λ (q : k ≤ j).
      let after : k < j = omega (arith, other) in
      ap (take 512) (part_behind (512 * k + 508) check mid room2 (512 * j) (omega (arith, four))
      ∙ part_behind (place_at p) e book room (512 * j) (omega arith)))
      (λ (q : j < k).
      part_before (512 * k + 508) check mid room2 (512 * j) 512 (omega arith)
      ∙ part_before (place_at p) e book room (512 * j) 512 (omega arith))
      (le_or_lt k j)

  -- the changed block keeps its head, and its sum is correct
  abbrev own : List ℕ
  own = take 512 (drop (512 * k) new)

  own_head : take 4 own ≡ take 4 (take 512 (drop (512 * k) book))
  own_head = take-take 4 512 (drop (512 * k) new) (omega arith)
      ∙ part_before (512 * k + 508) check mid room2 (512 * k) 4 (omega arith)
      ∙ part_before (place_at p) e book room (512 * k) 4 (omega arith)
      ∙ sym (take-take 4 512 (drop (512 * k) book) (omega arith))

  own_field : (at : ℕ) → at + 2 ≤ 4 → field 2 own at ≡ field 2 (take 512 (drop (512 * k) book)) at
  own_field at q = sym (field_take 2 own 4 at q) ∙ ap (λ (l : List ℕ). field 2 l at) own_head
      ∙ field_take 2 (take 512 (drop (512 * k) book)) 4 at q

  own_room : 512 ≤ length (drop (512 * k) new)
  own_room = simp length-drop (omega (arith, new_long))

  own_long : length own ≡ 512
  own_long = length-take-le 512 (drop (512 * k) new) own_room

  own_sum : sum_of own ≡ sum_of (block_at mid k)
  own_sum =
      let front : take 508 own ≡ take 508 (block_at mid k) =
      take-take 508 512 (drop (512 * k) new) (omega arith)
      ∙ part_before (512 * k + 508) check mid room2 (512 * k) 508 (omega arith)
      ∙ sym (take-take 508 512 (drop (512 * k) mid) (omega arith)) in
      let there : length (block_at mid k) ≡ 512 =
      length-take-le 512 (drop (512 * k) mid) (simp length-drop (omega (arith, mid_long))) in
      sum_front own (omega (arith, own_long)) ∙ ap sum_of front ∙ sym (sum_front (block_at mid k) (omega arith))

  own_check : field 4 own 508 ≡ sum_of (block_at mid k)
  own_check =
      let s : ℕ = sum_of (block_at mid k) in
      let tail : drop 508 own ≡ check =
      drop_take 508 512 (drop (512 * k) new) ∙ ap (take 4) (drop-drop 508 (512 * k) new)
      ∙ part_same (512 * k + 508) check mid room2 4 (sym four) in
      let bound : s < 4294967296 =
      sum_small (block_at mid k) (bytes_take (drop (512 * k) mid) 512 (bytes_drop mid (512 * k) mid_small)) in
      sym (field_drop 4 own 508 0) ∙ ap (λ (l : List ℕ). field 4 l 0) (tail ∙ sym (append-nil check))
      ∙ field_bytes 4 s [] bound

  own_block : Block k 504 (drop (512 * k) book) → Block k 504 (drop (512 * k) new)
  unfolding zeros
  own_block b = record {
    long = own_room;
    check = own_sum ∙ sym own_check;
    numbered = own_field 0 (omega arith) ∙ b.numbered;
    said = own_field 2 (omega arith) ∙ b.said;
    padding =
        let none : drop 508 (take 508 own) ≡ [] =
        drop_of_length-le (take 508 own) {i = 508} (simp length-take (omega arith)) in
        rw none refl;
  }

  pub put_blocks : sound_blocks book ≡ true → sound_blocks (put_entry book p e) ≡ true
  unfolding put_entry renewed
  put_blocks s = each_run new (λ j g.
      let inside : j < length book / 512 = rw new_long at g in
      let old : Block j 504 (drop (512 * j) book) = run_each book s j inside in
      ⊎_elim
      (λ (same : j ≡ k). rw same (own_block (rw same at old)))
      (λ (other : j ≡ k → ⊥). block_same j (drop (512 * j) book) (drop (512 * j) new) (other_block j inside other)
      (simp length-drop (omega (arith, new_long))) old)
      (same_or_other j k))

-- tests at all places
pub every_all : (test : ℕ → Bool) (n : ℕ) → ((p : ℕ) → p < n → test p ≡ true) → every test n ≡ true
unfolding every
every_all test zero f = refl
every_all test (suc n) f =
    and_both (every test n) (test n) (every_all test n (λ p h. f p (omega arith))) (f n (omega arith))

every_at : (test : ℕ → Bool) (n : ℕ) → every test n ≡ true → (p : ℕ) → p < n → test p ≡ true
every_at test n e p h = go (test p) refl
  where
    go : (t : Bool) → test p ≡ t → test p ≡ true
    go true f = f
    go false f = clash e (every_stop test n p h f)

-- no zone and setting occurs twice, if no two entries are alike
pub apart_once : (book : List ℕ) (n : ℕ)
    → ((p q : ℕ) → q < p → p < n → Alike (entry_at book q) (entry_at book p) → ⊥) → twice_in book n ≡ false
unfolding twice_in again seen_before seen_in
apart_once book n f = some_none (again book) n (λ p h. here p h (zeros (entry_at book p)) refl)
  where
    one : (p q : ℕ) → p < n → q < p → zeros (entry_at book p) ≡ false → (t : Bool)
        → is_for (zone_of (entry_at book p)) (setting_of (entry_at book p)) (entry_at book q) ≡ t → t ≡ false
    one p q h g taken false e = refl
    one p q h g taken true e =
        let same = for_parts e in
        absurd (f p q g h record { taken = same.taken; other = taken; zones = same.zoned; settings = same.set })

    here : (p : ℕ) → p < n → (x : Bool) → zeros (entry_at book p) ≡ x → (not x && seen_before book p) ≡ false
    here p h true x-is = refl
    here p h false x-is = some_none
        (λ q. is_for (zone_of (entry_at book p)) (setting_of (entry_at book p)) (entry_at book q)) p
        (λ q g. one p q h g x-is (is_for (zone_of (entry_at book p)) (setting_of (entry_at book p)) (entry_at book q))
        refl)

-- an entry that no other place of a book has
pub record Fresh (book : List ℕ) (p : ℕ) (e : List ℕ) : Type 0 where
  pub alone : (q : ℕ) → q < places_of book → (q ≡ p → ⊥) → Alike (entry_at book q) e → ⊥

-- an empty place repeats no entry
pub none_fresh : (book : List ℕ) (p : ℕ) → Fresh book p no_entry_bytes
unfolding zeros
none_fresh book p = record { alone = λ q h other alike. clash refl alike.other }

module _ {line : Bool} {book : List ℕ} (b : Passing line book) (p : ℕ) (e : List ℕ) (h : p < places_of book)
    (long : length e ≡ 24) where
  put_sound : sound_place line e ≡ true → sound_places line (put_entry book p e) (places_of (put_entry book p e)) ≡ true
  unfolding sound_places
  put_sound s = rw (put_places book p e h long) (every_all
      (λ q. sound_place line (entry_at (put_entry book p e) q)) (places_of book) (λ q g. ⊎_elim
      (λ (same : q ≡ p). rw (same, put_same book p e h long) s)
      (λ (other : q ≡ p → ⊥). rw (put_other book p e h long q other)
      (every_at (λ r. sound_place line (entry_at book r)) (places_of book) (places_sound b) q g))
      (same_or_other q p)))

  -- two places of the new book: one is the new entry's, or both are old
  put_apart : Fresh book p e → (r q : ℕ) → q < r → r < places_of book
      → Alike (entry_at (put_entry book p e) q) (entry_at (put_entry book p e) r) → ⊥
  put_apart f r q g i alike = ⊎_elim
      (λ (same : r ≡ p).
      let other : q ≡ p → ⊥ = λ x. omega arith in
      let new : entry_at (put_entry book p e) r ≡ e = rw same (put_same book p e h long) in
      f.alone q (omega arith) other (rw (new, put_other book p e h long q other) at alike))
      (λ (other : r ≡ p → ⊥). ⊎_elim
      (λ (same : q ≡ p).
      let new : entry_at (put_entry book p e) q ≡ e = rw same (put_same book p e h long) in
      f.alone r i other (alike_back (rw (new, put_other book p e h long r other) at alike)))
      (λ (other-q : q ≡ p → ⊥). apart b r q g i
      (rw (put_other book p e h long q other-q, put_other book p e h long r other) at alike))
      (same_or_other q p))
      (same_or_other r p)

  put_once : Fresh book p e → twice_in (put_entry book p e) (places_of (put_entry book p e)) ≡ false
  put_once f = rw (put_places book p e h long) (apart_once (put_entry book p e) (places_of book) (put_apart f))

  -- THEOREM 5: the book passes again
  pub put_passes : Bytes book → Bytes e → sound_place line e ≡ true → Fresh book p e → Passing line (put_entry book p e)
  unfolding sound_book
  put_passes small small-e s f =
      let l : sound_length (length book) ≡ true = and_left (sound_length (length book)) _ b.sound in
      let bl : sound_blocks book ≡ true = and_left (sound_blocks book) _
      (and_right (sound_length (length book)) _ b.sound) in
      let length-so : sound_length (length (put_entry book p e)) ≡ true = rw (put_length book p e h long) l in
      record {
        sound = and_both (sound_length (length (put_entry book p e))) _ length-so
            (and_both (sound_blocks (put_entry book p e)) _ (put_blocks book p e h long small small-e bl)
            (put_sound s));
        once = put_once f;
      }
