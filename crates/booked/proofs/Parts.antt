-- The bytes of a book after a place is written and the sum of its block is renewed: the entry is at its place
-- (`put_same`), every other place is unchanged (`put_other`), and so are the length and the number of places
-- (`put_length`, `put_places`). A place and a sum never overlap, and neither do two places (`places_apart`), so each
-- part of the new book lies before, inside or after the bytes that were written. Assumes nothing.
use mathlib.Core.Path.{◌≡◌, sym, ap, ◌∙◌}
use mathlib.Core.Logic.{◌⊎◌, ⊎_elim}
use mathlib.Core.List.{List, ◌++◌}
use Prim.Native.Nat.{ℕ, ◌+◌, ◌*◌, ◌-◌, ◌/◌, ◌<◌, ◌≤◌}
use native.Mathlib.Omega.{arith}
use lib.ListN.{length, take, drop}
use lib.Seq.{length-take-le, take_at, drop_at, take-take, take-append-le, drop-drop}
use Rattle.fields.proofs.Basics.{drop_take, le_or_lt}
use Rattle.fields.specs.Field.{bytes_of}
use Rattle.fields.proofs.Spelling.{length_bytes}
use Rattle.blocks.specs.Block.{sum_of}
use Rattle.books.specs.Book.{places_of, place_at, entry_at}
use Rattle.fields.specs.Over.{over}
use Rattle.books.specs.Change.{block_at, renewed, put_entry}
use Rattle.fields.proofs.Over.{length_over, over_from}

-- parts of a buffer after bytes were written into it: before them, after them, and the bytes themselves
module _ (at : ℕ) (b d : List ℕ) (h : at + length b ≤ length d) where
  pub part_before : (j m : ℕ) → j + m ≤ at → take m (drop j (over at b d)) ≡ take m (drop j d)
  unfolding over
  part_before j m k =
      let n : j + m - j ≡ m = omega arith in
      let cut : (l : List ℕ) → take m (drop j l) ≡ drop j (take (j + m) l) =
      λ l. sym (drop_take j (j + m) l ∙ ap (λ (x : ℕ). take x (drop j l)) n) in
      let long : length (take at d) ≡ at = length-take-le at d (omega arith) in
      let front : take (j + m) (take at d ++ (b ++ drop (at + length b) d)) ≡ take (j + m) d =
      take-append-le (j + m) (take at d) (b ++ drop (at + length b) d) (omega arith) ∙ take-take (j + m) at d k in
      cut (take at d ++ (b ++ drop (at + length b) d)) ∙ ap (drop j) front ∙ sym (cut d)

  pub part_behind : (j : ℕ) → at + length b ≤ j → drop j (over at b d) ≡ drop j d
  part_behind j k =
      let n : at + length b + (j - (at + length b)) ≡ j = omega arith in
      let split : (l : List ℕ) → drop j l ≡ drop (j - (at + length b)) (drop (at + length b) l) =
      λ l. sym (drop-drop (j - (at + length b)) (at + length b) l ∙ ap (λ (x : ℕ). drop x l) n) in
      split (over at b d) ∙ ap (drop (j - (at + length b))) (over_from at b d) ∙ sym (split d)

  pub part_same : (n : ℕ) → n ≡ length b → take n (drop at (over at b d)) ≡ b
  unfolding over
  part_same n e =
      ap (take n) (drop_at (take at d) (b ++ drop (at + length b) d) at (length-take-le at d (omega arith)))
      ∙ take_at b (drop (at + length b) d) n (sym e)

-- two places never overlap
pub places_apart : (q p : ℕ) → q < p → place_at q + 24 ≤ place_at p
places_apart q p h = ⊎_elim
    (λ (k : p / 21 ≤ q / 21). omega arith)
    (λ (k : q / 21 < p / 21). omega arith)
    (le_or_lt (p / 21) (q / 21))

module _ (book : List ℕ) (p : ℕ) (e : List ℕ) (h : p < places_of book) (long : length e ≡ 24) where
  abbrev mid : List ℕ
  mid = over (place_at p) e book

  abbrev check : List ℕ
  check = bytes_of 4 (sum_of (block_at mid (p / 21)))

  check_four : length check ≡ 4
  check_four = length_bytes 4 (sum_of (block_at mid (p / 21)))

  mid_room : place_at p + length e ≤ length book
  mid_room = omega arith

  mid_long : length mid ≡ length book
  mid_long = length_over (place_at p) e book mid_room

  sum_room : 512 * (p / 21) + 508 + length check ≤ length mid
  sum_room = omega (arith, mid_long, check_four)

  pub put_length : length (put_entry book p e) ≡ length book
  unfolding put_entry renewed
  put_length = length_over (512 * (p / 21) + 508) check mid sum_room ∙ mid_long

  pub put_places : places_of (put_entry book p e) ≡ places_of book
  put_places = ap (λ (n : ℕ). 21 * (n / 512)) put_length

  -- the new sum lies in no place
  past_sum : (q : ℕ) → entry_at (put_entry book p e) q ≡ entry_at mid q
  unfolding put_entry renewed entry_at
  past_sum q = ⊎_elim
      (λ (k : q / 21 ≤ p / 21). part_before (512 * (p / 21) + 508) check mid sum_room (place_at q) 24 (omega arith))
      (λ (k : p / 21 < q / 21). ap (take 24)
      (part_behind (512 * (p / 21) + 508) check mid sum_room (place_at q) (omega (arith, check_four))))
      (le_or_lt (q / 21) (p / 21))

  -- LAW: the entry is at its place
  pub put_same : entry_at (put_entry book p e) p ≡ e
  unfolding entry_at
  put_same = past_sum p ∙ part_same (place_at p) e book mid_room 24 (sym long)

  -- LAW: every other place is unchanged
  pub put_other : (q : ℕ) → (q ≡ p → ⊥) → entry_at (put_entry book p e) q ≡ entry_at book q
  unfolding entry_at
  put_other q other = past_sum q ∙ ⊎_elim
      (λ (k : p ≤ q).
      let apart : place_at p + 24 ≤ place_at q = places_apart p q (omega (arith, other)) in
      ap (take 24) (part_behind (place_at p) e book mid_room (place_at q) (omega arith)))
      (λ (k : q < p). part_before (place_at p) e book mid_room (place_at q) 24 (places_apart q p k))
      (le_or_lt p q)

  -- LAW: every stretch that overlaps neither the place nor the sum of its block is unchanged
  pub put_outside : (j n : ℕ) → (j + n ≤ place_at p) ⊎ (place_at p + 24 ≤ j)
      → (j + n ≤ 512 * (p / 21) + 508) ⊎ (512 * (p / 21) + 512 ≤ j)
      → take n (drop j (put_entry book p e)) ≡ take n (drop j book)
  unfolding put_entry renewed
  put_outside j n place sum =
      ⊎_elim
      (λ (k : j + n ≤ 512 * (p / 21) + 508). part_before (512 * (p / 21) + 508) check mid sum_room j n k)
      (λ (k : 512 * (p / 21) + 512 ≤ j).
      ap (take n) (part_behind (512 * (p / 21) + 508) check mid sum_room j (omega (arith, check_four))))
      sum
      ∙ ⊎_elim
      (λ (k : j + n ≤ place_at p). part_before (place_at p) e book mid_room j n k)
      (λ (k : place_at p + 24 ≤ j). ap (take n) (part_behind (place_at p) e book mid_room j (omega arith)))
      place
