-- THEOREM 5: an empty book of 1 to 100 blocks passes 95 and 96, as zone book and as line book (`blank_passes`). Each
-- of its blocks is the block of its number and 504 zero bytes, which passes (blocks' `block_passes`), and each place
-- is a piece of those zeros. The induction is on the blocks (`blank_drop`). Assumes nothing.
use mathlib.Core.Path.{◌≡◌, refl, sym, ap, ◌∙◌}
use mathlib.Core.Bool.{Bool, true}
use mathlib.Core.Logic.{⊎_elim}
use mathlib.Core.List.{List, [], ◌∷◌, ◌++◌, append_assoc, append-nil}
use Prim.Native.Nat.{ℕ, zero, suc, ◌+◌, ◌*◌, ◌-◌, ◌/◌, ◌%◌, ◌<◌, ◌≤◌}
use native.Mathlib.Omega.{arith}
use lib.ListN.{length, take, drop, replicate, length-replicate}
use lib.Seq.{drop_at, drop-append-le, take-take}
use lib.Dec.{eqb}
use borrow.Author.Tests.{eq-eqb, le-leb}
use Rattle.fields.proofs.Basics.{clash, and_left, and_right, and_both, le_or_lt, drop_take}
use Rattle.fields.proofs.Spelling.{bytes_zeros}
use Rattle.blocks.specs.Block.{zeros, block_of}
use Rattle.blocks.proofs.Blocks.{Passing as Block, passing, block_passes, content_there}
use Rattle.books.specs.Book.{every, places_of, entry_at, sound_length, sound_blocks, sound_place, sound_places}
use Rattle.books.specs.Book.{sound_book}
use Rattle.books.specs.Change.{blank_blocks}
use Rattle.books.proofs.Blanks.{blank_long}
use Rattle.booked.specs.Said.{Passing}
use Rattle.booked.proofs.Kept.{each_run, every_all, apart_once}
use Rattle.booked.proofs.Whole.{place_piece}

abbrev none : List ℕ
none = replicate 504 0

-- zeros stay zeros
zeros_drop : (n : ℕ) (l : List ℕ) → zeros l ≡ true → zeros (drop n l) ≡ true
unfolding zeros
zeros_drop zero l e = e
zeros_drop (suc n) [] e = e
zeros_drop (suc n) (x ∷ l) e = zeros_drop n l (and_right (eqb x 0) (zeros l) e)

zeros_take : (n : ℕ) (l : List ℕ) → zeros l ≡ true → zeros (take n l) ≡ true
unfolding zeros
zeros_take zero l e = refl
zeros_take (suc n) [] e = e
zeros_take (suc n) (x ∷ l) e =
    and_both (eqb x 0) (zeros (take n l)) (and_left (eqb x 0) (zeros l) e)
    (zeros_take n l (and_right (eqb x 0) (zeros l) e))

-- a piece of 504 zero bytes
piece_zeros : (l : List ℕ) (i : ℕ) → i < 21 → zeros (take 504 l) ≡ true → zeros (take 24 (drop (24 * i) l)) ≡ true
piece_zeros l i h all =
    let cut : take 24 (drop (24 * i) (take 504 l)) ≡ take 24 (drop (24 * i) l) =
    ap (take 24) (drop_take (24 * i) 504 l) ∙ take-take 24 (504 - 24 * i) (drop (24 * i) l) (omega arith) in
    rw (← cut) (zeros_take 24 (drop (24 * i) (take 504 l)) (zeros_drop (24 * i) (take 504 l) all))

-- the bytes from the beginning of a block on
pub record Begins (book : List ℕ) (j : ℕ) : Type 0 where
  pub rest : List ℕ
  pub is : drop (512 * j) book ≡ block_of j none ++ rest

blank_drop : (n j : ℕ) → j < n → Begins (blank_blocks n) j
unfolding blank_blocks
blank_drop zero j h = absurd (omega arith)
blank_drop (suc n) j h = ⊎_elim
    (λ (k : n ≤ j).
    let same : j ≡ n = omega arith in
    let last : drop (512 * n) (blank_blocks n ++ block_of n none) ≡ block_of n none =
    drop_at (blank_blocks n) (block_of n none) (512 * n) (blank_long n) in
    rw same record { rest = []; is = last ∙ sym (append-nil (block_of n none)) })
    (λ (k : j < n).
    let before : Begins (blank_blocks n) j = blank_drop n j k in
    record {
      rest = before.rest ++ block_of n none;
      is = drop-append-le (512 * j) (blank_blocks n) (block_of n none) (omega (arith, blank_long n))
          ∙ ap (λ (l : List ℕ). l ++ block_of n none) before.is
          ∙ append_assoc (block_of j none) before.rest (block_of n none);
    })
    (le_or_lt n j)

fits : length none ≤ 504
fits = omega (arith, length-replicate {A = ℕ} 504 0)

module _ (line : Bool) (n : ℕ) (some : 1 ≤ n) (most : n ≤ 100) where
  blocks_are : length (blank_blocks n) / 512 ≡ n
  blocks_are = omega (arith, blank_long n)

  one_block : (j : ℕ) → j < n → Block j 504 (drop (512 * j) (blank_blocks n))
  one_block j h =
      let b : Begins (blank_blocks n) j = blank_drop n j h in
      let p = block_passes j none fits (bytes_zeros 504) (omega arith) b.rest in
      rw b.is (passing j 504 (block_of j none ++ b.rest) p)

  block_zeros : (j : ℕ) → j < n → zeros (take 504 (drop 4 (drop (512 * j) (blank_blocks n)))) ≡ true
  unfolding zeros
  block_zeros j h =
      let b : Begins (blank_blocks n) j = blank_drop n j h in rw (b.is, content_there j none fits b.rest) refl

  place_zeros : (p : ℕ) → p < 21 * n → zeros (entry_at (blank_blocks n) p) ≡ true
  place_zeros p h =
      let j : ℕ = p / 21 in
      let i : ℕ = p % 21 in
      let at : 21 * j + i ≡ p = omega arith in
      let piece = piece_zeros (drop 4 (drop (512 * j) (blank_blocks n))) i (omega arith)
      (block_zeros j (omega arith)) in
      rw (place_piece (blank_blocks n) j i (omega arith), at) at piece

  -- THEOREM 5: an empty book passes
  pub blank_passes : Passing line (blank_blocks n)
  unfolding sound_book sound_places sound_place
  blank_passes =
      let book : List ℕ = blank_blocks n in
      let whole : length book % 512 ≡ 0 = omega (arith, blank_long n) in
      let size : sound_length (length book) ≡ true = rw (
        eq-eqb (length book % 512) 0 whole,
        blocks_are,
        le-leb 1 n some,
        le-leb n 100 most,
      ) refl in
      let blocks : sound_blocks book ≡ true = each_run book (λ j h. one_block j (rw blocks_are at h)) in
      let places : every (λ p. sound_place line (entry_at book p)) (places_of book) ≡ true =
      every_all (λ p. sound_place line (entry_at book p)) (places_of book)
      (λ p h. rw (place_zeros p (rw blocks_are at h)) refl) in
      record {
        sound = and_both (sound_length (length book)) _ size (and_both (sound_blocks book) _ blocks places);
        once = apart_once book (places_of book) (λ p q g h alike.
            clash (place_zeros p (rw blocks_are at h)) alike.other);
      }
