-- Two books that pass, have the same length, and have the same entry at every place, are equal byte for byte
-- (`same_book`). A block that passes is the block of its number and content (blocks' `passed_is_block`), and the
-- content is its 21 places. Lists that agree piece by piece are equal, by induction on the number of pieces (`pieces`):
-- 21 pieces of 24 bytes are a content (`same_content`), and the blocks are the book. So removing the entry that was
-- just added restores the book (Back's `add_remove`). Assumes nothing.
use mathlib.Core.Path.{◌≡◌, refl, sym, ap, ◌∙◌}
use mathlib.Core.Bool.{Bool, true}
use mathlib.Core.List.{List}
use Prim.Native.Nat.{ℕ, zero, suc, ◌+◌, ◌*◌, ◌/◌, ◌%◌, ◌<◌}
use native.Mathlib.Nat.{mul-zero, mul-suc}
use native.Mathlib.Omega.{arith}
use lib.ListN.{length, take, drop}
use lib.Seq.{take_all, take-add, drop-drop}
use lib.Dec.{eqb}
use borrow.Author.Tests.{eqb-true}
use Rattle.fields.proofs.Basics.{and_left, and_right}
use Rattle.fields.proofs.Spelling.{Bytes, bytes_drop}
use Rattle.blocks.specs.Block.{block_of}
use Rattle.blocks.proofs.Blocks.{passed_is_block}
use Rattle.books.specs.Book.{places_of, place_at, entry_at, sound_length, sound_blocks, sound_book}
use Rattle.booked.specs.Said.{Passing}
use Rattle.booked.proofs.Kept.{run_each}

-- lists that agree in their first m pieces of w bytes agree in those bytes
pieces : (w m : ℕ) (l k : List ℕ) → ((i : ℕ) → i < m → take w (drop (w * i) l) ≡ take w (drop (w * i) k))
    → take (w * m) l ≡ take (w * m) k
pieces w zero l k f = rw (mul-zero w) refl
pieces w (suc m) l k f =
    let before : take (w * m) l ≡ take (w * m) k = pieces w m l k (λ i h. f i (omega arith)) in
    rw (mul-suc w m, take-add (w * m) w l, take-add (w * m) w k, before, f m (omega arith)) refl

-- a place of a block is a piece of its content
pub place_piece : (book : List ℕ) (j i : ℕ) → i < 21
    → take 24 (drop (24 * i) (drop 4 (drop (512 * j) book))) ≡ entry_at book (21 * j + i)
unfolding entry_at
place_piece book j i h =
    let at : 512 * j + 4 + 24 * i ≡ place_at (21 * j + i) =
    let q : (21 * j + i) / 21 ≡ j = omega arith in
    let r : (21 * j + i) % 21 ≡ i = omega arith in
    rw (q, r) (omega arith) in
    ap (λ (x : List ℕ). take 24 (drop (24 * i) x)) (drop-drop 4 (512 * j) book)
    ∙ ap (take 24) (drop-drop (24 * i) (512 * j + 4) book) ∙ ap (λ (n : ℕ). take 24 (drop n book)) at

module _ {line : Bool} {book : List ℕ} (b : Passing line book) where
  pub blocks_sound : sound_blocks book ≡ true
  unfolding sound_book
  blocks_sound = and_left (sound_blocks book) _ (and_right (sound_length (length book)) _ b.sound)

  pub whole_blocks : length book ≡ 512 * (length book / 512)
  unfolding sound_book
  whole_blocks =
      let l : sound_length (length book) ≡ true = and_left (sound_length (length book)) _ b.sound in
      let e : length book % 512 ≡ 0 = eqb-true (length book % 512) 0 (and_left (eqb (length book % 512) 0) _ l) in
      omega arith

-- two books that pass and have the same entry at every place
module _ {line other : Bool} {a b : List ℕ} (pa : Passing line a) (pb : Passing other b) (small-a : Bytes a)
    (small_b : Bytes b) (long : length a ≡ length b)
    (same : (p : ℕ) → p < places_of a → entry_at a p ≡ entry_at b p) where
  same_content : (j : ℕ) → j < length a / 512
      → take 504 (drop 4 (drop (512 * j) a)) ≡ take 504 (drop 4 (drop (512 * j) b))
  same_content j h = pieces 24 21 (drop 4 (drop (512 * j) a)) (drop 4 (drop (512 * j) b))
      (λ i g. place_piece a j i g ∙ same (21 * j + i) (omega arith) ∙ sym (place_piece b j i g))

  same_block : (j : ℕ) → j < length a / 512 → take 512 (drop (512 * j) a) ≡ take 512 (drop (512 * j) b)
  same_block j h =
      let block-a = run_each a (blocks_sound pa) j h in
      let block-b = run_each b (blocks_sound pb) j (rw (← long) h) in
      passed_is_block j 504 (drop (512 * j) a) (omega arith) (bytes_drop a (512 * j) small-a) block-a
      ∙ ap (block_of j) (same_content j h)
      ∙ sym (passed_is_block j 504 (drop (512 * j) b) (omega arith) (bytes_drop b (512 * j) small_b) block-b)

  -- THEOREM: the entries determine the book
  pub same_book : a ≡ b
  same_book =
      let n : ℕ = length a / 512 in
      sym (take_all (512 * n) a (omega (arith, whole_blocks pa))) ∙ pieces 512 n a b same_block
      ∙ take_all (512 * n) b (omega (arith, whole_blocks pa))
