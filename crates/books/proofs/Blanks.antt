-- Laws of an empty book. An empty block is made in two steps: the number and 504 used bytes are written over zeros,
-- then the sum. The result is the block of 504 zero bytes (`blank_block_is`), because the sum of the first 508 bytes
-- does not depend on the four bytes after them. The loop writes one block a turn; its invariant `Blanking` says that
-- the buffer begins with the first k empty blocks and is unchanged after them, so after n turns it is the empty book
-- (`blank_end`). `blank_refused` to `blank_made` are the returns of `blank`. Assumes nothing.
use mathlib.Core.Path.{◌≡◌, refl, sym, ap, ◌∙◌}
use mathlib.Core.Bool.{Bool, true, false}
use mathlib.Core.List.{List, [], ◌++◌, append-nil}
use Prim.Native.Nat.{ℕ, zero, suc, ◌+◌, ◌*◌, ◌/◌, ◌%◌, ◌<◌, ◌≤◌}
use native.Mathlib.Numerals.{add-one}
use native.Mathlib.Omega.{arith}
use lib.ListN.{length, drop, replicate, length-append, length-replicate, drop_of_length-le}
use borrow.Author.Tests.{eqb-true}
use lib.Dec.{eqb}
use Rattle.fields.specs.Field.{bytes_of}
use Rattle.fields.proofs.Basics.{and_left}
use Rattle.blocks.specs.Block.{sum_of, before_sum, block_of}
use Rattle.blocks.proofs.Sums.{weighed_front}
use Rattle.blocks.proofs.Blocks.{length_front, length_block}
use Rattle.books.specs.Book.{sound_length}
use Rattle.fields.specs.Over.{over}
use Rattle.blocks.specs.Laid.{laid_at}
use Rattle.blocks.proofs.Laying.{laid_fits}
use Rattle.books.specs.Change.{blank_blocks, blank_of, blank_after}
use Rattle.fields.proofs.Over.{over_front, over_next, over_none, length_over}

zeros_long : length (replicate {A = ℕ} 504 0) ≡ 504
zeros_long = length-replicate {A = ℕ} 504 0

module _ (k : ℕ) where
  -- the bytes before the sum
  abbrev front : List ℕ
  front = before_sum k (replicate 504 0)

  -- the number and 504 used bytes, written over zeros
  head_laid : laid_at 0 (bytes_of 2 k ++ bytes_of 2 504) (replicate 512 0) ≡ front ++ replicate 4 0
  unfolding laid_at over bytes_of before_sum
  head_laid = refl

  -- the sum, written after them
  sum_laid : (s : ℕ) → laid_at 508 (bytes_of 4 s) (front ++ replicate 4 0) ≡ front ++ bytes_of 4 s
  unfolding laid_at over bytes_of before_sum
  sum_laid s = refl

  pub blank_block_is : {head b₁ check b₂ : List ℕ} {s : ℕ} → head ≡ bytes_of 2 k ++ bytes_of 2 504
      → b₁ ≡ laid_at 0 head (replicate 512 0) → s ≡ sum_of b₁ → check ≡ bytes_of 4 s → b₂ ≡ laid_at 508 check b₁
      → b₂ ≡ block_of k (replicate 504 0)
  unfolding block_of sum_of
  blank_block_is {b₁ = b₁} {s = s} head_is b₁_is s-is check-is b₂_is =
      let long : length front ≡ 508 = length_front k (replicate 504 0) (omega (arith, zeros_long)) in
      let laid : b₁ ≡ front ++ replicate 4 0 = b₁_is ∙ rw head_is head_laid in
      let sum : s ≡ sum_of front = s-is ∙ ap sum_of laid ∙ weighed_front 508 front (replicate 4 0) (omega arith) in
      b₂_is ∙ rw (check-is, laid, sum_laid, sum) refl

pub blank_long : (k : ℕ) → length (blank_blocks k) ≡ 512 * k
unfolding blank_blocks
blank_long zero = refl
blank_long (suc k) = simp length-append
    (omega (arith, blank_long k, length_block k (replicate 504 0) (omega (arith, zeros_long))))

-- the invariant of the loop: the first k blocks are written
pub record Blanking (d : List ℕ) (n : ℕ) (book : List ℕ) (k : ℕ) : Type 0 where
  pub all : length d ≡ 512 * n
  pub upto : k ≤ n
  pub is : book ≡ over 0 (blank_blocks k) d

pub blank_start : (d : List ℕ) (n : ℕ) → length d ≡ 512 * n → Blanking d n d 0
unfolding blank_blocks
blank_start d n h = record { all = h; upto = omega arith; is = sym (over_none 0 d) }

module _ {d : List ℕ} {n : ℕ} {book : List ℕ} {k : ℕ} (s : Blanking d n book k) where
  pub blank_same : length book ≡ length d
  blank_same = ap length s.is
      ∙ length_over 0 (blank_blocks k) d (omega (arith, blank_long k, s.all, s.upto))

  pub blank_room : (b : List ℕ) → length b ≡ 512 → k < n → 512 * k + length b ≤ length book
  blank_room b e h = omega (arith, blank_same, s.all)

  pub blank_on : k < n → {b o : List ℕ} → b ≡ block_of k (replicate 504 0) → o ≡ laid_at (512 * k) b book
      → Blanking d n o (k + 1)
  unfolding blank_blocks
  blank_on h {b} {o} b_is o_is = record {
    all = s.all;
    upto = omega arith;
    is =
        let at : 512 * k ≡ 0 + length (blank_blocks k) = omega (arith, blank_long k) in
        let long : length b ≡ 512 = ap length b_is ∙ length_block k (replicate 504 0) (omega (arith, zeros_long)) in
        let o-so : o ≡ over (512 * k) b book = o_is ∙ laid_fits (512 * k) b book (blank_room b long h) in
        rw (add-one k, o-so, s.is, at, b_is) (over_next 0 (blank_blocks k) d (block_of k (replicate 504 0)));
  }

  pub blank_end : n ≤ k → book ≡ blank_blocks n
  blank_end h =
      let e : k ≡ n = omega (arith, s.upto) in
      let none : drop (length (blank_blocks n)) d ≡ [] =
      drop_of_length-le d {i = length (blank_blocks n)} (omega (arith, blank_long n, s.all)) in
      (rw e at s.is) ∙ over_front (blank_blocks n) d ∙ rw (none, append-nil) refl

-- the returns of `blank`
module _ (book : List ℕ) {t : Bool} (t-is : t ≡ sound_length (length book)) where
  pub blank_refused : t ≡ false → 95 ≡ blank_of (length book)
  unfolding blank_of
  blank_refused f = rw (← t-is, f) refl

  pub blank_stays : t ≡ false → book ≡ blank_after book
  unfolding blank_after
  blank_stays f = rw (← t-is, f) refl

  pub blank_blocks_lem : t ≡ true → length book ≡ 512 * (length book / 512)
  blank_blocks_lem f =
      let whole : length book % 512 ≡ 0 = eqb-true (length book % 512) 0
      (and_left (eqb (length book % 512) 0) _ (sym t-is ∙ f)) in
      omega arith

  pub blank_accepted : t ≡ true → 0 ≡ blank_of (length book)
  unfolding blank_of
  blank_accepted f = rw (← t-is, f) refl

  pub blank_made : t ≡ true → {o : List ℕ} → o ≡ blank_blocks (length book / 512) → o ≡ blank_after book
  unfolding blank_after
  blank_made f o_is = o_is ∙ rw (← t-is, f) refl
