-- Laws of bytes that are written over part of a buffer. The loop stores one byte a turn: after i turns the buffer is
-- the old one with the first i bytes pasted over it (`Putting`), and at the end with all of them (`put_end`). A part
-- that is replaced by as many bytes is `over`, too (`put_over`). Bytes that fit are written by `over` (`laid_fits`),
-- bytes that do not fit change nothing (`laid_away`), and the length stays the same in both cases (`length_laid`).
-- `put_away`, `put_room` and `put_whole` are the laws of `put`. Assumes nothing.
use mathlib.Core.Path.{◌≡◌, refl, sym, ap, ◌∙◌}
use mathlib.Core.Bool.{Bool, true, false}
use mathlib.Core.Logic.{⊎_elim}
use mathlib.Core.List.{List, ◌++◌, append_assoc}
use Prim.Native.Nat.{ℕ, ◌+◌, ◌-◌, ◌<◌, ◌≤◌}
use native.Mathlib.Numerals.{add-one}
use native.Mathlib.Omega.{arith}
use borrow.Rule.Slice.PartMut.{post_of}
use lib.ListN.{length, get_or, take, drop, set}
use lib.Seq.{drop-drop, paste, paste-zero, paste-suc, length-paste, take-length, length-take-le}
use lib.Dec.{leb}
use borrow.Author.Tests.{le-leb, lt-leb, leb-true}
use Rattle.fields.specs.Over.{over}
use Rattle.fields.proofs.Basics.{le_or_lt}
use Rattle.fields.proofs.Over.{length_over, over_front}
use Rattle.blocks.specs.Laid.{laid_at}

-- out has the first i of the bytes from place `at` on; every other byte is that of d
pub record Putting (d bytes : List ℕ) (at : ℕ) (out : List ℕ) (i : ℕ) : Type 0 where
  pub upto : i ≤ length bytes
  pub room : at + length bytes ≤ length d
  pub is : out ≡ paste d at bytes i

pub put_start : (d bytes : List ℕ) (at : ℕ) → at + length bytes ≤ length d → Putting d bytes at d 0
put_start d bytes at h = record { upto = omega arith; room = h; is = paste-zero d at bytes }

module _ {d bytes : List ℕ} {at : ℕ} {out : List ℕ} {i : ℕ} (s : Putting d bytes at out i) where
  pub put_long : length out ≡ length d
  put_long = ap length s.is
      ∙ length-paste d at bytes i (omega (arith, s.upto, s.room)) s.upto

  pub put_on : i < length bytes → {x : ℕ} → x ≡ get_or bytes i 0 → Putting d bytes at (set out (at + i) x) (i + 1)
  put_on h x-is = record {
    upto = omega arith;
    room = s.room;
    is = rw (s.is, x-is, add-one i) (paste-suc d at bytes i 0 (omega (arith, s.room)) h);
  }

  pub put_end : length bytes ≤ i → out ≡ over at bytes d
  unfolding over
  put_end h =
      let e : i ≡ length bytes = omega (arith, s.upto) in
      let is : out ≡ paste d at bytes (length bytes) = rw e at s.is in
      is ∙ rw (take-length bytes) (append_assoc (take at d) bytes (drop (at + length bytes) d))

-- a part of a buffer that is replaced by as many bytes
pub put_over : (at : ℕ) (bytes d : List ℕ) {new : List ℕ} → new ≡ bytes
    → take at d ++ (new ++ post_of at (at + length bytes - at) d) ≡ over at bytes d
unfolding over
put_over at bytes d is = let all : at + length bytes - at ≡ length bytes = omega arith in
    rw (is, all, drop-drop (length bytes) at d) refl

module _ (at : ℕ) (bs d : List ℕ) where
  pub laid_fits : at + length bs ≤ length d → laid_at at bs d ≡ over at bs d
  unfolding laid_at
  laid_fits h = rw (le-leb (at + length bs) (length d) h) refl

  pub laid_away : length d < at + length bs → laid_at at bs d ≡ d
  unfolding laid_at
  laid_away h = rw (lt-leb (at + length bs) (length d) h) refl

  pub length_laid : length (laid_at at bs d) ≡ length d
  length_laid = ⊎_elim
      (λ (h : at + length bs ≤ length d). ap length (laid_fits h) ∙ length_over at bs d h)
      (λ (h : length d < at + length bs). ap length (laid_away h))
      (le_or_lt (at + length bs) (length d))

-- written over the front of a buffer that has room
pub laid_front : (a d : List ℕ) → length a ≤ length d → laid_at 0 a d ≡ a ++ drop (length a) d
laid_front a d h = laid_fits 0 a d (omega arith) ∙ over_front a d

-- LAW: the first len bytes of a list, written over the front of a buffer
pub laid_part : (from out : List ℕ) {len : ℕ} {after : List ℕ} → (len ≤ length from) × (len ≤ length out)
    → after ≡ laid_at 0 (take (len - 0) from) out → after ≡ take len from ++ drop len out
laid_part from out {len} (there, room) is =
    let all : len - 0 ≡ len = omega arith in
    let long : length (take len from) ≡ len = length-take-le len from there in
    (rw all at is) ∙ laid_front (take len from) out (omega arith) ∙ rw long refl

-- the test for room, as the code computes it
pub fits_not : (at n room : ℕ) → room < at → false ≡ leb (at + n) room
fits_not at n room h = sym (lt-leb (at + n) room (omega arith))

pub fits_is : (at n room : ℕ) → at ≤ room → leb n (room - at) ≡ leb (at + n) room
fits_is at n room h = ⊎_elim
    (λ (k : n ≤ room - at). le-leb n (room - at) k ∙ sym (le-leb (at + n) room (omega arith)))
    (λ (k : room - at < n). lt-leb n (room - at) k ∙ sym (lt-leb (at + n) room (omega arith)))
    (le_or_lt n (room - at))

-- the two returns of `put`
module _ (at : ℕ) (bs d : List ℕ) {t : Bool} (t-is : t ≡ leb (at + length bs) (length d)) where
  pub put_away : t ≡ false → d ≡ laid_at at bs d
  unfolding laid_at
  put_away f = rw (← t-is, f) refl

  pub put_room : t ≡ true → at + length bs ≤ length d
  put_room f = leb-true (at + length bs) (length d) (sym t-is ∙ f)

  pub put_whole : t ≡ true → {o : List ℕ} → o ≡ over at bs d → o ≡ laid_at at bs d
  unfolding laid_at
  put_whole f o_is = o_is ∙ rw (← t-is, f) refl
