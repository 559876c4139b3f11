-- Laws of `copy`, which copies a content from its blocks into a buffer, and of its callers. The loop copies the used
-- bytes of one block a turn. Its invariant `Copying` (`Turns` counts the turns) says: the bytes copied so far, followed
-- by the content of the remaining blocks, are the whole content, and the rest of the buffer is unchanged. A turn moves
-- one block from the second part to the first (`copy_on`, by blocks' `content_next`); when nothing remains the content
-- is there (`copy_end`). `laid_run`, `laid_names` and `dialect_laid` are the copies into arrays of zeros, `copied_far`
-- to `copied_all` the returns of `copy_content`. Assumes nothing.
use mathlib.Core.Path.{◌≡◌, refl, sym, ap, ◌∙◌}
use mathlib.Core.Bool.{and-false}
use mathlib.Core.List.{List, ◌++◌, append_assoc, append-nil}
use Prim.Native.Nat.{ℕ, zero, suc, ◌+◌, ◌*◌, ◌-◌, ◌/◌, ◌<◌, ◌≤◌, min}
use native.Mathlib.Omega.{arith}
use lib.ListN.{length, take, drop, replicate, length-append, length-drop, drop_of_length-le, take-append-drop}
use lib.Seq.{length-take-le, take_at, drop_at, drop-drop}
use lib.Dec.{leb}
use borrow.Author.Tests.{le-leb, lt-leb}
use borrow.Rule.Slice.PartMut.{put_mid}
use Rattle.fields.proofs.Fields.{tail_part}
use Rattle.blocks.specs.Run.{blocks_for, content_in, content_of}
use Rattle.blocks.proofs.Runs.{blocks_more, content_nothing, content_long, content_full, content_next}
use Rattle.tablefile.specs.Loading.{laid}
use Rattle.tablefile.specs.Lending.{copied}

-- zeros from a place on are zeros
pub drop_zeros : (n m : ℕ) → drop {A = ℕ} m (replicate n 0) ≡ replicate (n - m) 0
drop_zeros n zero = let e : n - 0 ≡ n = omega arith in rw e refl
drop_zeros zero (suc m) = let e : 0 - suc m ≡ 0 = omega arith in rw e refl
drop_zeros (suc n) (suc m) = let e : suc n - suc m ≡ n - m = omega arith in rw e (drop_zeros n m)

-- bytes written over zeros
pub laid_over_lem : (n : ℕ) (l : List ℕ) {m : ℕ} → length l ≡ m → l ++ drop m (replicate n 0) ≡ laid n l
unfolding laid
laid_over_lem n l h = rw (← h, drop_zeros n (length l)) refl

pub laid_run : (bs : List ℕ) (first len n : ℕ) {out : List ℕ} → 512 * (first + blocks_for len) ≤ length bs
    → out ≡ content_of len (drop (512 * first) bs) ++ drop len (replicate n 0)
    → out ≡ laid n (content_of len (drop (512 * first) bs))
laid_run bs first len n h e = e ∙ laid_over_lem n (content_of len (drop (512 * first) bs))
    (content_long len (drop (512 * first) bs) (simp length-drop (omega arith)))

pub laid_names : (bs : List ℕ) (len n : ℕ) {out : List ℕ} → 512 * (1 + blocks_for len) ≤ length bs
    → out ≡ content_of len (drop 512 bs) ++ drop len (replicate n 0) → out ≡ laid n (content_of len (drop 512 bs))
laid_names bs = laid_run bs 1

-- the invariant: the copied bytes and the content of the remaining blocks make the whole content, and the rest of out
-- is unchanged
pub record Copying (bs d : List ℕ) (first len : ℕ) (out : List ℕ) (number done : ℕ) : Type 0 where
  pub upto : done ≤ len
  pub room : len ≤ length d
  pub long : length out ≡ length d
  pub there : 512 * (number + blocks_for (len - done)) ≤ length bs
  pub behind : drop done out ≡ drop done d
  pub same : take done out ++ content_of (len - done) (drop (512 * number) bs) ≡ content_of len (drop (512 * first) bs)

pub copy_start : (bs d : List ℕ) (first len : ℕ) → 512 * (first + blocks_for len) ≤ length bs → len ≤ length d
    → Copying bs d first len d first 0
copy_start bs d first len h k =
    let all : len - 0 ≡ len = omega arith in
    record { upto = omega arith; room = k; long = refl; there = rw all h; behind = refl; same = rw all refl }

put_tail : (a : ℕ) (s ys : List ℕ) → put_mid a (length s - a) s ys ≡ take a s ++ ys
put_tail a s ys = simp (
  drop_of_length-le (drop a s) {i = length s - a} (simp length-drop (omega arith)),
  append-nil,
) refl

module _ {bs d : List ℕ} {first len : ℕ} {out : List ℕ} {number done : ℕ}
    (s : Copying bs d first len out number done) where
  pub copy_end : len ≤ done → out ≡ content_of len (drop (512 * first) bs) ++ drop len d
  copy_end h =
      let e : done ≡ len = omega (arith, s.upto) in
      let none : len - done ≡ 0 = omega arith in
      let all : take done out ++ content_of 0 (drop (512 * number) bs) ≡ content_of len (drop (512 * first) bs) =
      rw none at s.same in
      let copied : take done out ≡ content_of len (drop (512 * first) bs) =
      sym (append-nil (take done out)) ∙ ap (λ (x : List ℕ). take done out ++ x)
      (sym (content_nothing (drop (512 * number) bs))) ∙ all in
      sym (take-append-drop done out) ∙ rw (copied, s.behind, e) refl

  module _ (more : done < len) {used : ℕ} (used-is : used ≡ min 504 (len - done)) {here : List ℕ}
      (here-is : here ≡ content_in number bs) where
    left : len - (done + used) ≡ len - done - 504
    left = omega arith

    one : 512 * (number + 1) ≤ length bs
    one = omega (arith, s.there, blocks_more (len - done) (omega arith))

    pub copy_fits : (used ≤ length here) × (used ≤ length (take (length out - done) (drop done out)))
    copy_fits = (
      rw here-is (omega (arith, content_full number bs one)),
      rw (tail_part done out) (simp length-drop (omega (arith, s.room, s.long))),
    )

    -- the buffer after a turn: what was copied before, the bytes of this block, and the rest
    abbrev front : List ℕ
    front = take done out ++ take used here

    front_long : length front ≡ done + used
    front_long = simp (
      length-append,
      length-take-le done out (omega (arith, s.room, s.long)),
      length-take-le used here copy_fits.0,
    ) refl

    turn_is : {ys : List ℕ} → ys ≡ take used here ++ drop used (take (length out - done) (drop done out))
        → put_mid done (length out - done) out ys ≡ front ++ drop (done + used) out
    turn_is {ys} ys-is =
        let tail : ys ≡ take used here ++ drop (done + used) out =
        rw (tail_part done out, drop-drop used done out) at ys-is in
        put_tail done out ys ∙ rw tail (sym (append_assoc (take done out) (take used here) (drop (done + used) out)))

    pub copy_on : {ys : List ℕ} → ys ≡ take used here ++ drop used (take (length out - done) (drop done out))
        → Copying bs d first len (put_mid done (length out - done) out ys) (number + 1) (done + used)
    copy_on ys-is = rw (turn_is ys-is) record {
      upto = omega arith;
      room = s.room;
      long = length-append front (drop (done + used) out)
          ∙ omega (arith, front_long, length-drop (done + used) out, s.room, s.long);
      there = rw left (omega (arith, s.there, blocks_more (len - done) (omega arith)));
      behind = drop_at front (drop (done + used) out) (done + used) front_long
          ∙ sym (drop-drop used done out) ∙ ap (drop used) s.behind ∙ drop-drop used done d;
      same = rw (
        take_at front (drop (done + used) out) (done + used) front_long,
        left,
        append_assoc (take done out) (take used here) (content_of (len - done - 504) (drop (512 * (number + 1)) bs)),
        here-is,
        used-is,
        ← content_next (len - done) number bs (omega arith) one,
      )
          s.same;
    }

-- the loop: after i blocks, 504 bytes of each are copied, or all
pub record Turns (bs d : List ℕ) (first len : ℕ) (out : List ℕ) (i : ℕ) : Type 0 where
  pub copying : Copying bs d first len out (first + i) (min (504 * i) len)

pub turns_start : {bs d : List ℕ} {first len : ℕ} → 512 * (first + blocks_for len) ≤ length bs → len ≤ length d
    → Turns bs d first len d 0
turns_start {bs} {d} {first} {len} h k =
    let none : min 0 len ≡ 0 = omega arith in
    let at : first + 0 ≡ first = omega arith in
    record { copying = rw (none, at) (copy_start bs d first len h k) }

-- a block that is needed begins before the end
pub begun : (len : ℕ) {i n : ℕ} → n ≡ blocks_for len → i < n → 504 * i < len
unfolding blocks_for
begun len n_is h = omega arith

module _ {bs d : List ℕ} {first len : ℕ} {out : List ℕ} {i : ℕ} (s : Turns bs d first len out i) {n : ℕ}
    (n_is : n ≡ blocks_for len) where
  pub turns_end : n ≤ i → out ≡ content_of len (drop (512 * first) bs) ++ drop len d
  unfolding blocks_for
  turns_end h = copy_end s.copying (omega arith)

  module _ (h : i < n) where
    here : Copying bs d first len out (first + i) (504 * i)
    here = let e : min (504 * i) len ≡ 504 * i = omega (arith, begun len n_is h) in rw e at s.copying

    pub turns_room : 504 * i ≤ length out
    turns_room = omega (arith, begun len n_is h, here.room, here.long)

    module _ {used : ℕ} (used-is : used ≡ min 504 (len - 504 * i)) {content : List ℕ}
        (content_is : content ≡ content_in (first + i) bs) where
      pub turns_fit : (used ≤ length content) × (used ≤ length (take (length out - 504 * i) (drop (504 * i) out)))
      turns_fit = copy_fits here (begun len n_is h) used-is content_is

      pub turns_on : {ys : List ℕ}
          → ys ≡ take used content ++ drop used (take (length out - 504 * i) (drop (504 * i) out))
          → Turns bs d first len (put_mid (504 * i) (length out - 504 * i) out ys) (i + 1)
      turns_on ys-is =
          let at : first + (i + 1) ≡ first + i + 1 = omega arith in
          let upto : min (504 * (i + 1)) len ≡ 504 * i + used = omega (arith, begun len n_is h) in
          record { copying = rw (at, upto) (copy_on here (begun len n_is h) used-is content_is ys-is) }

-- the dialect
module _ (bs : List ℕ) (len : ℕ) (h : 512 ≤ length bs) (few : len ≤ 9) where
  pub dialect_long : length (take len (drop 8 bs)) ≡ len
  dialect_long = length-take-le len (drop 8 bs) (simp length-drop (omega arith))

  pub dialect_laid : {out : List ℕ} → out ≡ take len (take (length bs - 8) (drop 8 bs)) ++ drop len (replicate 9 0)
      → out ≡ laid 9 (take len (drop 8 bs))
  dialect_laid e = (rw (tail_part 8 bs) at e) ∙ laid_over_lem 9 (take len (drop 8 bs)) dialect_long

-- the returns of `copy_content`: the code compares numbers of blocks
pub copied_there : (first len n : ℕ) {k : ℕ} → first ≤ n / 512 → k ≡ blocks_for len → k ≤ n / 512 - first
    → 512 * (first + blocks_for len) ≤ n
copied_there first len n h k_is g = omega arith

module _ (first len : ℕ) (bs buffer : List ℕ) where
  copied_missing : length bs < 512 * (first + blocks_for len) → buffer ≡ copied first len bs buffer
  unfolding copied
  copied_missing h = rw (lt-leb (512 * (first + blocks_for len)) (length bs) h) refl

  pub copied_far : length bs / 512 < first → buffer ≡ copied first len bs buffer
  copied_far h = copied_missing (omega arith)

  pub copied_cut : first ≤ length bs / 512 → {k : ℕ} → k ≡ blocks_for len → length bs / 512 - first < k
      → buffer ≡ copied first len bs buffer
  copied_cut h k_is g = copied_missing (omega arith)

  pub copied_long : length buffer < len → buffer ≡ copied first len bs buffer
  unfolding copied
  copied_long h = rw (lt-leb len (length buffer) h, and-false (leb (512 * (first + blocks_for len)) (length bs))) refl

  -- LAW: if the blocks are present and the buffer has room, the content is copied
  pub copied_is : 512 * (first + blocks_for len) ≤ length bs → len ≤ length buffer
      → copied first len bs buffer ≡ content_of len (drop (512 * first) bs) ++ drop len buffer
  unfolding copied
  copied_is h g = rw (le-leb (512 * (first + blocks_for len)) (length bs) h, le-leb len (length buffer) g) refl

  pub copied_all : first ≤ length bs / 512 → {k : ℕ} → k ≡ blocks_for len → k ≤ length bs / 512 - first
      → len ≤ length buffer → {after : List ℕ}
      → after ≡ content_of len (drop (512 * first) bs) ++ drop len buffer → after ≡ copied first len bs buffer
  copied_all h k_is g room is = is ∙ sym (copied_is (copied_there first len (length bs) h k_is g) room)
