-- What the writer's stores build: a block from its parts (`block_whole`), block 0 (`header_whole`), a run from its
-- blocks, and a file from its runs (`file_whole`). The loop of a run keeps that the remaining content, written after
-- the finished blocks, makes the whole run (`Writing`): a turn writes the first of the remaining blocks (`run_first`)
-- and moves on by 512 bytes (`run_on_lem`). Each function writes at the front of its buffer. So writing to a part that
-- begins at some byte is writing to the whole from that byte on (`over_part`), and two such writes one after the
-- other are one (`over_next`). Assumes nothing.
use Rattle.std.specs.Prelude.{None, Option, Some, ℕ}
use mathlib.Core.Path.{◌≡◌, refl, sym, ap, ◌∙◌}
use mathlib.Core.Bool.{true}
use mathlib.Core.List.{List, [], ◌∷◌, ◌++◌, append_assoc, append-nil}
use Prim.Native.Nat.{ℕ, zero, suc, ◌+◌, ◌*◌, ◌-◌, ◌/◌, ◌<◌, ◌≤◌, min}
use native.Mathlib.Nat.{add-zero, zero-add}
use native.Mathlib.Omega.{arith}
use lib.ListN.{length, get_or, take, drop, set, replicate, length-append, length-take, length-drop, length-replicate}
use lib.ListN.{get_or-replicate, get_or-append, replicate-append-replicate, drop_of_length-le}
use lib.Seq.{length-take-le, take_all, take_at, drop_at, drop-append-le, get_or-append-add}
use lib.Dec.{ltb}
use borrow.Author.Tests.{ltb-true}
use borrow.Rule.Slice.PartMut.{put_mid, post_of}
use Rattle.dialect.specs.Editions.{stated_bytes}
use Rattle.fields.proofs.Fields.{tail_part}
use Rattle.fields.specs.Field.{bytes_of}
use Rattle.fields.specs.Over.{over}
use Rattle.fields.proofs.Over.{over_none, over_front, length_over, over_sets, over_next, over_part}
use Rattle.fields.proofs.Spelling.{length_bytes}
use Rattle.blocks.specs.Block.{weighed, sum_of, before_sum, block_of}
use Rattle.blocks.specs.Run.{blocks_for, blocks_of, run_of}
use Rattle.blocks.specs.Laid.{laid_at}
use Rattle.blocks.proofs.Sums.{weighed_front}
use Rattle.blocks.proofs.Laying.{laid_fits, length_laid}
use Rattle.blocks.proofs.Blocks.{length_front, length_block}
use Rattle.blocks.proofs.Runs.{blocks_more, length_run}
use Rattle.tablefile.specs.File.{Content, header_of, file_of, most_blocks}
use Rattle.tablefile.proofs.Copies.{drop_zeros}
use Rattle.writer.specs.Writing.{holding, bytes_for, is_byte}

-- four bytes, and the bytes that are written after them
four_then : (d a b : List ℕ) {o₁ o₂ : List ℕ} → length a ≡ 4 → o₁ ≡ over 0 a d → o₂ ≡ over 4 b o₁
    → o₂ ≡ (a ++ b) ++ drop (4 + length b) d
four_then d a b four o₁-is o₂-is =
    let at : 4 ≡ 0 + length a = omega arith in
    let long : length (a ++ b) ≡ 4 + length b = simp length-append (omega arith) in
    o₂-is ∙ ap (over 4 b) o₁-is ∙ ap (λ (n : ℕ). over n b (over 0 a d)) at ∙ over_next 0 a d b
    ∙ over_front (a ++ b) d ∙ ap (λ (n : ℕ). (a ++ b) ++ drop n d) long

-- two numbers are four bytes
pair_four : (a b : ℕ) {head : List ℕ} → head ≡ bytes_of 2 a ++ bytes_of 2 b → length head ≡ 4
pair_four a b head_is = rw head_is (simp (length-append, length_bytes) refl)

pub begun_four : (a b : ℕ) {head : List ℕ} → head ≡ bytes_of 2 a ++ bytes_of 2 b → (out : List ℕ) {sum : ℕ}
    → sum ≡ weighed (0 + length head) out → sum ≡ weighed 4 out
begun_four a b {head} head_is out is = let e : 0 + length head ≡ 4 = omega (arith, pair_four a b head_is) in rw e at is

-- zeros add nothing to the sum
weighed_zeros : (a rest : List ℕ) (k n : ℕ) → k ≤ n
    → weighed (length a + k) (a ++ (replicate n 0 ++ rest)) ≡ weighed (length a) (a ++ (replicate n 0 ++ rest))
unfolding weighed
weighed_zeros a rest zero n h = rw (add-zero (length a)) refl
weighed_zeros a rest (suc k) n h =
    let l : List ℕ = a ++ (replicate n 0 ++ rest) in
    let e : length a + suc k ≡ suc (length a + k) = omega arith in
    let none : get_or l (length a + k) 0 ≡ 0 = get_or-append-add a (replicate n 0 ++ rest) k 0
    ∙ get_or-append (replicate n 0) rest 0 k (omega (arith, length-replicate {A = ℕ} n 0))
    ∙ get_or-replicate n k 0 0 (omega arith) in
    let less : weighed (length a + k) l ≡ weighed (length a) l = weighed_zeros a rest k n (omega arith) in
    rw (e, none) (omega (arith, less))

-- a block is made from 512 zero bytes: its head, its content, and the sum of both
module _ (number : ℕ) (content d : List ℕ) {head o₁ o₂ o₃ : List ℕ} (fits : length content ≤ 504)
    (head_is : head ≡ bytes_of 2 number ++ bytes_of 2 (length content)) (o₁-is : o₁ ≡ over 0 (replicate 512 0) d)
    (o₂-is : o₂ ≡ over 0 head o₁) (o₃-is : o₃ ≡ over 4 content o₂) where
  abbrev pad : List ℕ
  pad = replicate (504 - length content) 0

  abbrev rest : List ℕ
  rest = replicate 4 0 ++ drop 512 d

  head_four : length head ≡ 4
  head_four = pair_four number (length content) head_is

  before_is : before_sum number content ≡ (head ++ content) ++ pad
  unfolding before_sum
  before_is = rw head_is
      (sym (append_assoc ((bytes_of 2 number ++ bytes_of 2 (length content))) content pad
      ∙ append_assoc (bytes_of 2 number) (bytes_of 2 (length content)) (content ++ pad)))

  zeros_left : drop (4 + length content) o₁ ≡ pad ++ rest
  zeros_left =
      let k : ℕ = 504 - length content in
      let n : 512 - (4 + length content) ≡ k + 4 = omega arith in
      let all : length (replicate {A = ℕ} 512 0) ≡ 512 = length-replicate {A = ℕ} 512 0 in
      ap (drop (4 + length content)) (o₁-is ∙ over_front (replicate 512 0) d)
      ∙ drop-append-le (4 + length content) (replicate 512 0) (drop (length (replicate {A = ℕ} 512 0)) d) (omega arith)
      ∙ rw (all, drop_zeros 512 (4 + length content), n, ← replicate-append-replicate {A = ℕ} k 4 0)
      (append_assoc pad (replicate 4 0) (drop 512 d))

  laid : o₃ ≡ (head ++ content) ++ (pad ++ rest)
  laid = four_then o₁ head content head_four o₂-is o₃-is ∙ ap (λ (x : List ℕ). (head ++ content) ++ x) zeros_left

  front : o₃ ≡ before_sum number content ++ rest
  front = laid ∙ rw before_is (sym (append_assoc (head ++ content) pad rest))

  sum_is : weighed (4 + length content) o₃ ≡ sum_of (before_sum number content)
  unfolding sum_of
  sum_is =
      let long : length (head ++ content) ≡ 4 + length content = simp length-append (omega (arith, head_four)) in
      let all : length (head ++ content) + (504 - length content) ≡ 508 = omega arith in
      ap (weighed (4 + length content)) laid ∙ ap (λ (n : ℕ). weighed n ((head ++ content) ++ (pad ++ rest))) (sym long)
      ∙ sym (weighed_zeros (head ++ content) rest (504 - length content) (504 - length content) (omega arith))
      ∙ rw all (ap (weighed 508) (sym laid ∙ front)
      ∙ weighed_front 508 (before_sum number content) rest (omega (arith, length_front number content fits)))

  -- LAW: the result is the block of the number and the content
  block_whole : {sum : ℕ} → sum ≡ weighed (4 + length content) o₃ → {check o₄ : List ℕ} → check ≡ bytes_of 4 sum
      → o₄ ≡ over 508 check o₃ → o₄ ≡ over 0 (block_of number content) d
  unfolding block_of over
  block_whole {sum} is {check} check-is o₄-is =
      let f : List ℕ = before_sum number content in
      let long : length f ≡ 508 = length_front number content fits in
      let check-so : check ≡ bytes_of 4 (sum_of f) = check-is ∙ ap (bytes_of 4) (is ∙ sum_is) in
      let four : length (bytes_of 4 (sum_of f)) ≡ 4 = length_bytes 4 (sum_of f) in
      let all : length (f ++ replicate 4 0) ≡ 512 = simp (length-append, length-replicate {A = ℕ}) (omega arith) in
      let behind : drop 512 (f ++ rest) ≡ drop 512 d = ap (drop 512) (sym (append_assoc f (replicate 4 0) (drop 512 d)))
      ∙ drop_at (f ++ replicate 4 0) (drop 512 d) 512 all in
      let whole : length (f ++ bytes_of 4 (sum_of f)) ≡ 512 = simp (length-append) (omega arith) in
      o₄-is
      ∙ rw (check-so, four, front, take_at f rest 508 long, behind, whole)
      (sym (append_assoc f (bytes_of 4 (sum_of f)) (drop 512 d)))

-- zero bytes that fill the front of a buffer
pub zeros_over : (n : ℕ) (d : List ℕ) → n ≤ length d → {z : List ℕ} → z ≡ replicate (length (take n d)) 0
    → z ++ post_of 0 n d ≡ over 0 (replicate n 0) d
unfolding over
zeros_over n d room is = rw (is, length-take-le n d room, length-replicate {A = ℕ} n 0, zero-add n) refl

-- LAW: the same, written over the front of a buffer that has room for a block
pub block_laid : (number : ℕ) (content d : List ℕ) {head o₁ o₂ o₃ : List ℕ} → length content ≤ 504 → 512 ≤ length d
    → head ≡ bytes_of 2 number ++ bytes_of 2 (length content) → o₁ ≡ over 0 (replicate 512 0) d
    → o₂ ≡ over 0 head o₁ → o₃ ≡ over 4 content o₂ → length o₃ ≡ length o₂ → length o₂ ≡ length o₁ → {sum : ℕ}
    → sum ≡ weighed (4 + length content) o₃ → {check o₄ : List ℕ} → check ≡ bytes_of 4 sum → o₄ ≡ laid_at 508 check o₃
    → o₄ ≡ over 0 (block_of number content) d
block_laid number content d {o₃ = o₃} fits room head_is o₁-is o₂-is o₃-is long₃ long₂ {sum} is {check} check-is o₄-is =
    let zeros : length (replicate {A = ℕ} 512 0) ≡ 512 = length-replicate {A = ℕ} 512 0 in
    let four : length check ≡ 4 = ap length check-is ∙ length_bytes 4 sum in
    let long : length o₃ ≡ length d = long₃ ∙ long₂ ∙ ap length o₁-is
    ∙ length_over 0 (replicate 512 0) d (omega arith) in
    let o₄-so = o₄-is ∙ laid_fits 508 check o₃ (omega arith) in
    block_whole number content d fits head_is o₁-is o₂-is o₃-is is check-is o₄-so

-- bytes that are written after bytes at the front
next_over : (d a b : List ℕ) (n : ℕ) → length a ≡ n → over n b (over 0 a d) ≡ over 0 (a ++ b) d
next_over d a b n long =
    let at : n ≡ 0 + length a = omega arith in
    ap (λ (m : ℕ). over m b (over 0 a d)) at ∙ over_next 0 a d b

-- an edition takes at most one byte
pub stated_few : (edition : Option ℕ) → length (stated_bytes edition) ≤ 1
stated_few (Some n) = omega arith
stated_few None = omega arith

-- block 0: the counts, then the dialect, then the edition
module _ (t names ds : List ℕ) {counts : List ℕ}
    (counts-is : counts ≡ bytes_of 2 (length t / 24) ++ bytes_of 2 (length names)) where
  counts_then : length (counts ++ ds) ≡ 4 + length ds
  counts_then = simp length-append (omega (arith, pair_four (length t / 24) (length names) counts-is))

  module _ (few : length ds ≤ 9) {o₁ o₂ : List ℕ} (o₁-is : o₁ ≡ laid_at 0 counts (replicate 14 0))
      (o₂-is : o₂ ≡ laid_at 4 ds o₁) where
    header_begun : o₂ ≡ over 0 (counts ++ ds) (replicate 14 0)
    header_begun =
        let four : length counts ≡ 4 = pair_four (length t / 24) (length names) counts-is in
        let zeros : length (replicate {A = ℕ} 14 0) ≡ 14 = length-replicate {A = ℕ} 14 0 in
        let o₁-so : o₁ ≡ over 0 counts (replicate 14 0) = o₁-is ∙ laid_fits 0 counts (replicate 14 0) (omega arith) in
        let o₁-long : length o₁ ≡ 14 = ap length o₁-is ∙ length_laid 0 counts (replicate 14 0) ∙ zeros in
        o₂-is ∙ laid_fits 4 ds o₁ (omega arith) ∙ ap (over 4 ds) o₁-so
        ∙ next_over (replicate 14 0) counts ds 4 four

    pub header_room : 4 + length ds < length o₂
    header_room =
        let zeros : length (replicate {A = ℕ} 14 0) ≡ 14 = length-replicate {A = ℕ} 14 0 in
        let long : length o₂ ≡ 14 = ap length header_begun
        ∙ length_over 0 (counts ++ ds) (replicate 14 0) (omega (arith, counts_then)) ∙ zeros in
        omega arith

    module _ (edition : Option ℕ) {o₃ : List ℕ} {used : ℕ}
        (o₃-is : o₃ ≡ over (4 + length ds) (stated_bytes edition) o₂)
        (used-is : used ≡ 4 + length ds + length (stated_bytes edition)) where
      pub header_used : used ≤ length o₃
      header_used =
          let fits : 4 + length ds + length (stated_bytes edition) ≤ length o₂ =
          omega (arith, header_room, stated_few edition) in
          let long : length o₃ ≡ length o₂ = ap length o₃-is
          ∙ length_over (4 + length ds) (stated_bytes edition) o₂ fits in
          omega arith

      pub header_small : length (take (used - 0) (drop 0 o₃)) ≤ 504
      header_small = simp length-take (omega (arith, stated_few edition))

      abbrev es : List ℕ
      es = stated_bytes edition

      abbrev whole : List ℕ
      whole = (counts ++ ds) ++ es

      whole_is : whole ≡ header_of (holding t names ds edition)
      unfolding header_of
      whole_is = append_assoc counts ds es ∙ ap (λ (x : List ℕ). x ++ (ds ++ es)) counts-is
          ∙ append_assoc (bytes_of 2 (length t / 24)) (bytes_of 2 (length names)) (ds ++ es)

      header_laid : take (used - 0) (drop 0 o₃) ≡ header_of (holding t names ds edition)
      header_laid =
          let o₃-so : o₃ ≡ over 0 whole (replicate 14 0) = o₃-is ∙ ap (over (4 + length ds) es) header_begun
          ∙ next_over (replicate 14 0) (counts ++ ds) es (4 + length ds) counts_then in
          let long : length whole ≡ used - 0 = omega (arith, length-append (counts ++ ds) es, counts_then) in
          ap (take (used - 0)) (o₃-so ∙ over_front whole (replicate 14 0))
          ∙ take_at whole (drop (length whole) (replicate 14 0)) (used - 0) long ∙ whole_is

      pub header_whole : (d : List ℕ) {out : List ℕ} → out ≡ over 0 (block_of 0 (take (used - 0) (drop 0 o₃))) d
          → out ≡ over 0 (block_of 0 (header_of (holding t names ds edition))) d
      header_whole d out-is = rw header_laid at out-is

-- the edition, written at its place, or none: e is the edition that the code found
module _ (edition : Option ℕ) where
  module _ {n : ℕ} (e : edition ≡ Some n) where
    pub byte_number : ltb n 256 ≡ is_byte edition
    byte_number = rw e refl

    pub byte_small : is_byte edition ≡ true → n < 256
    byte_small h = ltb-true n 256 (rw e at h)

    pub edition_put : (at : ℕ) (out : List ℕ) → at < length out → set out at n ≡ over at (stated_bytes edition) out
    edition_put at out h = rw e (over_sets at (n ∷ []) out (omega arith))

    pub edition_behind : (at : ℕ) → at + 1 ≡ at + length (stated_bytes edition)
    edition_behind at = rw e refl

  module _ (e : edition ≡ None) where
    pub edition_kept : (at : ℕ) (out : List ℕ) → out ≡ over at (stated_bytes edition) out
    edition_kept at out = rw e (sym (over_none at out))

    pub edition_here : (at : ℕ) → at ≡ at + length (stated_bytes edition)
    edition_here at = rw e (sym (add-zero at))

-- a run: its first block, and the others
run_first : (number : ℕ) (left : List ℕ) → 0 < length left
    → run_of number left ≡ block_of number (take 504 left) ++ run_of (number + 1) (drop 504 left)
unfolding run_of blocks_of
run_first number left h = rw (blocks_more (length left) h, length-drop 504 left) refl

run_none : (number : ℕ) (left : List ℕ) → length left ≡ 0 → run_of number left ≡ []
unfolding run_of blocks_of blocks_for
run_none number left h = rw h refl

-- the first piece of what is left, and the rest
piece_first : (piece rest : List ℕ) → length piece ≡ min 504 (length (piece ++ rest))
    → (take 504 (piece ++ rest) ≡ piece) × (drop 504 (piece ++ rest) ≡ rest)
piece_first piece [] few =
    let short : length piece ≤ 504 = omega arith in
    rw append-nil (take_all 504 piece short, drop_of_length-le piece {i = 504} short)
piece_first piece (x ∷ more) few =
    let all : length (piece ++ x ∷ more) ≡ length piece + suc (length more) = length-append piece (x ∷ more) in
    let long : length piece ≡ 504 = omega arith in
    (take_at piece (x ∷ more) 504 long, drop_at piece (x ∷ more) 504 long)

-- the invariant of `write_run`: the remaining blocks, written over the buffer as it is, make the whole run
pub record Writing (d content : List ℕ) (first : ℕ) (out left : List ℕ) (done : ℕ) : Type 0 where
  pub room : 512 * (done + blocks_for (length left)) ≤ length out
  pub few : first ≤ most_blocks
  pub long : length out ≡ length d
  pub same : over (512 * done) (run_of (first + done) left) out ≡ over 0 (run_of first content) d

pub run_start : (d content : List ℕ) (first : ℕ)
    → (512 * blocks_for (length content) ≤ length d) × (first ≤ most_blocks) → Writing d content first d content 0
run_start d content first h = record {
  room = omega (arith, h.0);
  few = h.1;
  long = refl;
  same = rw (add-zero first) refl;
}

module _ {d content : List ℕ} {first : ℕ} {out left : List ℕ} {done : ℕ}
    (s : Writing d content first out left done) where
  pub run_end : length left ≡ 0 → out ≡ over 0 (run_of first content) d
  run_end h = sym (over_none (512 * done) out)
      ∙ ap (λ (x : List ℕ). over (512 * done) x out) (sym (run_none (first + done) left h)) ∙ s.same

  module _ (more : 0 < length left) where
    run_room : 512 * done + 512 ≤ length out
    run_room = omega (arith, s.room, blocks_more (length left) more)

    pub run_place : {at : ℕ} → at ≡ done → 512 * at ≤ length out
    run_place at-is = omega (arith, run_room)

    pub run_block : {at : ℕ} → at ≡ done → 512 ≤ length (take (length out - 512 * at) (drop (512 * at) out))
    run_block {at} at-is = rw (tail_part (512 * at) out) (simp length-drop (omega (arith, run_room)))

    -- the block that is written next, and the invariant after it
    abbrev block : List ℕ
    block = block_of (first + done) (take 504 left)

    block_long : length block ≡ 512
    block_long = length_block (first + done) (take 504 left) (simp length-take (omega arith))

    run_next : Writing d content first (over (512 * done) block out) (drop 504 left) (done + 1)
    run_next =
        let next : 512 * (done + 1) ≡ 512 * done + length block = omega (arith, block_long) in
        let onward : first + (done + 1) ≡ first + done + 1 = omega arith in
        let fits : 512 * done + length block ≤ length out = omega (arith, run_room, block_long) in
        let others : blocks_for (length (drop 504 left)) ≡ blocks_for (length left - 504) =
        ap blocks_for (length-drop 504 left) in
        let long : length (over (512 * done) block out) ≡ length out = length_over (512 * done) block out fits in
        record {
          room = omega (arith, s.room, blocks_more (length left) more);
          few = s.few;
          long = long ∙ s.long;
          same = ap (λ (n : ℕ). over (512 * (done + 1)) (run_of n (drop 504 left)) (over (512 * done) block out)) onward
              ∙ ap (λ (n : ℕ). over n (run_of (first + done + 1) (drop 504 left)) (over (512 * done) block out)) next
              ∙ over_next (512 * done) block out (run_of (first + done + 1) (drop 504 left))
              ∙ ap (λ (x : List ℕ). over (512 * done) x out) (sym (run_first (first + done) left more)) ∙ s.same;
        }

    -- the block of the next piece, and the invariant after it
    pub run_on_lem : {at next size : ℕ} (piece : List ℕ) {rest : List ℕ} → at ≡ done → next ≡ done + 1 → size ≡ 504
        → left ≡ piece ++ rest → length piece ≡ min size (length left) → {ys : List ℕ}
        → ys ≡ over 0 (block_of (first + at) piece) (take (length out - 512 * at) (drop (512 * at) out))
        → Writing d content first (put_mid (512 * at) (length out - 512 * at) out ys) rest next
    run_on_lem piece {rest} at-is next-is size-is is few {ys} ys-is =
        let least : length piece ≡ min 504 (length left) = rw size-is at few in
        let (front, after) = piece_first piece rest (rw is at least) in
        let part : take 504 left ≡ piece = rw is front in
        let behind : drop 504 left ≡ rest = rw is after in
        let ys_so : ys ≡ over 0 block (take (length out - 512 * done) (drop (512 * done) out)) =
        rw (at-is, ← part) at ys-is in
        let new : put_mid (512 * done) (length out - 512 * done) out ys ≡ over (512 * done) block out =
        over_part (512 * done) block out ys_so in
        rw (at-is, next-is, new) (rw behind at run_next)

-- a file: block 0, the run of the names, the run of the nodes
header_long : (c : Content) → length c.dialect ≤ 9 → length (block_of 0 (header_of c)) ≡ 512
unfolding header_of
header_long c h = length_block 0 (header_of c)
    (simp (length-append, length_bytes) (omega (arith, stated_few c.edition)))

pub length_file : (c : Content) → length c.dialect ≤ 9
    → length (file_of c) ≡ bytes_for (length c.table) (length c.names)
unfolding file_of
length_file c h =
    let first : ℕ = 1 + blocks_for (length c.names) in
    simp (length-append, header_long c h, length_run 1 c.names, length_run first c.table) (omega arith)

-- the file as three calls write it: each gets the part of the buffer from its place on
module _ (t names ds : List ℕ) (edition : Option ℕ) (d : List ℕ) (pre : (length ds ≤ 9) × (is_byte edition ≡ true)
    × (1 + blocks_for (length names) + blocks_for (length t) ≤ most_blocks)
    × (bytes_for (length t) (length names) ≤ length d)) where
  abbrev header : List ℕ
  header = block_of 0 (header_of (holding t names ds edition))

  abbrev begun : List ℕ
  begun = header ++ run_of 1 names

  abbrev first : ℕ
  first = 1 + blocks_for (length names)

  header_is : length header ≡ 512
  header_is = header_long (holding t names ds edition) pre.0

  begun_long : length begun ≡ 512 * first
  begun_long = simp length-append (omega (arith, header_is, length_run 1 names))

  module _ {f₁ : List ℕ} (f₁-is : f₁ ≡ over 0 header d) where
    module _ {ys : List ℕ} (ys-is : ys ≡ over 0 (run_of 1 names) (take (length f₁ - 512) (drop 512 f₁))) where
      abbrev f₂ : List ℕ
      f₂ = put_mid 512 (length f₁ - 512) f₁ ys

      f₂-so : f₂ ≡ over 0 begun d
      f₂-so =
          let at : 512 ≡ 0 + length header = omega (arith, header_is) in
          over_part 512 (run_of 1 names) f₁ ys-is
          ∙ rw (f₁-is, at) (over_next 0 header d (run_of 1 names))

      module _ {k : ℕ} (k_is : k ≡ blocks_for (length names)) where
        -- LAW: the result is the file
        pub file_whole : {zs : List ℕ}
            → zs ≡ over 0 (run_of (1 + k) t) (take (length f₂ - 512 * (1 + k)) (drop (512 * (1 + k)) f₂))
            → put_mid (512 * (1 + k)) (length f₂ - 512 * (1 + k)) f₂ zs
            ≡ over 0 (file_of (holding t names ds edition)) d
        unfolding file_of
        file_whole zs-is =
            let at : 512 * first ≡ 0 + length begun = omega (arith, begun_long) in
            over_part (512 * (1 + k)) (run_of (1 + k) t) f₂ zs-is
            ∙ rw (f₂-so, k_is, at) (over_next 0 begun d (run_of first t))
            ∙ ap (λ (x : List ℕ). over 0 x d) (append_assoc header (run_of 1 names) (run_of first t))
