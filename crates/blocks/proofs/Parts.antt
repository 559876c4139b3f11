-- Blocks depend on their own bytes alone. If the first n bytes of a list contain k blocks, then these blocks are
-- judged, counted and read from those n bytes as from the whole list (`judge_front`, `blocks_front`, `good_front`,
-- `contents_front`); for a run that begins at a later byte cite `run_front`, `goods_front` and `content_front`. The
-- inductions are on the number of blocks: a block is the first 512 bytes, and the other blocks follow after it. The
-- last law says that the content read from bytes consists of bytes (`bytes_content`). Assumes nothing.
use mathlib.Core.Path.{◌≡◌, refl, sym, ap, ◌∙◌}
use mathlib.Core.Logic.{⊎_elim}
use mathlib.Core.List.{List}
use Prim.Native.Nat.{ℕ, zero, suc, ◌+◌, ◌*◌, ◌-◌, ◌<◌, ◌≤◌, min}
use native.Mathlib.Omega.{arith}
use lib.ListN.{length, take, drop, length-take}
use lib.Seq.{take-take}
use lib.Dec.{leb}
use borrow.Author.Tests.{le-leb, lt-leb}
use Rattle.fields.proofs.Basics.{drop_take, le_or_lt}
use Rattle.fields.proofs.Spelling.{Bytes, bytes_take, bytes_drop, bytes_append}
use Rattle.blocks.specs.Block.{judge}
use Rattle.blocks.specs.Run.{blocks_for, judge_blocks, judge_run, good_blocks, contents, content_of}

-- one block, k blocks, their good ones and their contents, read from the first n bytes
pub judge_front : (number used n : ℕ) (bs : List ℕ) → 512 ≤ n → judge number used (take n bs) ≡ judge number used bs
unfolding judge
judge_front number used n bs h = rw (long, take-take 512 n bs h) refl
  where
    long : leb 512 (length (take n bs)) ≡ leb 512 (length bs)
    long = ⊎_elim
        (λ (g : 512 ≤ length bs). le-leb 512 (length (take n bs)) (simp length-take (omega arith))
        ∙ sym (le-leb 512 (length bs) g))
        (λ (g : length bs < 512). lt-leb 512 (length (take n bs)) (simp length-take (omega arith))
        ∙ sym (lt-leb 512 (length bs) g))
        (le_or_lt 512 (length bs))

pub blocks_front : (k number total n : ℕ) (bs : List ℕ) → 512 * k ≤ n
    → judge_blocks k number total (take n bs) ≡ judge_blocks k number total bs
unfolding judge_blocks
blocks_front zero number total n bs h = refl
blocks_front (suc k) number total n bs h = rw (
  judge_front number (min 504 total) n bs (omega arith),
  drop_take 512 n bs,
  blocks_front k (number + 1) (total - 504) (n - 512) (drop 512 bs) (omega arith),
) refl

pub good_front : (k number total n : ℕ) (bs : List ℕ) → 512 * k ≤ n
    → good_blocks k number total (take n bs) ≡ good_blocks k number total bs
unfolding good_blocks
good_front zero number total n bs h = refl
good_front (suc k) number total n bs h = rw (
  judge_front number (min 504 total) n bs (omega arith),
  drop_take 512 n bs,
  good_front k (number + 1) (total - 504) (n - 512) (drop 512 bs) (omega arith),
) refl

pub contents_front : (k n : ℕ) (bs : List ℕ) → 512 * k ≤ n → contents k (take n bs) ≡ contents k bs
unfolding contents
contents_front zero n bs h = refl
contents_front (suc k) n bs h = rw (
  drop_take 4 n bs,
  take-take 504 (n - 4) (drop 4 bs) (omega arith),
  drop_take 512 n bs,
  contents_front k (n - 512) (drop 512 bs) (omega arith),
) refl

-- LAW: a run that begins at byte a, read from the first n bytes if these contain it
module _ (total a n : ℕ) (bs : List ℕ) (holds : a + 512 * blocks_for total ≤ n) where
  pub run_front : (number : ℕ) → judge_run number total (drop a (take n bs)) ≡ judge_run number total (drop a bs)
  unfolding judge_run
  run_front number =
      rw (drop_take a n bs) (blocks_front (blocks_for total) number total (n - a) (drop a bs) (omega arith))

  pub goods_front : (number : ℕ) → good_blocks (blocks_for total) number total (drop a (take n bs))
      ≡ good_blocks (blocks_for total) number total (drop a bs)
  goods_front number =
      rw (drop_take a n bs) (good_front (blocks_for total) number total (n - a) (drop a bs) (omega arith))

  pub content_front : content_of total (drop a (take n bs)) ≡ content_of total (drop a bs)
  unfolding content_of
  content_front = rw (drop_take a n bs)
      (ap (take total) (contents_front (blocks_for total) (n - a) (drop a bs) (omega arith)))

-- contents that are read from bytes are bytes
bytes_contents : (n : ℕ) (bs : List ℕ) → Bytes bs → Bytes (contents n bs)
unfolding contents
bytes_contents zero bs small = λ i. omega arith
bytes_contents (suc n) bs small = bytes_append (take 504 (drop 4 bs)) (contents n (drop 512 bs))
    (bytes_take (drop 4 bs) 504 (bytes_drop bs 4 small))
    (bytes_contents n (drop 512 bs) (bytes_drop bs 512 small))

pub bytes_content : (total : ℕ) (bs : List ℕ) → Bytes bs → Bytes (content_of total bs)
unfolding content_of
bytes_content total bs small = bytes_take (contents (blocks_for total) bs) total
    (bytes_contents (blocks_for total) bs small)
