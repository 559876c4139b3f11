-- Runs of blocks (docs/FORMAT.md, a table file): a content of any length, 504 bytes in each block. Only the last
-- block may be partly used, and the block numbers increase by one. These are definitions.
use Rattle.std.specs.Prelude.{List, [], ◌++◌, ℕ, zero, suc, ◌+◌, ◌*◌, ◌-◌, ◌/◌, min, length, take, drop}
use Rattle.fields.specs.Choice.{if'}
use Rattle.table.specs.Answer.{Answer, accepted, passes, and_then}
use Rattle.blocks.specs.Block.{block_bytes, content_bytes, block_of, judge}

-- the number of blocks for a content of this length: 0 if it is empty
unfoldable pub blocks_for : ℕ → ℕ
blocks_for total = (total + 503) / content_bytes

-- the first n blocks of a content, numbered from this number on
unfoldable pub blocks_of : ℕ → ℕ → List ℕ → List ℕ
blocks_of zero number content = []
blocks_of (suc n) number content = block_of number (take content_bytes content)
    ++ blocks_of n (number + 1) (drop content_bytes content)

-- all blocks of a content
unfoldable pub run_of : ℕ → List ℕ → List ℕ
run_of number content = blocks_of (blocks_for (length content)) number content

-- n blocks judged one after the other, numbered from this number on, that must hold `total` bytes: each uses 504, or
-- the rest if it is less
unfoldable pub judge_blocks : ℕ → ℕ → ℕ → List ℕ → Answer
judge_blocks zero number total bs = accepted []
judge_blocks (suc n) number total bs = and_then (judge number (min content_bytes total) bs)
    (λ _. judge_blocks n (number + 1) (total - content_bytes) (drop block_bytes bs))

-- the run at the front of some bytes: as many blocks as its content fills
unfoldable pub judge_run : ℕ → ℕ → List ℕ → Answer
judge_run number total bs = judge_blocks (blocks_for total) number total bs

-- the number of good blocks among n such blocks, before the first that is bad or missing
unfoldable pub good_blocks : ℕ → ℕ → ℕ → List ℕ → ℕ
good_blocks zero number total bs = 0
good_blocks (suc n) number total bs =
    if' (passes (judge number (min content_bytes total) bs)) (λ _.
    suc (good_blocks n (number + 1) (total - content_bytes) (drop block_bytes bs))) (λ _. 0)

-- the contents of n blocks, one after the other: bytes 4 to 507 of each
unfoldable pub contents : ℕ → List ℕ → List ℕ
contents zero bs = []
contents (suc n) bs = take content_bytes (drop 4 bs) ++ contents n (drop block_bytes bs)

-- the content of the block with this number in a file
unfoldable pub content_in : ℕ → List ℕ → List ℕ
content_in number file = take content_bytes (drop 4 (drop (block_bytes * number) file))

-- the content of this length in the run at the front of some bytes
unfoldable pub content_of : ℕ → List ℕ → List ℕ
content_of total bs = take total (contents (blocks_for total) bs)
