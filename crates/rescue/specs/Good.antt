-- The good parts of a damaged file: the header with its names, the whole file, or the node blocks before the first bad
-- one. These are definitions.
use Rattle.std.specs.Prelude.{Bool, true, false, ◌&&◌, List, [], ℕ, ◌*◌, take, drop, None, Option, Some}
use Rattle.dialect.specs.declared.Edition.{Edition}
use Rattle.dialect.specs.declared.Dialect.{Dialect}
use Rattle.dialect.specs.Bytes.{from_bytes}
use Rattle.forest.specs.Forest.{record_bytes}
use Rattle.table.specs.Answer.{accepted, passes, and_then}
use Rattle.table.specs.Check.{decoded, in_given}
use Rattle.blocks.specs.Block.{block_bytes, content_bytes, judge}
use Rattle.blocks.specs.Run.{blocks_for, judge_run, good_blocks}
use Rattle.tablefile.specs.Reading.{header_at, content_at, used_of, counts_fit, edition_read, front_check, sound_check}

-- whether bytes are a dialect (5)
abbrev pub is_dialect : Option Dialect → Bool
is_dialect x = passes (in_given (decoded x) (λ _. accepted []))

-- whether an edition holds (5)
abbrev pub is_edition : Option Edition → Bool
is_edition (Some e) = true
is_edition None = false

-- the header: block 0, its counts (74), its dialect and its edition (5), and every name block
unfoldable pub head_good : List ℕ → Bool
head_good bs =
    let h = header_at bs in
    passes (judge 0 (used_of h) bs)
    && (counts_fit h.nodes h.names
    && (is_dialect (from_bytes (content_at bs).dialect)
    && (is_edition (edition_read (content_at bs)) && passes (judge_run 1 h.names (drop block_bytes bs)))))

-- the header's blocks pass every check of the reader: 70 to 74, then 1 to 5
unfoldable pub blocks_pass : List ℕ → Bool
blocks_pass bs = passes (and_then (front_check bs) (λ _. sound_check (content_at bs)))

-- the records in good node blocks
unfoldable pub good_table : List ℕ → List ℕ
good_table bs =
    let total = record_bytes * (header_at bs).nodes in
    let first = (header_at bs).first in
    take (content_bytes * good_blocks (blocks_for total) first total (drop (block_bytes * first) bs))
    (content_at bs).table
