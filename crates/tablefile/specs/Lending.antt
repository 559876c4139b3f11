-- Reading a file into the caller's buffers: the job's answer, and the buffers at exit. These are definitions.
use Rattle.std.specs.Prelude.{◌≡◌, ◌&&◌, List, [], ◌++◌, ℕ, ◌+◌, ◌*◌, length, take, drop, leb}
use Rattle.fields.specs.Choice.{if'}
use Rattle.forest.specs.Forest.{record_bytes}
use Rattle.table.specs.Numbers.{short_buffer, bytes_left_over}
use Rattle.table.specs.Answer.{Answer, accepted, refused, and_then}
use Rattle.blocks.specs.Block.{block_bytes, demand}
use Rattle.blocks.specs.Run.{blocks_for, content_of}
use Rattle.tablefile.specs.Reading.{header_at, content_at, front_check, read_check}

-- 70 to 75: the file at the front, then bytes left over
unfoldable pub file_check : List ℕ → Answer
file_check bs = and_then (front_check bs) (λ _. demand (leb (length bs) (header_at bs).taken) bytes_left_over)

-- the job, given the lengths of the two buffers: the reader's refusals, then 7 if the table or the names do not fit
unfoldable pub into_check : List ℕ → ℕ → ℕ → Answer
into_check bs table names =
    and_then (read_check bs) (λ _.
    demand (leb (record_bytes * (header_at bs).nodes) table && leb (header_at bs).names names) short_buffer)

-- a buffer at exit: the bytes written over its front if a check is passed, else unchanged
unfoldable pub handed : Answer → List ℕ → List ℕ → List ℕ
handed (accepted vs) bs buffer = bs ++ drop (length bs) buffer
handed (refused n vs) bs buffer = buffer

-- a buffer after `len` content bytes, of the blocks numbered from `first` on, are copied to its front, if these blocks
-- are present and the buffer has room; else unchanged
unfoldable pub copied : ℕ → ℕ → List ℕ → List ℕ → List ℕ
copied first len bs buffer =
    if' (leb (block_bytes * (first + blocks_for len)) (length bs) && leb len (length buffer))
    (λ _. content_of len (drop (block_bytes * first) bs) ++ drop len buffer) (λ _. buffer)

-- two arrays that begin with the table and the names of a file that passes 70 to 75
pub record Holds (bs t ns : List ℕ) : Type 0 where
  pub passed : file_check bs ≡ accepted []
  pub table : take (length (content_at bs).table) t ≡ (content_at bs).table
  pub names : take (length (content_at bs).names) ns ≡ (content_at bs).names
