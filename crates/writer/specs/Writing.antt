-- Writing a table file (docs/FORMAT.md, a table file): the job's answer, and the buffer at exit. These are definitions.
use Rattle.std.specs.Prelude.{Bool, true, ◌&&◌, List, [], ◌∷◌, ℕ, ◌+◌, ◌*◌, length, leb, ltb, Err, None, Ok, Option, Result, Some}
use Rattle.table.specs.declared.Refusal.{Refusal}
use Rattle.fields.specs.Choice.{if'}
use Rattle.fields.specs.Over.{over}
use Rattle.table.specs.Numbers.{short_buffer}
use Rattle.table.specs.Answer.{Answer, accepted, refused, and_then, refusal}
use Rattle.table.specs.Check.{most_bytes, most_names}
use Rattle.blocks.specs.Block.{block_bytes}
use Rattle.blocks.specs.Run.{blocks_for}
use Rattle.tablefile.specs.File.{Content, file_of}
use Rattle.tablefile.specs.Reading.{sound_check}

-- the content to write: a table, names, none or nine dialect bytes, and the number of an edition or nothing
abbrev pub holding : List ℕ → List ℕ → List ℕ → Option ℕ → Content
holding t names bytes edition = record { table = t; names = names; dialect = bytes; edition = edition }

-- the length of the file, given the lengths of table and names: 512 for block 0 and for each block of names and nodes
abbrev pub bytes_for : ℕ → ℕ → ℕ
bytes_for table names = block_bytes * (1 + blocks_for names + blocks_for table)

-- 7 if the buffer is shorter than that; else the answer is the number of bytes written
abbrev pub room_check : ℕ → ℕ → Answer
room_check size room = if' (leb size room) (λ _. accepted (size ∷ [])) (λ _. refused short_buffer [])

-- the job, for a buffer of `room` bytes: 1 to 5, then 7
unfoldable pub write_of : Content → ℕ → Answer
write_of c room = and_then (sound_check c) (λ _. room_check (bytes_for (length c.table) (length c.names)) room)

-- the buffer at exit: with the file written over its front if accepted, else unchanged
abbrev pub afterwards : Answer → List ℕ → List ℕ → List ℕ
afterwards (accepted vs) file buffer = over 0 file buffer
afterwards (refused n vs) file buffer = buffer

abbrev pub file_after : Content → List ℕ → List ℕ
file_after c buffer = afterwards (write_of c (length buffer)) (file_of c) buffer

-- an edition takes no byte or one
abbrev pub is_byte : Option ℕ → Bool
is_byte (Some n) = ltb n 256
is_byte None = true

-- a table, names and dialect bytes of these lengths, and an edition, make a file, and it fits in `room` bytes
unfoldable pub fits_in : ℕ → ℕ → ℕ → Option ℕ → ℕ → Bool
fits_in table names bytes edition room =
    leb table most_bytes
    && (leb names most_names && (leb bytes 9 && (is_byte edition && leb (bytes_for table names) room)))

-- the buffer after a file is written with no check of 1 to 5: with the file over its front if it fits, else unchanged
unfoldable pub laid_over : Content → List ℕ → List ℕ
laid_over c buffer =
    if' (fits_in (length c.table) (length c.names) (length c.dialect) c.edition (length buffer))
    (λ _. over 0 (file_of c) buffer) (λ _. buffer)

-- the meaning of the code's answers
abbrev pub written : Result ℕ Refusal → Answer
written (Ok n) = accepted (n ∷ [])
written (Err r) = refusal r
