-- Rescuing a damaged file: what is kept of it, the job's answer, and the buffer at exit. These are definitions.
use Rattle.std.specs.Prelude.{List, [], ◌∷◌, ℕ, ◌-◌, ◌/◌, length, leb, eqb, Err, Ok, Result}
use Rattle.table.specs.declared.Refusal.{Refusal}
use Rattle.fields.specs.Choice.{if'}
use Rattle.forest.specs.Forest.{record_bytes, node_of, roots}
use Rattle.soundness.specs.KindNumbers.{kind_statements}
use Rattle.table.specs.Numbers.{short_buffer, bad_header, nothing_kept}
use Rattle.table.specs.Answer.{Answer, accepted, and_then, refusal}
use Rattle.blocks.specs.Block.{demand}
use Rattle.tablefile.specs.File.{Content, file_of}
use Rattle.tablefile.specs.Reading.{header_at, content_at}
use Rattle.writer.specs.Writing.{holding, bytes_for, afterwards}
use Rattle.rescue.specs.declared.Kept.{Kept}
use Rattle.rescue.specs.Good.{head_good, blocks_pass, good_table}
use Rattle.rescue.specs.Cut.{children, largest_cut}

-- the table that is kept, empty if none: all of it if the blocks pass, else the largest cut
unfoldable pub table_kept : List ℕ → List ℕ
table_kept bs =
    if' (blocks_pass bs) (λ _. (content_at bs).table) (λ _. largest_cut (good_table bs) (content_at bs).names)

-- the content that is kept: with names, dialect and edition whole
abbrev pub kept : List ℕ → Content
kept bs = holding (table_kept bs) (content_at bs).names (content_at bs).dialect (content_at bs).edition

-- the statements of a table: the root's children, 1 for any other root
unfoldable pub statements_of : List ℕ → ℕ
statements_of t = if' (eqb (node_of 0 t).kind kind_statements) (λ _. length (roots (children t))) (λ _. 1)

-- the counts of a rescue: the bytes written, the statements and nodes kept, the nodes dropped of the header's number,
-- and the bytes after the header's last block, 0 if the file is shorter
abbrev pub told_of : List ℕ → List ℕ → List ℕ
told_of bs t =
    let nodes = length t / record_bytes in
    bytes_for (length t) (header_at bs).names ∷ statements_of t ∷ nodes ∷ ((header_at bs).nodes - nodes)
    ∷ (length bs - (header_at bs).taken) ∷ []

-- the job, for a buffer of `room` bytes: 90 (bad header or name block), 91 (nothing can be kept), then 7
unfoldable pub rescue_of : List ℕ → ℕ → Answer
rescue_of bs room =
    let t = table_kept bs in
    and_then (demand (head_good bs) bad_header) (λ _.
    and_then (demand (leb 1 (length t)) nothing_kept) (λ _.
    and_then (demand (leb (bytes_for (length t) (header_at bs).names) room) short_buffer) (λ _.
    accepted (told_of bs t))))

-- the buffer at exit: with the file of what is kept written over its front if accepted, else unchanged
unfoldable pub file_after : List ℕ → List ℕ → List ℕ
file_after bs buffer = afterwards (rescue_of bs (length buffer)) (file_of (kept bs)) buffer

-- the meaning of the code's answers
abbrev pub told : Kept → List ℕ
told k = k.bytes ∷ k.statements ∷ k.nodes ∷ k.dropped ∷ k.after ∷ []

abbrev pub rescued : Result Kept Refusal → Answer
rescued (Ok k) = accepted (told k)
rescued (Err r) = refusal r
