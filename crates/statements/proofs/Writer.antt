-- W-201: WRITING THE TABLE FILE
--
-- Theorems of the crate `writer` about the contracts of `writer::write` and of the reader: `Write` and `Read`, each two
-- equations, are written as hypotheses; c is the content to be written, with the number of an edition or none (W-212).
-- Each statement is proved by citing the theorem. Assumes nothing.
use Rattle.std.specs.Prelude.{Err, Ok, Option, Result, ℕ}
use mathlib.Core.Path.{◌≡◌}
use mathlib.Core.List.{List, [], ◌++◌}
use Prim.Native.Nat.{ℕ, suc, ◌*◌, ◌<◌, ◌≤◌}
use lib.ListN.{length, get_or, take, drop}
use Rattle.table.specs.Numbers.{short_buffer}
use Rattle.table.specs.Answer.{accepted}
use Rattle.table.specs.Check.{most_bytes, most_names}
use Rattle.table.specs.declared.Refusal.{Refusal}
use Rattle.table.specs.declared.Refusal.TheVariants.{Bare}
use Rattle.tablefile.specs.File.{Content, most_blocks}
use Rattle.tablefile.specs.Reading.{header_at, content_at, sound_check, read_check}
use Rattle.tablefile.specs.Lending.{into_check, handed}
use Rattle.tablefile.specs.Loading.{verdict, loaded_of, held}
use Rattle.tablefile.specs.declared.Loaded.{Loaded}
use Rattle.writer.specs.Writing.{holding, bytes_for, write_of, file_after, written}
use Rattle.writer.proofs.RoundTrips as theorem
use Rattle.writer.proofs.Enough as theorem_enough

-- "Its output reads back as the same table, names and dialect."
-- In words: the reader's answer on the bytes that an accepted write has written holds the same table, names, dialect
-- and edition.
pub same_content : (c : Content) (buffer : List ℕ) (r : Result ℕ Refusal) (after : List ℕ)
    → written r ≡ write_of c (length buffer)
    → after ≡ file_after c buffer
    → {n : ℕ}
    → r ≡ Ok n
    → ((i : ℕ) → get_or c.table i 0 < 256)
    → ((i : ℕ) → get_or c.names i 0 < 256)
    → ((i : ℕ) → get_or c.dialect i 0 < 256)
    → (s : Loaded)
    → verdict s.verdict ≡ read_check (take n after)
    → s ≡ loaded_of s.verdict (content_at (take n after)) (header_at (take n after)).taken
    → held s ≡ c
same_content c buffer r after a b good x y z s v l =
    theorem.same_content c buffer r after (a, b) good x y z s (v, l)

-- "Its output reads back": the whole answer
-- In words: that answer is the accepted one, with this table, these names, this dialect, this edition and the number of
-- bytes.
pub reads_back : (c : Content) (buffer : List ℕ) (r : Result ℕ Refusal) (after : List ℕ)
    → written r ≡ write_of c (length buffer)
    → after ≡ file_after c buffer
    → {n : ℕ}
    → r ≡ Ok n
    → ((i : ℕ) → get_or c.table i 0 < 256)
    → ((i : ℕ) → get_or c.names i 0 < 256)
    → ((i : ℕ) → get_or c.dialect i 0 < 256)
    → (s : Loaded)
    → verdict s.verdict ≡ read_check (take n after)
    → s ≡ loaded_of s.verdict (content_at (take n after)) (header_at (take n after)).taken
    → s ≡ loaded_of (Ok tt) c n
reads_back c buffer r after a b good x y z s v l =
    theorem.reads_back c buffer r after (a, b) good x y z s (v, l)

-- the reader does not refuse the output
-- In words: the reader accepts the bytes that an accepted write has written.
pub not_refused : (c : Content) (buffer : List ℕ) (r : Result ℕ Refusal) (after : List ℕ)
    → written r ≡ write_of c (length buffer)
    → after ≡ file_after c buffer
    → {n : ℕ}
    → r ≡ Ok n
    → ((i : ℕ) → get_or c.table i 0 < 256)
    → ((i : ℕ) → get_or c.names i 0 < 256)
    → ((i : ℕ) → get_or c.dialect i 0 < 256)
    → (s : Loaded)
    → verdict s.verdict ≡ read_check (take n after)
    → s ≡ loaded_of s.verdict (content_at (take n after)) (header_at (take n after)).taken
    → s.verdict ≡ Ok tt
not_refused c buffer r after a b good x y z s v l =
    theorem.not_refused c buffer r after (a, b) good x y z s (v, l)

-- "each file that the reader accepts is written again to the same bytes"
-- In words: written from the reader's answer into a buffer that is long enough, an accepted file gives its own bytes,
-- whether it uses 4, 13 or 14 bytes of block 0.
pub written_again : (file : List ℕ) (s : Loaded)
    → ((i : ℕ) → get_or file i 0 < 256)
    → verdict s.verdict ≡ read_check file
    → s ≡ loaded_of s.verdict (content_at file) (header_at file).taken
    → s.verdict ≡ Ok tt
    → (buffer : List ℕ) (r : Result ℕ Refusal) (after : List ℕ)
    → written r ≡ write_of (held s) (length buffer)
    → after ≡ file_after (held s) buffer
    → length file ≤ length buffer
    → (r ≡ Ok (length file)) × (after ≡ file ++ drop (length file) buffer)
written_again file s small v l good buffer r after a b =
    theorem.written_again file s small (v, l) good buffer r after (a, b)

-- "then 7 exactly if the blocks don't fit"
-- In words: if 1 to 5 pass and the buffer is shorter than the blocks, the answer is 7.
pub short_is_7 : (c : Content) (buffer : List ℕ) (r : Result ℕ Refusal) (after : List ℕ)
    → written r ≡ write_of c (length buffer)
    → after ≡ file_after c buffer
    → sound_check c ≡ accepted []
    → length buffer < bytes_for (length c.table) (length c.names)
    → r ≡ Err (Bare short_buffer)
short_is_7 c buffer r after a b = theorem.short_is_7 c buffer r after (a, b)

-- "exactly": otherwise it is accepted
-- In words: if 1 to 5 pass and the blocks fit, the answer is their number of bytes.
pub fits_is_accepted : (c : Content) (buffer : List ℕ) (r : Result ℕ Refusal) (after : List ℕ)
    → written r ≡ write_of c (length buffer)
    → after ≡ file_after c buffer
    → sound_check c ≡ accepted []
    → bytes_for (length c.table) (length c.names) ≤ length buffer
    → r ≡ Ok (bytes_for (length c.table) (length c.names))
fits_is_accepted c buffer r after a b = theorem.fits_is_accepted c buffer r after (a, b)

-- 59,904 bytes are never too few
-- In words: the blocks of what passes 1 to 5 take at most 117 times 512 bytes.
pub never_too_short : (c : Content) (buffer : List ℕ) (r : Result ℕ Refusal) (after : List ℕ)
    → written r ≡ write_of c (length buffer)
    → after ≡ file_after c buffer
    → sound_check c ≡ accepted []
    → bytes_for (length c.table) (length c.names) ≤ 512 * most_blocks
never_too_short c buffer r after a b = theorem.never_too_short c buffer r after (a, b)

-- "the buffer then stays"
-- In words: if the writer refuses, the buffer at exit is the buffer at entry.
pub refusal_keeps : (c : Content) (buffer : List ℕ) (r : Result ℕ Refusal) (after : List ℕ)
    → written r ≡ write_of c (length buffer)
    → after ≡ file_after c buffer
    → {why : Refusal}
    → r ≡ Err why
    → after ≡ buffer
refusal_keeps c buffer r after a b = theorem.refusal_keeps c buffer r after (a, b)

-- "bytes past the blocks always"
-- In words: after an accepted write, the bytes past the blocks are unchanged.
pub past_stays : (c : Content) (buffer : List ℕ) (r : Result ℕ Refusal) (after : List ℕ)
    → written r ≡ write_of c (length buffer)
    → after ≡ file_after c buffer
    → {n : ℕ}
    → r ≡ Ok n
    → drop n after ≡ drop n buffer
past_stays c buffer r after a b = theorem.past_stays c buffer r after (a, b)

-- `read_into` gives back what was written
-- In words: the bytes that were written are accepted by `read_into`, into buffers that table and names fit.
pub into_accepted : (c : Content) (buffer : List ℕ) (r : Result ℕ Refusal) (after : List ℕ)
    → written r ≡ write_of c (length buffer)
    → after ≡ file_after c buffer
    → {n : ℕ}
    → r ≡ Ok n
    → ((i : ℕ) → get_or c.table i 0 < 256)
    → ((i : ℕ) → get_or c.names i 0 < 256)
    → ((i : ℕ) → get_or c.dialect i 0 < 256)
    → (room-t room-n : List ℕ)
    → length c.table ≤ length room-t
    → length c.names ≤ length room-n
    → into_check (take n after) (length room-t) (length room-n) ≡ accepted []
into_accepted c buffer r after a b = theorem.into_accepted c buffer r after (a, b)

-- the table, by `read_into`
-- In words: the table's buffer then begins with the table, and its other bytes are unchanged.
pub hands_back_table : (c : Content) (buffer : List ℕ) (r : Result ℕ Refusal) (after : List ℕ)
    → written r ≡ write_of c (length buffer)
    → after ≡ file_after c buffer
    → {n : ℕ}
    → r ≡ Ok n
    → ((i : ℕ) → get_or c.table i 0 < 256)
    → ((i : ℕ) → get_or c.names i 0 < 256)
    → ((i : ℕ) → get_or c.dialect i 0 < 256)
    → (room-t room-n : List ℕ)
    → length c.table ≤ length room-t
    → length c.names ≤ length room-n
    → handed (into_check (take n after) (length room-t) (length room-n)) (content_at (take n after)).table room-t
    ≡ c.table ++ drop (length c.table) room-t
hands_back_table c buffer r after a b = theorem.hands_back_table c buffer r after (a, b)

-- the names, by `read_into`
-- In words: the names' buffer then begins with the names, and its other bytes are unchanged.
pub hands_back_names : (c : Content) (buffer : List ℕ) (r : Result ℕ Refusal) (after : List ℕ)
    → written r ≡ write_of c (length buffer)
    → after ≡ file_after c buffer
    → {n : ℕ}
    → r ≡ Ok n
    → ((i : ℕ) → get_or c.table i 0 < 256)
    → ((i : ℕ) → get_or c.names i 0 < 256)
    → ((i : ℕ) → get_or c.dialect i 0 < 256)
    → (room-t room-n : List ℕ)
    → length c.table ≤ length room-t
    → length c.names ≤ length room-n
    → handed (into_check (take n after) (length room-t) (length room-n)) (content_at (take n after)).names room-n
    ≡ c.names ++ drop (length c.names) room-n
hands_back_names c buffer r after a b = theorem.hands_back_names c buffer r after (a, b)

-- 50,401 bytes of a table, 8,065 of names and 10 of a dialect are enough, however long they are
-- In words: the answer for these first bytes is the answer for all, and the buffer at exit is the same.
pub read_enough : (t names ds : List ℕ) (edition : Option ℕ)
    → ((room : ℕ) → write_of (holding (take (suc most_bytes) t) (take (suc most_names) names) (take 10 ds) edition) room
    ≡ write_of (holding t names ds edition) room)
    × ((buffer : List ℕ)
    → file_after (holding (take (suc most_bytes) t) (take (suc most_names) names) (take 10 ds) edition) buffer
    ≡ file_after (holding t names ds edition) buffer)
read_enough t names ds edition = let x = theorem_enough.read_enough t names ds edition in (x.answer, x.after)
