-- A TABLE FILE TO ITS ANSWER
--
-- Theorems of the crate `filepass` about the answers of `filepass::check_file` and `check_read` and the list of words
-- that they leave. Each statement is proved by citing the theorem. Assumes nothing.
use mathlib.Core.Path.{◌≡◌}
use mathlib.Core.List.{List, [], ◌∷◌, ◌++◌}
use Prim.Native.Nat.{ℕ, ◌*◌}
use lib.ListN.{length, take, drop}
use Rattle.table.specs.Answer.{accepted, refused}
use Rattle.tablefile.specs.Reading.{header_at, content_at, read_check}
use Rattle.tablefile.specs.Lending.{into_check, handed}
use Rattle.errors.specs.Errors.{width}
use Rattle.errors.specs.declared.Listing.TheVariants.{Module}
use Rattle.errors.proofs.Storing.{all_words}
use Rattle.validate.specs.Job.{errors_of}
use Rattle.filepass.specs.Sizes.{enough_bytes, enough_words}
use Rattle.filepass.specs.Passing.{answer_of, words_after}
use Rattle.filepass.proofs.Theorems as theorem
use Rattle.filepass.proofs.Enough as theorem_enough

-- "A refusal prints one line": a file that the reader refuses
-- In words: its answer is the reader's refusal, and the list of words is unchanged.
pub refused_keeps : (file xs : List ℕ) {n : ℕ} {vs : List ℕ}
    → read_check file ≡ refused n vs
    → (answer_of file ≡ refused n vs) × (words_after file xs ≡ xs)
refused_keeps = theorem.refused_keeps

-- "Then 1 to 5, then the module pass": the module pass does not refuse what the reader accepted
-- In words: the answer for an accepted file is its numbers of nodes and of errors.
pub accepted_is_listed : (file : List ℕ)
    → read_check file ≡ accepted []
    → answer_of file
    ≡ accepted ((header_at file).nodes
    ∷ length (errors_of (content_at file).table (content_at file).names (content_at file).dialect) ∷ [])
accepted_is_listed = theorem.accepted_is_listed

-- the program's list holds every error
-- In words: a list of `enough_words` words then holds all errors in order, and its other words are unchanged.
pub list_has_room : (file : List ℕ)
    → read_check file ≡ accepted []
    → (xs : List ℕ)
    → length xs ≡ enough_words
    → words_after file xs
    ≡ all_words Module (errors_of (content_at file).table (content_at file).names (content_at file).dialect)
    ++ drop (width Module
    * length (errors_of (content_at file).table (content_at file).names (content_at file).dialect)) xs
list_has_room = theorem.list_has_room

-- "a file with edition 2 has the listing it had" (W-212)
-- In words: two accepted files with the same table, names and dialect have the same answer and leave the same words,
-- whatever their editions.
pub edition_ignored : (file other xs : List ℕ)
    → read_check file ≡ accepted []
    → read_check other ≡ accepted []
    → (content_at file).table ≡ (content_at other).table
    → (content_at file).names ≡ (content_at other).names
    → (content_at file).dialect ≡ (content_at other).dialect
    → (answer_of file ≡ answer_of other) × (words_after file xs ≡ words_after other xs)
edition_ignored = theorem.edition_ignored

-- the first `enough_bytes` bytes of a file of any length are enough
-- In words: the answer for the first `enough_bytes` bytes of a file is the answer for the file, and the words are the
-- same.
pub read_enough : (file xs : List ℕ)
    → (answer_of (take enough_bytes file) ≡ answer_of file)
    × (words_after (take enough_bytes file) xs ≡ words_after file xs)
read_enough = theorem_enough.read_enough

-- so the program may read into one buffer of that size
-- In words: if the first len bytes of a buffer are the file, or its first `enough_bytes` bytes, the answer for them is
-- the answer for the file.
pub read_is_whole : (file buffer xs : List ℕ) (len : ℕ)
    → take len buffer ≡ take enough_bytes file
    → (answer_of (take len buffer) ≡ answer_of file)
    × (words_after (take len buffer) xs ≡ words_after file xs)
read_is_whole = theorem.read_is_whole

-- the same for a file that is read into lent buffers
-- In words: for `tablefile::read_into` the first `enough_bytes` bytes of a file give the answer of the file, and table
-- and names at exit are the same.
pub into_enough : (file t ns : List ℕ)
    → (into_check (take enough_bytes file) (length t) (length ns) ≡ into_check file (length t) (length ns))
    × (handed (into_check (take enough_bytes file) (length t) (length ns)) (content_at (take enough_bytes file)).table t
    ≡ handed (into_check file (length t) (length ns)) (content_at file).table t)
    × (handed (into_check (take enough_bytes file) (length t) (length ns))
    (content_at (take enough_bytes file)).names ns
    ≡ handed (into_check file (length t) (length ns)) (content_at file).names ns)
into_enough file t ns =
    let x = theorem_enough.into_enough file t ns in
    (x.0, x.1.0, x.1.1)
