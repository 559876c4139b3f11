-- What users of a file's answer rely on. A refused file gives the reader's refusal and changes no word: the
-- definition tests the reader's check first. An accepted file is listed with all its errors, because the module job
-- refuses only with 1 to 5, which it has passed; the edition does not matter (`edition_ignored`), because the job
-- reads no types. The sizes of `check_read` are enough for every file: a table has at most two errors for each node,
-- and Enough gives the number of bytes. Assumes nothing.
use mathlib.Core.Path.{◌≡◌, refl}
use mathlib.Core.List.{List, [], ◌∷◌, ◌++◌}
use Prim.Native.Nat.{ℕ, ◌*◌, ◌/◌}
use native.Mathlib.Omega.{arith}
use lib.ListN.{length, take, drop}
use Rattle.table.specs.Answer.{accepted, refused}
use Rattle.table.specs.Check.{given_check}
use Rattle.tablefile.specs.File.{Content}
use Rattle.tablefile.specs.Reading.{header_at, content_at, read_check}
use Rattle.tablefile.proofs.Fronts.{table_length_lem}
use Rattle.tablefile.proofs.Accepted.{read_fronted, read_is_sound}
use Rattle.errors.specs.declared.Finding.{Finding}
use Rattle.errors.specs.Errors.{width}
use Rattle.errors.specs.declared.Listing.TheVariants.{Module}
use Rattle.errors.proofs.Storing.{all_words}
use Rattle.validate.specs.Job.{errors_of}
use Rattle.validate.proofs.Theorems.{list_holds_all}
use Rattle.filepass.specs.Sizes.{enough_bytes, enough_words}
use Rattle.filepass.specs.Passing.{answer_of, words_after}
use Rattle.filepass.proofs.Enough.{read_enough}
use Rattle.filepass.proofs.Listing.{held_few, held_listed, sound_given}

-- THEOREM: a file that the reader refuses is answered with that refusal, and changes no word
pub refused_keeps : (file xs : List ℕ) {n : ℕ} {vs : List ℕ} → read_check file ≡ refused n vs
    → (answer_of file ≡ refused n vs) × (words_after file xs ≡ xs)
unfolding answer_of words_after
refused_keeps file xs e = (rw e refl, rw e refl)

module _ (file : List ℕ) (good : read_check file ≡ accepted []) where
  abbrev c : Content
  c = content_at file

  abbrev errors : List Finding
  errors = errors_of c.table c.names c.dialect

  sound : given_check c.table c.names c.dialect ≡ accepted []
  sound = sound_given c (read_is_sound file good)

  nodes : length c.table / 24 ≡ (header_at file).nodes
  nodes = omega (arith, table_length_lem file (read_fronted file good))

  -- THEOREM: an accepted file is answered with its nodes and errors: the module pass does not refuse it
  pub accepted_is_listed : answer_of file ≡ accepted ((header_at file).nodes ∷ length errors ∷ [])
  unfolding answer_of
  accepted_is_listed = rw good (rw (held_listed _ _ _ sound, nodes) refl)

  -- THEOREM: a list of `enough_words` words has room for all of them
  pub list_has_room : (xs : List ℕ) → length xs ≡ enough_words
      → words_after file xs ≡ all_words Module errors ++ drop (width Module * length errors) xs
  unfolding words_after
  list_has_room xs long = rw good (list_holds_all c.table c.names c.dialect xs
      (omega (arith, held_few _ _ _ sound)))

-- THEOREM: two accepted files that differ in their edition alone have the same listing
pub edition_ignored : (file other xs : List ℕ) → read_check file ≡ accepted [] → read_check other ≡ accepted []
    → (content_at file).table ≡ (content_at other).table → (content_at file).names ≡ (content_at other).names
    → (content_at file).dialect ≡ (content_at other).dialect
    → (answer_of file ≡ answer_of other) × (words_after file xs ≡ words_after other xs)
unfolding answer_of words_after
edition_ignored file other xs good well table names dialect =
    (rw (good, well, table, names, dialect) refl, rw (good, well, table, names, dialect) refl)

-- THEOREM: where a buffer holds a file, or `enough_bytes` of it, `check_read` answers what is answered to the file
pub read_is_whole : (file buffer xs : List ℕ) (len : ℕ) → take len buffer ≡ take enough_bytes file
    → (answer_of (take len buffer) ≡ answer_of file) × (words_after (take len buffer) xs ≡ words_after file xs)
read_is_whole file buffer xs len e = rw e (read_enough file xs)
