-- The hypotheses of the theorems on files can be met, and not only trivially: the file of `x = 1`, a table of four
-- records with a name, Standard's nine bytes and edition 1. That its content is sound is computed; that its file is
-- accepted and read back as this content is `file_read_back`. Assumes nothing.
use Rattle.std.specs.Prelude.{Ok, Some}
use mathlib.Core.Path.{◌≡◌, refl, sym}
use mathlib.Core.Bool.{Bool, true, ◌&&◌}
use mathlib.Core.List.{List, [], ◌∷◌, ◌++◌}
use Prim.Native.Nat.{ℕ, zero, suc}
use native.Mathlib.Omega.{arith}
use lib.ListN.{length, replicate}
use lib.Dec.{ltb}
use borrow.Author.Tests.{ltb-true}
use Rattle.fields.specs.Field.{field}
use Rattle.fields.proofs.Basics.{and_left, and_right}
use Rattle.fields.proofs.Spelling.{Bytes}
use Rattle.dialect.specs.Bytes.{within, valid_bytes, from_bytes}
use Rattle.dialect.specs.Editions.{edition_of, edition_held}
use Rattle.forest.specs.Forest.{size_of, kids_of, rest_of, forest_in, forest, count, count_tree}
use Rattle.forest.specs.Names.{same}
use Rattle.soundness.specs.KindNumbers.{kind_statements, kind_assign, kind_identifier, kind_int}
use Rattle.soundness.specs.Kinds.{kind_in, kind_of}
use Rattle.soundness.specs.Files.{file_sound, ends_by, top_of, files_of}
use Rattle.soundness.specs.Sound.{name_sound, span_sound, source_sound, fields_sound, whole_trees, classes, permitted}
use Rattle.soundness.specs.Sound.{wanted, permits, kids_sound, sound_node, sound_at, root_sound, context_of, record_sound}
use Rattle.soundness.specs.Sound.{first_false, first_unsound}
use Rattle.table.specs.Answer.{accepted}
use Rattle.table.specs.Check.{length_sound, check_of, given_of, rules_of}
use Rattle.table.specs.Depth.{class_weight, weight, first_deep, deep_in}
use Rattle.tablefile.specs.File.{Content, file_of}
use Rattle.tablefile.specs.Reading.{sound_check}
use Rattle.tablefile.specs.Loading.{loaded_of}
use Rattle.tablefile.specs.declared.Loaded.{Loaded}
use Rattle.tablefile.proofs.Accepted.{SoundContent, back_holds, back_taken, back_accepted}
use Rattle.tablefile.proofs.Theorems.{Read, file_read_back}

-- the 24 bytes of a record whose numbers are below 256: kind, length of the name, span, size, source file
abbrev bytes_of : ℕ → ℕ → ℕ → ℕ → ℕ → ℕ → List ℕ
bytes_of kind len begin stop size file =
    kind ∷ 0 ∷ len ∷ 0 ∷ 0 ∷ 0 ∷ 0 ∷ 0 ∷ begin ∷ 0 ∷ 0 ∷ 0 ∷ stop ∷ 0 ∷ 0 ∷ 0 ∷ size ∷ 0 ∷ file ∷ 0 ∷ replicate 4 0

abbrev pub content : Content
content = record {
  table = bytes_of kind_statements 0 0 5 4 0
      ++ (bytes_of kind_assign 0 0 5 3 1 ++ (bytes_of kind_identifier 1 0 1 1 1 ++ bytes_of kind_int 0 4 5 1 1));
  names = 120 ∷ [];
  dialect = 1 ∷ 1 ∷ 1 ∷ 0 ∷ 0 ∷ 0 ∷ 1 ∷ 0 ∷ 0 ∷ [];
  edition = Some 1;
}

-- numbers that are bytes, by a test
abbrev small : List ℕ → Bool
small [] = true
small (x ∷ l) = ltb x 256 && small l

small_bytes : (l : List ℕ) → small l ≡ true → Bytes l
small_bytes [] e i = omega arith
small_bytes (x ∷ l) e zero = ltb-true x 256 (and_left (ltb x 256) (small l) e)
small_bytes (x ∷ l) e (suc i) = small_bytes l (and_right (ltb x 256) (small l) e) i

-- it passes 1 to 5
pub sound : sound_check content ≡ accepted []
unfolding rules_of edition_of edition_held given_of from_bytes valid_bytes within check_of length_sound field size_of
    kids_of
    rest_of forest_in forest count
    count_tree same kind_in kind_of name_sound span_sound source_sound fields_sound whole_trees classes permitted wanted
    permits
    kids_sound sound_node sound_at root_sound file_sound ends_by top_of files_of context_of record_sound first_false
    first_unsound
    class_weight weight first_deep deep_in
sound = refl

pub meets : SoundContent content
meets = record {
  sound = sound;
  table_bytes = small_bytes content.table refl;
  names_bytes = small_bytes content.names refl;
  dialect_bytes = small_bytes content.dialect refl;
}

-- so an accepted answer meets the promise of `read` on its file
pub answered : Read (file_of content) (loaded_of (Ok tt) content (length (file_of content)))
unfolding loaded_of
answered = (sym (back_accepted content meets), rw (back_holds content meets, back_taken content meets) refl)

-- it is the only such answer
pub only_answer : (r : Loaded) → Read (file_of content) r → r ≡ loaded_of (Ok tt) content (length (file_of content))
only_answer r p = file_read_back content r meets p
