-- The hypotheses of the claims on damaged files can be met: a file with good blocks whose third record, a Break with
-- a detail, is unsound. Its blocks do not pass, and the rescue keeps the first of its two statements. The same with
-- wrong source file numbers (W-208): the rescue cuts before a child with a wrong number, and keeps nothing under a
-- root that has one. All is computed. Assumes nothing.
use Rattle.std.specs.Prelude.{None}
use mathlib.Core.Path.{◌≡◌, refl}
use mathlib.Core.Bool.{Bool, true, false}
use mathlib.Core.List.{List, [], ◌∷◌, ◌++◌, map}
use Prim.Native.Nat.{ℕ}
use lib.ListN.{replicate}
use Rattle.soundness.specs.KindNumbers.{kind_statements, kind_break}
use Rattle.table.specs.Numbers.{nothing_kept}
use Rattle.table.specs.Answer.{accepted, refused}
use Rattle.fields.specs.Field.{field, bytes_of}
use Rattle.blocks.specs.Block.{weighed, sum_of, before_sum, block_of, zeros, examine}
use Rattle.blocks.specs.Block.{judge}
use Rattle.blocks.specs.Run.{blocks_for, blocks_of, run_of, judge_blocks, judge_run, good_blocks}
use Rattle.blocks.specs.Run.{contents, content_in, content_of}
use Rattle.tablefile.specs.File.{Content, header_of, file_of}
use Rattle.tablefile.specs.Reading.{dialect_in, edition_in, header_at, content_at, counts_fit, blocks_check, read_check}
use Rattle.forest.specs.Forest.{size_of, kids_of, rest_of, forest_in, forest, roots}
use Rattle.forest.specs.Forest.{firsts, count, count_tree}
use Rattle.forest.specs.Names.{same}
use Rattle.soundness.specs.Kinds.{kind_in, kind_of}
use Rattle.soundness.specs.Files.{file_sound, ends_by, top_of, files_of}
use Rattle.soundness.specs.Sound.{name_sound, span_sound, source_sound, fields_sound, whole_trees, classes}
use Rattle.soundness.specs.Sound.{permitted, wanted, permits, kids_sound, sound_node, sound_at}
use Rattle.soundness.specs.Sound.{root_sound, context_of, record_sound, first_false, first_unsound}
use Rattle.table.specs.Check.{length_sound, check_of, given_of, rules_of}
use Rattle.table.specs.Depth.{class_weight, weight, first_deep, deep_in}
use Rattle.rescue.specs.Good.{head_good, blocks_pass, good_table}
use Rattle.rescue.specs.Cut.{resized, cut_to, largest, children_kept, largest_cut}
use Rattle.rescue.specs.Job.{table_kept, statements_of, rescue_of}
use Rattle.dialect.specs.Bytes.{within, valid_bytes, from_bytes}
use Rattle.dialect.specs.Editions.{edition_held}

-- the 24 bytes of a record without a name: kind, detail, size, source file
abbrev record_of : ℕ → ℕ → ℕ → ℕ → List ℕ
record_of kind detail size file = kind ∷ detail ∷ (replicate 14 0 ++ (size ∷ 0 ∷ file ∷ replicate 5 0))

-- a file of one block of records, with no name and no dialect
abbrev pub holding : List ℕ → Content
holding t = record { table = t; names = []; dialect = []; edition = None }

abbrev pub content : Content
content = holding (record_of kind_statements 0 3 0 ++ (record_of kind_break 0 1 1 ++ record_of kind_break 1 1 1))

-- wrong source file numbers: of the second child, of the root, and of a file that is older than the numbers
abbrev pub wrong_child : Content
wrong_child = holding (record_of kind_statements 0 3 0 ++ (record_of kind_break 0 1 1 ++ record_of kind_break 0 1 0))

abbrev pub wrong_root : Content
wrong_root = holding (record_of kind_statements 0 2 1 ++ record_of kind_break 0 1 1)

abbrev pub old_file : Content
old_file = holding (record_of kind_statements 0 2 0 ++ record_of kind_break 0 1 0)

-- what computes a file and its rescue: to unfold this is to unfold all of these
unfoldable rescuing : Bool
unfolding field bytes_of weighed sum_of before_sum block_of zeros examine judge blocks_for blocks_of run_of judge_blocks
    judge_run good_blocks contents content_in content_of header_of file_of dialect_in edition_in edition_held rules_of
    header_at
    content_at counts_fit blocks_check read_check size_of kids_of rest_of forest_in forest roots firsts count count_tree
    same
    kind_in kind_of name_sound span_sound source_sound fields_sound whole_trees classes permitted wanted permits
    kids_sound
    sound_node sound_at root_sound file_sound ends_by top_of files_of context_of record_sound first_false first_unsound
    length_sound check_of given_of class_weight weight first_deep deep_in head_good blocks_pass good_table resized
    cut_to largest
    children_kept largest_cut table_kept statements_of rescue_of within valid_bytes from_bytes
rescuing = true

-- the reader refuses its blocks with 3
pub does_not_pass : blocks_pass (file_of content) ≡ false
unfolding rescuing
does_not_pass = refl

-- the counts: 1,024 bytes, one statement and two nodes kept, one node dropped, no byte after the last block
pub is_rescued : rescue_of (file_of content) 1024 ≡ accepted (1024 ∷ 1 ∷ 2 ∷ 1 ∷ 0 ∷ [])
unfolding rescuing
is_rescued = refl

-- the child with a wrong number is dropped; of the other two files nothing is kept, 91
pub numbers_rescued : map (λ (c : Content). rescue_of (file_of c) 1024) (wrong_child ∷ wrong_root ∷ old_file ∷ [])
    ≡ accepted (1024 ∷ 1 ∷ 2 ∷ 1 ∷ 0 ∷ []) ∷ refused nothing_kept [] ∷ refused nothing_kept [] ∷ []
unfolding rescuing
numbers_rescued = refl
