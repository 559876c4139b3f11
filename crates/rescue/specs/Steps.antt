-- Definitions that only contracts of private functions use. No public answer is defined by them.
use Rattle.std.specs.Prelude.{◌≡◌, Bool, true, ◌&&◌, List, ℕ, suc, ◌*◌, ◌/◌, ◌≤◌, min, length, take, eqb}
use Rattle.fields.specs.Choice.{if'}
use Rattle.forest.specs.Forest.{record_bytes, node_of, Tree, node, Forest, none, ◌then◌, forest, firsts, count}
use Rattle.soundness.specs.Kinds.{statement, class_of}
use Rattle.soundness.specs.Files.{any_file, files_top}
use Rattle.soundness.specs.Sound.{context, unsound_in, clear}
use Rattle.soundness.proofs.SoundTables.{tree_sound}
use Rattle.table.specs.Check.{most_bytes}
use Rattle.table.specs.Depth.{first_deep, deep_in}
use Rattle.blocks.specs.Block.{content_bytes}
use Rattle.blocks.specs.Run.{blocks_for, good_blocks}
use Rattle.tablefile.specs.Reading.{header_at, content_at}
use Rattle.tablefile.specs.declared.Heading.{Heading}
use Rattle.rescue.specs.Good.{head_good, blocks_pass, good_table}
use Rattle.rescue.specs.Cut.{largest_cut}
use Rattle.rescue.specs.Job.{table_kept}

-- a child that can be kept, in a table with m name bytes: a statement whose nodes are sound and have the number of one
-- source file, none of them too deep under a root Statements
unfoldable pub keepable : ℕ → Tree → Bool
keepable names (node r ks) =
    eqb (class_of r.kind) statement
    && ((tree_sound (λ i. context names any_file) (node r ks) && files_top (node r ks then none))
    && clear (deep_in 1 (node r ks)))

-- the same for the records of the child, as the code tests it
unfoldable pub keepable_at : ℕ → List ℕ → Bool
keepable_at names c =
    eqb (class_of (node_of 0 c).kind) statement && (clear (unsound_in names c) && clear (first_deep 1 (forest 0 c)))

-- the number of leading trees that pass a test
unfoldable pub leading : (Tree → Bool) → Forest → ℕ
leading p none = 0
leading p (t then ts) = if' (p t) (λ _. suc (leading p ts)) (λ _. 0)

-- the number of bytes of the leading children that can be kept
unfoldable pub leading_bytes : (Tree → Bool) → Forest → ℕ
leading_bytes p f = record_bytes * count (firsts (leading p f) f)

-- what is kept of the records in good node blocks
unfoldable pub kept_if : Bool → List ℕ → List ℕ → List ℕ
kept_if whole t names = if' whole (λ _. t) (λ _. largest_cut t names)

-- the first r bytes of a buffer are the given ones
pub record Front (kept buffer : List ℕ) (r : ℕ) : Type 0 where
  pub size : r ≡ length kept
  pub front : take r buffer ≡ kept

-- whole records, no more than a table has
pub record Records (t : List ℕ) : Type 0 where
  pub whole : record_bytes * (length t / record_bytes) ≡ length t
  pub few : length t ≤ most_bytes

-- the number of content bytes in the good blocks of a run
unfoldable pub good_bytes : ℕ → ℕ → List ℕ → ℕ
good_bytes first total bs = min (content_bytes * good_blocks (blocks_for total) first total bs) total

-- a file whose header is good, with its header and its names
pub record Ready (bs : List ℕ) (h : Heading) (names : List ℕ) : Type 0 where
  pub heading : h ≡ header_at bs
  pub head : head_good bs ≡ true
  pub called : names ≡ (content_at bs).names

-- the same, with its records in good node blocks
pub record Goods (bs : List ℕ) (h : Heading) (names t : List ℕ) : Type 0 where
  pub ready : Ready bs h names
  pub table : t ≡ good_table bs

-- the same, with the table that is kept, and whether that is all
pub record Keeping (bs : List ℕ) (h : Heading) (names t : List ℕ) (whole : Bool) : Type 0 where
  pub ready : Ready bs h names
  pub table : t ≡ table_kept bs
  pub some : 1 ≤ length t
  pub passed : whole ≡ blocks_pass bs
