-- The claims on the rescue, in the order of W-205, over the job's answer and the buffer at exit. proofs/Theorems.antt
-- proves each of them. These are definitions.
use Rattle.std.specs.Prelude.{◌≡◌, true, false, List, [], ℕ, ◌-◌, ◌/◌, ◌<◌, ◌≤◌, length, get_or, take, drop, Err, Ok, Result}
use Rattle.fields.proofs.Spelling.{Bytes}
use Rattle.forest.specs.Forest.{record_bytes, node_of, roots}
use Rattle.soundness.specs.KindNumbers.{kind_statements}
use Rattle.table.specs.Numbers.{bad_header, nothing_kept}
use Rattle.table.specs.Answer.{accepted}
use Rattle.table.specs.Check.{check_of}
use Rattle.table.specs.declared.Refusal.{Refusal}
use Rattle.table.specs.declared.Refusal.TheVariants.{Bare}
use Rattle.tablefile.specs.Reading.{header_at, content_at}
use Rattle.tablefile.specs.Loading.{loaded_of}
use Rattle.tablefile.specs.declared.Loaded.{Loaded}
use Rattle.tablefile.proofs.Theorems.{Read}
use Rattle.rescue.specs.declared.Kept.{Kept}
use Rattle.rescue.specs.Good.{head_good, blocks_pass, good_table}
use Rattle.rescue.specs.Cut.{children, cut_to}
use Rattle.rescue.specs.Job.{table_kept, kept, statements_of, rescue_of, file_after, rescued}

-- the promise of the job: the answer r, and the buffer at exit
abbrev pub Rescue : List ℕ → List ℕ → Result Kept Refusal → List ℕ → Type 0
Rescue bs buffer r after = (rescued r ≡ rescue_of bs (length buffer)) × (after ≡ file_after bs buffer)

-- a property of every accepted rescue: of the input, of the counts, and of the buffer at exit
abbrev pub Answered : (List ℕ → Kept → List ℕ → Type 0) → Type 0
Answered P = (bs buffer : List ℕ) (r : Result Kept Refusal) (after : List ℕ) → Rescue bs buffer r after
    → (k : Kept) → r ≡ Ok k → P bs k after

-- a number of leading children of a root Statements gives a cut table that passes 1 to 4. The children are those in
-- good node blocks before the first bad or missing one, within the root's written size
abbrev pub Passes : List ℕ → ℕ → Type 0
Passes bs j = ((node_of 0 (good_table bs)).kind ≡ kind_statements) × (j ≤ length (roots (children (good_table bs))))
    × (check_of (cut_to j (good_table bs)) (content_at bs).names ≡ accepted [])

-- 1: if the blocks do not pass, the number of statements kept is the largest number of leading children that passes; it
-- is at least 1, and what is kept is their cut
pub record Largest (bs : List ℕ) (k : Kept) : Type 0 where
  pub some : 1 ≤ k.statements
  pub passed : Passes bs k.statements
  pub cut : table_kept bs ≡ cut_to k.statements (good_table bs)
  pub none : (j : ℕ) → k.statements < j → Passes bs j → ⊥

abbrev pub LargestNumber : Type 0
LargestNumber = Answered (λ bs k after. blocks_pass bs ≡ false → Largest bs k)

-- 2: 90 exactly if the header or a name block is bad
abbrev pub BadHeader : Type 0
BadHeader = (bs buffer : List ℕ) (r : Result Kept Refusal) (after : List ℕ) → Rescue bs buffer r after
    → (head_good bs ≡ false → r ≡ Err (Bare bad_header)) × (r ≡ Err (Bare bad_header) → head_good bs ≡ false)

-- 3: 91 exactly if the header is good, the blocks do not pass, and no child can be kept
pub record Nothing (bs : List ℕ) : Type 0 where
  pub head : head_good bs ≡ true
  pub blocks : blocks_pass bs ≡ false
  pub none : (j : ℕ) → 1 ≤ j → Passes bs j → ⊥

abbrev pub NothingKept : Type 0
NothingKept = (bs buffer : List ℕ) (r : Result Kept Refusal) (after : List ℕ) → Rescue bs buffer r after
    → (Nothing bs → r ≡ Err (Bare nothing_kept)) × (r ≡ Err (Bare nothing_kept) → Nothing bs)

-- 4: the reader accepts the output, which holds the table that is kept, and names, dialect and edition of the header
-- whole
abbrev pub ReadBack : Type 0
ReadBack = Answered (λ bs k after. Bytes bs → (s : Loaded) → Read (take k.bytes after) s
    → s ≡ loaded_of (Ok tt) (kept bs) k.bytes)

-- 5: if the blocks pass, the output is these blocks, byte for byte, and no node is dropped
pub record Whole (bs : List ℕ) (k : Kept) (after : List ℕ) : Type 0 where
  pub blocks : take k.bytes after ≡ take (header_at bs).taken bs
  pub nothing : k.dropped ≡ 0

abbrev pub GivenBack : Type 0
GivenBack = Answered (λ bs k after. Bytes bs → blocks_pass bs ≡ true → Whole bs k after)

-- 6: a rescued file is rescued to itself, and nothing is dropped
abbrev pub Again : Type 0
Again = Answered (λ bs k after. Bytes bs → (next : List ℕ) (q : Result Kept Refusal) (later : List ℕ)
    → Rescue (take k.bytes after) next q later → k.bytes ≤ length next
    → (q ≡ Ok record {
      bytes = k.bytes;
      statements = k.statements;
      nodes = k.nodes;
      dropped = 0;
      after = 0;
    }) × (take k.bytes later ≡ take k.bytes after))

-- 7: in the root only the subtree size changes (bytes 16 and 17), and no other record changes
abbrev pub OnlySize : Type 0
OnlySize = (bs : List ℕ) → blocks_pass bs ≡ false → (i : ℕ) → i < length (table_kept bs) → (i ≡ 16 → ⊥) → (i ≡ 17 → ⊥)
    → get_or (table_kept bs) i 0 ≡ get_or (good_table bs) i 0

-- 8: the printed counts are those of the table that is kept, and of the header
pub record Counted (bs : List ℕ) (k : Kept) : Type 0 where
  pub statements : k.statements ≡ statements_of (table_kept bs)
  pub nodes : k.nodes ≡ length (table_kept bs) / record_bytes
  pub dropped : k.dropped ≡ (header_at bs).nodes - k.nodes
  pub after : k.after ≡ length bs - (header_at bs).taken

abbrev pub Counts : Type 0
Counts = Answered (λ bs k after. Counted bs k)

-- 9: bytes past the output stay, and a refusal changes no byte
abbrev pub PastStays : Type 0
PastStays = (bs buffer : List ℕ) (r : Result Kept Refusal) (after : List ℕ) → Rescue bs buffer r after
    → ((k : Kept) → r ≡ Ok k → drop k.bytes after ≡ drop k.bytes buffer)
    × ((why : Refusal) → r ≡ Err why → after ≡ buffer)
