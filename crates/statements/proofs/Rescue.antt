-- W-205: RESCUING A DAMAGED FILE
--
-- Theorems of the crate `rescue` about what is kept, from the contracts of `rescue::rescue` and of the reader. `Rescue`
-- and `Read`, each two equations, are written as hypotheses. Each statement is proved by citing the theorem. Assumes
-- nothing.
use Rattle.std.specs.Prelude.{Err, Ok, Result}
use mathlib.Core.Path.{◌≡◌}
use mathlib.Core.Bool.{true, false}
use mathlib.Core.List.{List, []}
use Prim.Native.Nat.{ℕ, ◌-◌, ◌/◌, ◌<◌, ◌≤◌}
use lib.ListN.{length, get_or, take, drop}
use Rattle.forest.specs.Forest.{node_of, forest, roots}
use Rattle.soundness.specs.KindNumbers.{kind_statements}
use Rattle.soundness.specs.Files.{record_at, files_sound}
use Rattle.table.specs.Numbers.{bad_header, nothing_kept}
use Rattle.table.specs.Answer.{accepted}
use Rattle.table.specs.Check.{check_of}
use Rattle.table.specs.declared.Refusal.{Refusal}
use Rattle.table.specs.declared.Refusal.TheVariants.{Bare}
use Rattle.tablefile.specs.Reading.{header_at, content_at, read_check}
use Rattle.tablefile.specs.Loading.{verdict, loaded_of}
use Rattle.tablefile.specs.declared.Loaded.{Loaded}
use Rattle.rescue.specs.declared.Kept.{Kept}
use Rattle.rescue.specs.Good.{head_good, blocks_pass, good_table}
use Rattle.rescue.specs.Cut.{children, cut_to}
use Rattle.rescue.specs.Job.{table_kept, kept, statements_of, rescue_of, file_after, rescued}
use Rattle.rescue.proofs.Theorems as theorem
use Rattle.rescue.proofs.Numbered as theorem_numbered

-- "the largest number of leading children of a root Statements, within its written size, whose records all stand in
-- good node blocks before the first bad or missing one, such that the cut table passes 1 to 4"
-- In words: if the blocks do not pass and the rescue accepts, at least one statement is kept, the cut to the statements
-- kept passes the table check and is what is kept, and the cut to no larger number passes.
pub largest_number : (bs buffer : List ℕ) (r : Result Kept Refusal) (after : List ℕ)
    → rescued r ≡ rescue_of bs (length buffer)
    → after ≡ file_after bs buffer
    → (k : Kept)
    → r ≡ Ok k
    → blocks_pass bs ≡ false
    → (1 ≤ k.statements)
    × ((((node_of 0 (good_table bs)).kind ≡ kind_statements)
    × (k.statements ≤ length (roots (children (good_table bs))))
    × (check_of (cut_to k.statements (good_table bs)) (content_at bs).names ≡ accepted []))
    × ((table_kept bs ≡ cut_to k.statements (good_table bs))
    × ((j : ℕ)
    → k.statements < j
    → (node_of 0 (good_table bs)).kind ≡ kind_statements
    → j ≤ length (roots (children (good_table bs)))
    → check_of (cut_to j (good_table bs)) (content_at bs).names ≡ accepted []
    → ⊥)))
largest_number bs buffer r after a b k e f =
    let l = theorem.largest_number bs buffer r after (a, b) k e f in
    (l.some, (l.passed, (l.cut, λ j h x y z. l.none j h (x, y, z))))

-- "90 a bad header (74 and 5 included) or name block"
-- In words: the rescue refuses with 90 exactly if the header or a name block is bad.
pub bad_header_lem : (bs buffer : List ℕ) (r : Result Kept Refusal) (after : List ℕ)
    → rescued r ≡ rescue_of bs (length buffer)
    → after ≡ file_after bs buffer
    → (head_good bs ≡ false → r ≡ Err (Bare bad_header)) × (r ≡ Err (Bare bad_header) → head_good bs ≡ false)
bad_header_lem bs buffer r after a b = theorem.bad_header_lem bs buffer r after (a, b)

-- "then 91 the blocks don't pass and no child can be kept or the root isn't a readable Statements"
-- In words: the rescue refuses with 91 exactly if the header and the name blocks are good, the blocks do not pass, and
-- the cut to no number of leading children of a root Statements passes the table check.
pub nothing_can_be_kept : (bs buffer : List ℕ) (r : Result Kept Refusal) (after : List ℕ)
    → rescued r ≡ rescue_of bs (length buffer)
    → after ≡ file_after bs buffer
    → (head_good bs ≡ true
    → blocks_pass bs ≡ false
    → ((j : ℕ)
    → 1 ≤ j
    → (node_of 0 (good_table bs)).kind ≡ kind_statements
    → j ≤ length (roots (children (good_table bs)))
    → check_of (cut_to j (good_table bs)) (content_at bs).names ≡ accepted []
    → ⊥)
    → r ≡ Err (Bare nothing_kept))
    × (r ≡ Err (Bare nothing_kept)
    → (head_good bs ≡ true)
    × ((blocks_pass bs ≡ false)
    × ((j : ℕ)
    → 1 ≤ j
    → (node_of 0 (good_table bs)).kind ≡ kind_statements
    → j ≤ length (roots (children (good_table bs)))
    → check_of (cut_to j (good_table bs)) (content_at bs).names ≡ accepted []
    → ⊥)))
nothing_can_be_kept bs buffer r after a b =
    let t = theorem.nothing_can_be_kept bs buffer r after (a, b) in (
      λ h p n. t.0 record { head = h; blocks = p; none = λ j o x. n j o x.0 x.1 x.2 },
      λ e. ((t.1 e).head, ((t.1 e).blocks, λ j o x y z. (t.1 e).none j o (x, y, z))),
    )

-- "Names and dialect are kept whole", and the edition (W-212): the output is accepted by the reader
-- In words: the reader's answer on the bytes that an accepted rescue wrote is accepted, and holds the table that is
-- kept, and the names, the dialect and the edition of the header.
pub read_back : (bs buffer : List ℕ) (r : Result Kept Refusal) (after : List ℕ)
    → rescued r ≡ rescue_of bs (length buffer)
    → after ≡ file_after bs buffer
    → (k : Kept)
    → r ≡ Ok k
    → ((i : ℕ) → get_or bs i 0 < 256)
    → (s : Loaded)
    → verdict s.verdict ≡ read_check (take k.bytes after)
    → s ≡ loaded_of s.verdict (content_at (take k.bytes after)) (header_at (take k.bytes after)).taken
    → s ≡ loaded_of (Ok tt) (kept bs) k.bytes
read_back bs buffer r after a b k e small s v l = theorem.read_back bs buffer r after (a, b) k e small s (v, l)

-- "if the header's blocks pass every check of the reader, those blocks"
-- In words: if the blocks pass, the output is these blocks, byte for byte, and no node is dropped.
pub given_back : (bs buffer : List ℕ) (r : Result Kept Refusal) (after : List ℕ)
    → rescued r ≡ rescue_of bs (length buffer)
    → after ≡ file_after bs buffer
    → (k : Kept)
    → r ≡ Ok k
    → ((i : ℕ) → get_or bs i 0 < 256)
    → blocks_pass bs ≡ true
    → (take k.bytes after ≡ take (header_at bs).taken bs) × (k.dropped ≡ 0)
given_back bs buffer r after a b k e small p =
    let w = theorem.given_back bs buffer r after (a, b) k e small p in
    (w.blocks, w.nothing)

-- A rescued file is rescued to itself.
-- In words: rescuing the output of an accepted rescue, into a buffer with room for it, is accepted with the same
-- counts, drops nothing, and writes the same bytes.
pub again : (bs buffer : List ℕ) (r : Result Kept Refusal) (after : List ℕ)
    → rescued r ≡ rescue_of bs (length buffer)
    → after ≡ file_after bs buffer
    → (k : Kept)
    → r ≡ Ok k
    → ((i : ℕ) → get_or bs i 0 < 256)
    → (next : List ℕ) (q : Result Kept Refusal) (later : List ℕ)
    → rescued q ≡ rescue_of (take k.bytes after) (length next)
    → later ≡ file_after (take k.bytes after) next
    → k.bytes ≤ length next
    → (q ≡ Ok record {
      bytes = k.bytes;
      statements = k.statements;
      nodes = k.nodes;
      dropped = 0;
      after = 0;
    }) × (take k.bytes later ≡ take k.bytes after)
again bs buffer r after a b k e small next q later c d room =
    theorem.again bs buffer r after (a, b) k e small next q later (c, d) room

-- "In the root only the subtree size changes."
-- In words: if the blocks do not pass, every byte of the table that is kept, apart from bytes 16 and 17 of the root, is
-- the byte of the records in good blocks.
pub only_size : (bs : List ℕ)
    → blocks_pass bs ≡ false
    → (i : ℕ)
    → i < length (table_kept bs)
    → (i ≡ 16 → ⊥)
    → (i ≡ 17 → ⊥)
    → get_or (table_kept bs) i 0 ≡ get_or (good_table bs) i 0
only_size = theorem.only_size

-- "It prints the statements kept .., the nodes kept and the nodes dropped by the header's count."
-- In words: the counts are those of the table that is kept and of the header, and of the bytes after its last block.
pub counts : (bs buffer : List ℕ) (r : Result Kept Refusal) (after : List ℕ)
    → rescued r ≡ rescue_of bs (length buffer)
    → after ≡ file_after bs buffer
    → (k : Kept)
    → r ≡ Ok k
    → (k.statements ≡ statements_of (table_kept bs))
    × ((k.nodes ≡ length (table_kept bs) / 24)
    × ((k.dropped ≡ (header_at bs).nodes - k.nodes) × (k.after ≡ length bs - (header_at bs).taken)))
counts bs buffer r after a b k e =
    let c = theorem.counts bs buffer r after (a, b) k e in
    (c.statements, (c.nodes, (c.dropped, c.after)))

-- "A refusal changes no byte", and bytes past the output stay.
-- In words: an accepted rescue leaves the bytes past the output unchanged, and a refusal changes no byte.
pub past_stays : (bs buffer : List ℕ) (r : Result Kept Refusal) (after : List ℕ)
    → rescued r ≡ rescue_of bs (length buffer)
    → after ≡ file_after bs buffer
    → ((k : Kept) → r ≡ Ok k → drop k.bytes after ≡ drop k.bytes buffer)
    × ((why : Refusal) → r ≡ Err why → after ≡ buffer)
past_stays bs buffer r after a b = theorem.past_stays bs buffer r after (a, b)

-- W-208: "Reader, writer, rescue and all answers with a span carry the file number."
-- In words: the file numbers of what an accepted rescue keeps are sound down the tree, so a child with a wrong number
-- is not kept.
pub kept_files : (bs buffer : List ℕ) (r : Result Kept Refusal) (after : List ℕ)
    → rescued r ≡ rescue_of bs (length buffer)
    → after ≡ file_after bs buffer
    → (k : Kept)
    → r ≡ Ok k
    → files_sound (forest 0 (table_kept bs)) ≡ true
kept_files bs buffer r after a b = theorem_numbered.kept_files bs buffer r after (a, b)

-- W-208: "A root Statements has 0 itself"
-- In words: if the header is good and the blocks do not pass, a root with a file number is refused with 91.
pub numbered_root : (bs buffer : List ℕ) (r : Result Kept Refusal) (after : List ℕ)
    → rescued r ≡ rescue_of bs (length buffer)
    → after ≡ file_after bs buffer
    → head_good bs ≡ true
    → blocks_pass bs ≡ false
    → ((node_of 0 (good_table bs)).file ≡ 0 → ⊥)
    → r ≡ Err (Bare nothing_kept)
numbered_root bs buffer r after a b = theorem_numbered.numbered_root bs buffer r after (a, b)

-- W-208: "Files with the old zeros are refused"
-- In words: if the header is good and the blocks do not pass, a first child with the file number 0 is refused with 91.
pub old_zeros : (bs buffer : List ℕ) (r : Result Kept Refusal) (after : List ℕ)
    → rescued r ≡ rescue_of bs (length buffer)
    → after ≡ file_after bs buffer
    → head_good bs ≡ true
    → blocks_pass bs ≡ false
    → (record_at (good_table bs) 1).file ≡ 0
    → r ≡ Err (Bare nothing_kept)
old_zeros bs buffer r after a b = theorem_numbered.old_zeros bs buffer r after (a, b)
