-- Reading a table file: the file at the front of some bytes, and a file that is all of the bytes (docs/FORMAT.md, a
-- table file). These are definitions.
use Rattle.std.specs.Prelude.{Bool, ◌&&◌, ◌||◌, List, [], ◌∷◌, ℕ, ◌+◌, ◌*◌, length, take, drop, eqb, leb, None, Option, Some}
use Rattle.dialect.specs.declared.Edition.{Edition}
use Rattle.dialect.specs.Editions.{stated_bytes, edition_held}
use Rattle.forest.specs.Forest.{record_bytes}
use Rattle.fields.specs.Choice.{if'}
use Rattle.fields.specs.Field.{field}
use Rattle.table.specs.Numbers.{block_counts, bytes_left_over}
use Rattle.table.specs.Answer.{Answer, and_then}
use Rattle.table.specs.Check.{most_nodes, most_names, rules_check}
use Rattle.blocks.specs.Block.{block_bytes, demand, judge}
use Rattle.blocks.specs.Run.{blocks_for, judge_run, content_of}
use Rattle.tablefile.specs.File.{Content}
use Rattle.tablefile.specs.declared.Heading.{Heading}

-- the number of dialect bytes in block 0: nine if it uses 13 or 14 bytes, else none
unfoldable pub dialect_in : ℕ → ℕ
dialect_in used = if' (eqb used 13 || eqb used 14) (λ _. 9) (λ _. 0)

-- the number of edition bytes: one if it uses 14 bytes, else none; so any number of used bytes but 4, 13 and 14 is 73
unfoldable pub edition_in : ℕ → ℕ
edition_in used = if' (eqb used 14) (λ _. 1) (λ _. 0)

-- the header, read from block 0: the numbers of nodes, name bytes, dialect bytes and edition bytes; and from these the
-- places of the blocks: the names from block 1 on, then the nodes
unfoldable pub header_at : List ℕ → Heading
header_at bs =
    let nodes = field 2 bs 4 in
    let names = field 2 bs 6 in
    record {
      nodes = nodes;
      names = names;
      dialect = dialect_in (field 2 bs 2);
      edition = edition_in (field 2 bs 2);
      first = 1 + blocks_for names;
      taken = block_bytes * (1 + blocks_for names + blocks_for (record_bytes * nodes));
    }

-- the number of used bytes that block 0 must have: the two counts, the dialect and the edition
abbrev pub used_of : Heading → ℕ
used_of h = 4 + h.dialect + h.edition

-- the edition that these bytes state
abbrev pub stated_in : List ℕ → Option ℕ
stated_in [] = None
stated_in (n ∷ ns) = Some n

-- the content of the file: the dialect follows the counts, and the edition follows nine dialect bytes
unfoldable pub content_at : List ℕ → Content
content_at bs =
    let h = header_at bs in
    record {
      table = content_of (record_bytes * h.nodes) (drop (block_bytes * h.first) bs);
      names = content_of h.names (drop block_bytes bs);
      dialect = take h.dialect (drop 8 bs);
      edition = stated_in (take h.edition (drop 17 bs));
    }

-- 1 to 2,100 nodes and at most 8,064 name bytes
unfoldable pub counts_fit : ℕ → ℕ → Bool
counts_fit nodes names = leb 1 nodes && (leb nodes most_nodes && leb names most_names)

-- the file at the front: block 0, then 74 for its counts, then the blocks of the names, then those of the nodes
unfoldable pub blocks_check : Heading → List ℕ → Answer
blocks_check h bs =
    and_then (judge 0 (used_of h) bs) (λ _.
    and_then (demand (counts_fit h.nodes h.names) block_counts) (λ _.
    and_then (judge_run 1 h.names (drop block_bytes bs)) (λ _.
    judge_run h.first (record_bytes * h.nodes) (drop (block_bytes * h.first) bs))))

abbrev pub front_check : List ℕ → Answer
front_check bs = blocks_check (header_at bs) bs

-- the edition that holds: edition 1 if none is stated
abbrev pub edition_read : Content → Option Edition
edition_read c = edition_held c.dialect (stated_bytes c.edition)

-- the number of the edition that holds
abbrev pub number_held : Option ℕ → ℕ
number_held (Some n) = n
number_held None = 1

-- 1 to 5, on the content of a file
abbrev pub sound_check : Content → Answer
sound_check c = rules_check c.table c.names c.dialect (edition_read c)

-- the whole file: the file at the front, then 75 for bytes left over, then 1 to 5
unfoldable pub read_check : List ℕ → Answer
read_check bs =
    and_then (front_check bs) (λ _.
    and_then (demand (leb (length bs) (header_at bs).taken) bytes_left_over) (λ _.
    sound_check (content_at bs)))
