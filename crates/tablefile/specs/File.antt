-- The table file (docs/FORMAT.md, a table file): the one file of a table, names, a dialect or none, and an edition or
-- none. These are definitions.
use Rattle.std.specs.Prelude.{List, ◌++◌, ℕ, ◌+◌, ◌/◌, length, Option}
use Rattle.dialect.specs.Editions.{stated_bytes}
use Rattle.forest.specs.Forest.{record_bytes}
use Rattle.fields.specs.Field.{bytes_of}
use Rattle.blocks.specs.Block.{block_of}
use Rattle.blocks.specs.Run.{blocks_for, run_of}

-- the content of a file: a table, names, none or nine dialect bytes, and the number of an edition or nothing
pub record Content : Type 0 where
  pub table : List ℕ
  pub names : List ℕ
  pub dialect : List ℕ
  pub edition : Option ℕ

-- the content of block 0: the numbers of nodes and of name bytes (2 bytes each), the dialect and the edition; so 4,
-- 13 or 14 bytes are used
unfoldable pub header_of : Content → List ℕ
header_of c =
    bytes_of 2 (length c.table / record_bytes)
    ++ (bytes_of 2 (length c.names) ++ (c.dialect ++ stated_bytes c.edition))

-- the file: block 0, then the names, 504 bytes a block, and the nodes, 21 a block; the block numbers increase by one
unfoldable pub file_of : Content → List ℕ
file_of c = block_of 0 (header_of c) ++ (run_of 1 c.names ++ run_of (1 + blocks_for (length c.names)) c.table)

-- the largest number of blocks in a file: block 0, 16 with 8,064 name bytes, 100 with 2,100 nodes
abbrev pub most_blocks : ℕ
most_blocks = 117
