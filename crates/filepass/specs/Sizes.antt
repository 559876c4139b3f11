-- The number of bytes of a file that are read, and the number of words for its errors. These are definitions.
use Rattle.std.specs.Prelude.{ℕ, ◌+◌, ◌*◌}
use Rattle.table.specs.Check.{most_nodes}
use Rattle.blocks.specs.Block.{block_bytes}
use Rattle.tablefile.specs.File.{most_blocks}
use Rattle.errors.specs.Errors.{width}
use Rattle.errors.specs.declared.Listing.TheVariants.{Module}

-- the bytes of the largest file, and one byte more that shows that a file is longer
abbrev pub enough_bytes : ℕ
enough_bytes = block_bytes * most_blocks + 1

-- the words of the largest number of errors: two for each of 2,100 nodes
abbrev pub enough_words : ℕ
enough_words = width Module * (2 * most_nodes)

-- the nodes and the name bytes of a file that is read into small arrays
abbrev pub few_nodes : ℕ
few_nodes = 252

abbrev pub few_names : ℕ
few_names = 1008
