-- THE TABLE OF PROVED EXAMPLES
--
-- The table of the crate `examples`: each row is a list, a call or a type, and the answer. Each statement is proved by
-- citing the theorem, which computes all rows. Assumes nothing.
use mathlib.Core.Path.{◌≡◌}
use mathlib.Core.List.{map}
use lib.ListN.{length}
use Rattle.forest.specs.Forest.{Node}
use Rattle.examples.specs.Table.{Row, answer, table, second_edition}
use Rattle.examples.proofs.Examples as theorem

-- the table of proved examples
-- In words: the definitions give for each row the answer that the row shows, whatever the record of the def with the
-- parameters.
pub examples : (def : Node) → map (λ (r : Row). answer def r.asked) table ≡ map (λ (r : Row). r.shown) table
examples = theorem.examples

-- "14 rows"
-- In words: the table has fourteen rows.
pub how_many_lem : length table ≡ 14
how_many_lem = theorem.how_many_lem

-- W-212: "Edition 2 reads a path that ends in `type` as a Path": `x.type`, `x.type[int, str]`, `x.type[int]`, `1.type`
-- In words: in the second edition the definitions accept the first two, and refuse the others with 40 and 42, as in the
-- first.
pub second_edition_lem : (def : Node)
    → map (λ (r : Row). answer def r.asked) second_edition ≡ map (λ (r : Row). r.shown) second_edition
second_edition_lem = theorem.second_edition_lem
