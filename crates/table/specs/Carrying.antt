-- The source file number that a refusal carries, W-208. These are definitions.
use Rattle.std.specs.Prelude.{◌≡◌, List, ℕ, ◌*◌, ◌≤◌, length, get_or, drop}
use Rattle.forest.specs.Forest.{record_bytes, node_of}
use Rattle.table.specs.Numbers.{slash_first}
use Rattle.table.specs.Answer.{Answer, accepted, refused}

-- the number of record k of a table
abbrev pub file_at : List ℕ → ℕ → ℕ
file_at t k = (node_of k (drop (record_bytes * k) t)).file

-- a refusal carries the number of the node that it names, which is also the number of node i
pub record FileOf (t : List ℕ) (i : ℕ) (vs : List ℕ) : Type 0 where
  pub there : 4 ≤ length vs
  pub named : get_or vs 3 0 ≡ file_at t (get_or vs 0 0)
  pub same : get_or vs 3 0 ≡ file_at t i

-- the same for every refusal from 10 on
abbrev pub CarriesFile : List ℕ → ℕ → Answer → Type 0
CarriesFile t i (accepted vs) = Unit {0}
CarriesFile t i (refused n vs) = slash_first ≤ n → FileOf t i vs
