-- The node table as a forest: the meaning of a stretch of 24-byte records in preorder, for any bytes. These are
-- definitions.
use Rattle.std.specs.Prelude.{List, [], ◌∷◌, ◌++◌, ℕ, zero, suc, ◌+◌, ◌-◌, ◌*◌, ◌/◌, ◌^◌, ◌<◌, min, max, length, get_or, take, drop, leb}
use Rattle.fields.specs.Choice.{if'}
use Rattle.fields.specs.Field.{field}

-- the size of a record in bytes
abbrev pub record_bytes : ℕ
record_bytes = 24

-- a record, with its index in the table
pub record Node : Type 0 where
  pub at : ℕ
  pub kind : ℕ
  pub detail : ℕ
  pub name_len : ℕ
  pub name_start : ℕ
  pub begin : ℕ
  pub stop : ℕ
  pub size : ℕ
  pub file : ℕ
  pub source : ℕ

-- the subtree size of the first record of a stretch, the record itself included
unfoldable pub size_of : List ℕ → ℕ
size_of bs = field 2 bs 16

-- the first record of a stretch, field by field as docs/FORMAT.md ("A record") lays it out
abbrev pub node_of : ℕ → List ℕ → Node
node_of i bs = record {
  at = i;
  kind = get_or bs 0 0;
  detail = get_or bs 1 0;
  name_len = field 2 bs 2;
  name_start = field 4 bs 4;
  begin = field 4 bs 8;
  stop = field 4 bs 12;
  size = size_of bs;
  file = field 2 bs 18;
  source = field 4 bs 20;
}

-- the size in bytes of the first node's subtree: at least one record, and at most the whole stretch
abbrev pub span_of : List ℕ → ℕ
span_of bs = min (record_bytes * max 1 (size_of bs)) (length bs)

-- the records under the first node, and those after its subtree
unfoldable pub kids_of : List ℕ → List ℕ
kids_of bs = take (span_of bs - record_bytes) (drop record_bytes bs)

unfoldable pub rest_of : List ℕ → List ℕ
rest_of bs = drop (span_of bs) bs

infixr 20 ◌then◌
-- a node with its children, and nodes side by side
mutual
  pub data Tree : Type 0 where
    node : Node → Forest → Tree

  pub data Forest : Type 0 where
    none : Forest
    ◌then◌ : Tree → Forest → Forest

-- the forest of a stretch whose first record has the index i, down to k levels or k nodes side by side
unfoldable pub forest_in : ℕ → ℕ → List ℕ → Forest
forest_in zero i bs = none
forest_in (suc k) i bs =
    if' (leb record_bytes (length bs)) (λ _.
    node (node_of i bs) (forest_in k (i + 1) (kids_of bs)) then forest_in k (i + span_of bs / record_bytes)
    (rest_of bs)) (λ _.
    none)

-- the whole forest: a stretch has fewer records than bytes, so its length is fuel enough
unfoldable pub forest : ℕ → List ℕ → Forest
forest i bs = forest_in (length bs) i bs

-- the first tree of a stretch
abbrev pub tree_of : ℕ → List ℕ → Tree
tree_of i bs = node (node_of i bs) (forest (i + 1) (kids_of bs))

-- the indices of a stretch whose first record has the index i fit into a usize
abbrev pub Countable : ℕ → List ℕ → Type 0
Countable i bs = i + length bs / record_bytes < 2 ^ 64

-- the number of nodes of a forest
unfoldable mutual
  pub count : Forest → ℕ
  count none = 0
  count (t then ts) = count_tree t + count ts

  pub count_tree : Tree → ℕ
  count_tree (node r ks) = 1 + count ks

-- the root nodes, side by side
unfoldable pub roots : Forest → List Node
roots none = []
roots (node r ks then ts) = r ∷ roots ts

-- the first k trees
unfoldable pub firsts : ℕ → Forest → Forest
firsts zero f = none
firsts (suc k) none = none
firsts (suc k) (t then ts) = t then firsts k ts

-- all nodes, a node before its children
unfoldable mutual
  pub nodes : Forest → List Node
  nodes none = []
  nodes (t then ts) = nodes_of t ++ nodes ts

  pub nodes_of : Tree → List Node
  nodes_of (node r ks) = r ∷ nodes ks
