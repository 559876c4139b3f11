-- The number of the source file that a record has, W-208: along the index, which is how the check finds the first
-- record with a wrong one, and down the tree, as people say it. proofs/Files.antt shows that both are the same. These
-- are definitions.
use Rattle.std.specs.Prelude.{Bool, true, ◌&&◌, List, ℕ, zero, suc, ◌+◌, ◌*◌, drop, leb, eqb}
use Rattle.fields.specs.Choice.{if'}
use Rattle.forest.specs.Forest.{record_bytes, Node, node_of, Tree, node, Forest, none, ◌then◌}
use Rattle.soundness.specs.KindNumbers.{kind_statements}

-- the numbers that a record may have
pub record Range : Type 0 where
  pub least : ℕ
  pub most : ℕ

abbrev pub range : ℕ → ℕ → Range
range a b = record { least = a; most = b }

-- a top-level statement has one of these
abbrev pub last_file : ℕ
last_file = 999

abbrev pub file_numbers : Range
file_numbers = range 1 last_file

-- any number that two bytes hold
abbrev pub any_file : Range
any_file = range 0 65535

unfoldable pub file_sound : Range → ℕ → Bool
file_sound x n = leb x.least n && leb n x.most

-- record i of a table
abbrev pub record_at : List ℕ → ℕ → Node
record_at t i = node_of i (drop (record_bytes * i) t)

-- the root is a Statements, whose children are the top-level statements; any other root is one itself
abbrev pub root_statements : List ℕ → Bool
root_statements t = eqb (node_of 0 t).kind kind_statements

-- whether what is at record k has ended before record j. A top-level statement ends where its size says. The root: a
-- Statements is left at once, any other never
unfoldable pub ends_by : List ℕ → ℕ → ℕ → Bool
ends_by t zero j = root_statements t
ends_by t (suc k) j = leb (suc k + (record_at t (suc k)).size) j

-- the top-level statement that record i is in: the one that the record before it is in, unless that has ended
unfoldable pub top_of : List ℕ → ℕ → ℕ
top_of t zero = 0
top_of t (suc i) = if' (ends_by t (top_of t i) (suc i)) (λ _. suc i) (λ _. top_of t i)

-- the numbers that record i may have: a root Statements 0, a top-level statement 1 to 999, and any other record the
-- number of its top-level statement
unfoldable pub files_of : List ℕ → ℕ → Range
files_of t i =
    if' (eqb i 0 && root_statements t) (λ _. range 0 0) (λ _.
    if' (eqb (top_of t i) i) (λ _. file_numbers) (λ _.
    range (record_at t (top_of t i)).file (record_at t (top_of t i)).file))

-- down the tree: every node has the number n
unfoldable mutual
  pub files_in : ℕ → Forest → Bool
  files_in n none = true
  files_in n (t then ts) = tree_in n t && files_in n ts

  pub tree_in : ℕ → Tree → Bool
  tree_in n (node r ks) = eqb r.file n && files_in n ks

-- the nodes side by side are top-level statements: each has a number of its own, which all under it have
unfoldable pub files_top : Forest → Bool
files_top none = true
files_top (node r ks then ts) = (file_sound file_numbers r.file && files_in r.file ks) && files_top ts

-- a table: a root Statements has 0 and its children are top-level statements, any other root is one itself
unfoldable pub files_sound : Forest → Bool
files_sound none = true
files_sound (node r ks then ts) =
    if' (eqb r.kind kind_statements) (λ _. eqb r.file 0 && files_top ks) (λ _. files_top (node r ks then ts))
