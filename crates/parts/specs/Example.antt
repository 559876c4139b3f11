-- A script of two statements, `lambda a, a: 1` and `break`, as one tree and as two. The errors of the whole are 55,
-- then 11; those of the parts are 11, then 55, since the module pass reports statements before expressions. These are
-- definitions.
use Rattle.std.specs.Prelude.{List, [], ◌∷◌, ℕ}
use Rattle.forest.specs.Forest.{Node, Tree, node, Forest, none, ◌then◌}
use Rattle.soundness.specs.KindNumbers.{kind_statements, kind_other_simple, kind_lambda, kind_normal, kind_int, kind_break}
use Rattle.table.specs.Numbers.{duplicated_parameter, break_misplaced}
use Rattle.parts.specs.Parts.{Part}

-- a record in source file 1: its index, its kind, the length and start of its name, its begin and end, its subtree size
abbrev pub record_at : ℕ → ℕ → ℕ → ℕ → ℕ → ℕ → ℕ → Node
record_at i kind len start begin stop size = record {
  at = i;
  kind = kind;
  detail = 0;
  name_len = len;
  name_start = start;
  begin = begin;
  stop = stop;
  size = size;
  file = 1;
  source = 0;
}

-- a root Statements from begin to end
abbrev pub root_at : ℕ → ℕ → ℕ → Node
root_at begin stop size = record_at 0 kind_statements 0 0 begin stop size

-- the parameter `a` at an index, where its name begins at a place among the names
abbrev pub parameter_at : ℕ → ℕ → ℕ → ℕ → Tree
parameter_at i start begin stop = node (record_at i kind_normal 1 start begin stop 1) none

-- the two statements
abbrev pub lambda_at : ℕ → Forest
lambda_at start =
    node (record_at 1 kind_other_simple 0 0 0 14 5) (
    node (record_at 2 kind_lambda 0 0 0 14 4) (
    parameter_at 3 start 7 8 then parameter_at 4 start 10 11 then
    node (record_at 5 kind_int 0 0 13 14 1) none then none) then none) then none

abbrev pub break_at : ℕ → Forest
break_at i = node (record_at i kind_break 0 0 15 20 1) none then none

-- the names of the whole, `xa`, and the two parts: the first has the name `a`, the second none
abbrev pub whole_names : List ℕ
whole_names = 120 ∷ 97 ∷ []

abbrev pub first : Part
first = record { cut = lambda_at 1; root = root_at 0 14 6; names = 97 ∷ []; trees = lambda_at 0 }

abbrev pub second : Part
second = record { cut = break_at 6; root = root_at 15 20 2; names = []; trees = break_at 1 }

abbrev pub in_two : List Part
in_two = first ∷ second ∷ []

-- the words that are read of the errors: number, source file, begin and end
abbrev pub twice : List ℕ
twice = duplicated_parameter ∷ 1 ∷ 10 ∷ 11 ∷ []

abbrev pub misplaced : List ℕ
misplaced = break_misplaced ∷ 1 ∷ 15 ∷ 20 ∷ []
