-- What private functions of the crate add to the counters, and what they may assume. These are definitions that only
-- contracts of private functions use.
use Rattle.std.specs.Prelude.{◌≡◌, List, [], ◌∷◌, ◌++◌, ℕ, ◌+◌, ◌-◌, ◌≤◌, ◌<◌, replicate, Err, None, Ok, Option, Result, Some}
use Rattle.table.specs.declared.Refusal.{Refusal}
use Rattle.dialect.specs.declared.Edition.{Edition}
use Rattle.deflist.specs.declared.Flat.{Flat}
use Rattle.deflist.specs.declared.Fault.{Fault}
use Rattle.table.specs.Answer.{Answer, accepted, passes, is_refused}
use Rattle.table.specs.Check.{check_of}
use Rattle.dialect.specs.declared.Dialect.{Dialect}
use Rattle.validate.specs.Job.{pass_errors}
use Rattle.deflist.specs.Unpack.{mode_pos_only, mode_pos_or_name, mode_name_only, mode_args, mode_kwargs}
use Rattle.deflist.specs.declared.Counts.{Counts}
use Rattle.figures.specs.Counting.{one, nodes_of, total, list_at, mode_at, accepted_at, refused_at, numbers_of}
use Rattle.figures.specs.Counting.{error_counts}

-- one counter's figure: v at the place k
unfoldable pub only : ℕ → ℕ → List ℕ
only k v = replicate k 0 ++ v ∷ []

-- the sum of figures
unfoldable pub plus : List ℕ → List ℕ → List ℕ
plus [] ys = ys
plus (x ∷ xs) [] = x ∷ xs
plus (x ∷ xs) (y ∷ ys) = (x + y) ∷ plus xs ys

-- the number of `*args` or of `**kwargs`: 0 or 1
abbrev pub places : Option Flat → ℕ
places (Some i) = 1
places None = 0

-- the five ranges that unpack has counted follow one another
pub record Ranged (c : Counts) : Type 0 where
  pub before : c.num_positional_only.0 ≤ c.num_positional.0
  pub behind : c.num_positional.0 + places c.args + places c.kwargs ≤ c.flat.0

abbrev pub RangedIn : Result Counts Fault → Type 0
RangedIn (Ok c) = Ranged c
RangedIn (Err f) = Unit {0}

-- the lengths of the ranges, in the order of the modes
abbrev pub range_counts : Counts → List ℕ
range_counts c =
    c.num_positional_only.0 ∷ (c.num_positional.0 - c.num_positional_only.0)
    ∷ (c.flat.0 - (c.num_positional.0 + places c.args + places c.kwargs)) ∷ places c.args
    ∷ places c.kwargs ∷ []

-- the same, from unpack's answer for a list: a refused list has no modes
abbrev pub judged_counts : Result Counts Fault → List ℕ
judged_counts (Ok c) = range_counts c
judged_counts (Err f) = 0 ∷ 0 ∷ 0 ∷ 0 ∷ 0 ∷ []

-- what one list adds: the list, and its modes
abbrev pub list_figures : Result Counts Fault → List ℕ
list_figures j = 0 ∷ 0 ∷ 1 ∷ judged_counts j

-- what one call adds, from the answer of its job
abbrev pub call_figures : Answer → List ℕ
call_figures a = replicate 8 0 ++ one (passes a) ∷ one (is_refused a) ∷ []

-- what one node adds, and what the nodes 0 to n - 1 add together
abbrev pub modes_at : (ℕ → ℕ) → List ℕ → List ℕ
modes_at count rest = count mode_pos_only ∷ count mode_pos_or_name ∷ count mode_name_only ∷ count mode_args
    ∷ count mode_kwargs
    ∷ rest

unfoldable pub node_figures : List ℕ → List ℕ → ℕ → List ℕ
node_figures t names i =
    0 ∷ 0 ∷ list_at t i ∷ modes_at (λ k. mode_at k t names i) (accepted_at t names i ∷ refused_at t names i ∷ [])

unfoldable pub nodes_figures : List ℕ → List ℕ → ℕ → List ℕ
nodes_figures t names n =
    0 ∷ 0 ∷ total n (list_at t)
    ∷ modes_at (λ k. total n (mode_at k t names)) (total n (accepted_at t names) ∷ total n (refused_at t names) ∷ [])

-- what errors of these numbers add
unfoldable pub error_figures : List ℕ → List ℕ
error_figures ns = replicate 10 0 ++ error_counts ns

-- the number of files that are counted: 1 if 1 to 5 are passed
abbrev pub files_of : Result (Dialect × Edition) Refusal → ℕ
files_of (Ok p) = 1
files_of (Err r) = 0

-- the figures of a table in a dialect, without the file itself: nodes, what is counted node by node, errors
unfoldable pub figures_in : Dialect → List ℕ → List ℕ → List ℕ
figures_in d t names =
    plus (only 1 (nodes_of t)) (plus (nodes_figures t names (nodes_of t))
    (error_figures (numbers_of (pass_errors d names t))))

-- a node of a table that is sound
pub record NodeIn (t names : List ℕ) (i : ℕ) : Type 0 where
  pub sound : check_of t names ≡ accepted []
  pub within : i < nodes_of t
