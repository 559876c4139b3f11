-- Which refusals carry an earlier node: none of those with which a job on a node begins. A step that comes before the
-- number m (`Before`) refuses with a smaller number and at most four values, so with no earlier node. That holds of
-- steps in order if it holds of each (`before_then`), hence of 1 to 4, of 1 to 5, and of 1 to 4 and 6 (`check_before`,
-- `given_before`, `entry_before`). So where a job refuses with m, its own rule does (`from_next`), and only that rule
-- has to be looked at (`carries_then`). Assumes nothing.
use Rattle.std.specs.Prelude.{None, Option, Some, ℕ}
use Rattle.dialect.specs.declared.Dialect.{Dialect}
use mathlib.Core.Path.{◌≡◌}
use mathlib.Core.Bool.{Bool, true, false}
use mathlib.Core.List.{List, []}
use Prim.Native.Nat.{ℕ, ◌<◌, ◌≤◌}
use native.Mathlib.Omega.{arith}
use lib.ListN.{length}
use lib.Dec.{leb}
use Rattle.fields.specs.Choice.{if'}
use Rattle.forest.specs.Forest.{forest}
use Rattle.dialect.specs.Bytes.{from_bytes}
use Rattle.soundness.specs.Sound.{first_unsound}
use Rattle.table.specs.Numbers.{table_length, name_bytes, unsound_record, too_deep, wrong_node}
use Rattle.table.specs.Depth.{first_deep}
use Rattle.table.specs.Answer.{Answer, accepted, refused, and_then, OnlyCarries}
use Rattle.table.specs.Check.{length_sound, length_check, names_check, none_found, check_of, node_fits, node_check}
use Rattle.table.specs.Check.{entry_check, most_names, handing, given_of, in_given, given_check}
use Rattle.table.specs.declared.Wanted.{Wanted}

-- a step that comes before m: its numbers are smaller, and carry no earlier node
abbrev pub Before : ℕ → Answer → Type 0
Before m (accepted vs) = Unit {0}
Before m (refused n vs) = (n < m) × (length vs ≤ 4)

module _ (m : ℕ) where
  pub before_then : (x : Answer) (next : Unit {0} → Answer) → Before m x → Before m (next tt)
      → Before m (and_then x next)
  before_then (accepted vs) next b c = c
  before_then (refused n vs) next b c = b

  pub before_test : (b : Bool) (n : ℕ) → n < m → Before m (if' b (λ _. accepted []) (λ _. refused n []))
  before_test true n h = tt
  before_test false n h = (h, omega arith)

  before_found : (n : ℕ) (f : Option ℕ) → n < m → Before m (none_found n f)
  before_found n (Some i) h = (h, omega arith)
  before_found n None h = tt

  -- LAWS: what such a step carries, and that m comes from what follows it
  pub carries_then : (x : Answer) (next : Unit {0} → Answer) → Before m x → OnlyCarries m (next tt)
      → OnlyCarries m (and_then x next)
  carries_then (accepted vs) next b c = c
  carries_then (refused n vs) next b c = (λ e. absurd (omega (arith, b.0, e)), λ d. b.1)

  pub from_next : (x : Answer) (next : Unit {0} → Answer) {vs : List ℕ} → Before m x → and_then x next ≡ refused m vs
      → next tt ≡ refused m vs
  from_next (accepted us) next b e = e
  from_next (refused n us) next b e = let same : n ≡ m = cc in absurd (omega (arith, b.0, same))

-- LAWS: 1 to 4 come before m; so do 1 to 5, and 1 to 4 and 6
pub check_before : (m : ℕ) (t names : List ℕ) → 6 < m → Before m (check_of t names)
unfolding check_of
check_before m t names h =
    before_then m (length_check (length t)) _ (before_test m (length_sound (length t)) table_length (omega arith))
    (before_then m (names_check (length names)) _
    (before_test m (leb (length names) most_names) name_bytes (omega arith))
    (before_then m (none_found unsound_record (first_unsound t names)) _
    (before_found m unsound_record (first_unsound t names) (omega arith))
    (before_found m too_deep (first_deep 0 (forest 0 t)) (omega arith))))

pub given_before : (m : ℕ) (t names bytes : List ℕ) → 6 < m → Before m (given_check t names bytes)
unfolding given_of
given_before m t names bytes h = go (check_of t names) (from_bytes bytes) (check_before m t names h)
  where
    go : (a : Answer) (x : Option Dialect) → Before m a → Before m (in_given (handing a x) (λ _. accepted []))
    go (accepted vs) (Some d) b = tt
    go (accepted vs) None b = (omega arith, omega arith)
    go (refused n vs) x b = b

pub entry_before : (m : ℕ) (w : Wanted) (t names : List ℕ) (i : ℕ) → 6 < m → Before m (entry_check w t names i)
unfolding entry_check
entry_before m w t names i h = before_then m (check_of t names) (λ _. node_check t i w) (check_before m t names h)
    (before_test m (node_fits t i w) wrong_node (omega arith))
