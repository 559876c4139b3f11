-- The cut: the root and its first k children; and the largest number of children that can be kept. These are
-- definitions.
use Rattle.std.specs.Prelude.{Bool, List, [], ℕ, zero, suc, ◌+◌, ◌*◌, ◌/◌, ◌%◌, length, take, set, leb, eqb}
use Rattle.fields.specs.Choice.{if'}
use Rattle.forest.specs.Forest.{record_bytes, node_of, kids_of, Forest, forest, firsts, count, roots}
use Rattle.soundness.specs.KindNumbers.{kind_statements}
use Rattle.table.specs.Answer.{passes}
use Rattle.table.specs.Check.{check_of}

-- the root's children: they end at its written size, or where the records end
abbrev pub children : List ℕ → Forest
children t = forest 1 (kids_of t)

-- a table with subtree size m in its root: only the size changes
unfoldable pub resized : ℕ → List ℕ → List ℕ
resized m t = set (set t 16 (m % 256)) 17 (m / 256)

-- the cut table: the root and its first k children
unfoldable pub cut_to : ℕ → List ℕ → List ℕ
cut_to k t =
    let m = 1 + count (firsts k (children t)) in
    resized m (take (record_bytes * m) t)

-- the largest number up to n that passes a test, or 0
unfoldable pub largest : (ℕ → Bool) → ℕ → ℕ
largest p zero = 0
largest p (suc n) = if' (p (suc n)) (λ _. suc n) (λ _. largest p n)

-- the largest number of leading children of a root Statements such that the cut table passes 1 to 4; 0 if none. A child
-- whose records are not all present is shorter than its size, so its cut is refused with 3
unfoldable pub children_kept : List ℕ → List ℕ → ℕ
children_kept t names =
    if' (eqb (node_of 0 t).kind kind_statements)
    (λ _. largest (λ k. passes (check_of (cut_to k t) names)) (length (roots (children t)))) (λ _. 0)

-- their cut, or nothing
unfoldable pub largest_cut : List ℕ → List ℕ → List ℕ
largest_cut t names = let k = children_kept t names in if' (leb 1 k) (λ _. cut_to k t) (λ _. [])
