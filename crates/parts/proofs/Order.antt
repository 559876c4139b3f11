-- Lists up to order, by counting: two lists are the same up to order if every test has as many hits in both. In a
-- joined list a test has the hits of both parts together (`many_append`), so the order in which lists are joined does
-- not matter. The induction is on the first list. Cite `tally_append`. Assumes nothing.
use mathlib.Core.Path.{◌≡◌}
use mathlib.Core.Bool.{Bool}
use mathlib.Core.List.{List, [], ◌∷◌, ◌++◌}
use Prim.Native.Nat.{ℕ, ◌+◌}
use native.Mathlib.Omega.{arith}
use Rattle.fields.specs.Choice.{if'}
use Rattle.errors.specs.declared.Finding.{Finding}
use Rattle.parts.specs.Parts.{read, how_many}
use Rattle.parts.proofs.Read.{read_append}

-- LAW: two joined lists
pub many_append : (test : List ℕ → Bool) (xs ys : List (List ℕ))
    → how_many test (xs ++ ys) ≡ how_many test xs + how_many test ys
unfolding how_many
many_append test [] ys = omega arith
many_append test (x ∷ xs) ys =
    let one : ℕ = if' (test x) (λ _. 1) (λ _. 0) in
    let rest : how_many test (xs ++ ys) ≡ how_many test xs + how_many test ys = many_append test xs ys in
    omega (arith, rest)

-- the number of errors whose words pass a test
abbrev pub tally : (List ℕ → Bool) → List Finding → ℕ
tally test es = how_many test (read es)

pub tally_append : (test : List ℕ → Bool) (es fs : List Finding) → tally test (es ++ fs) ≡ tally test es + tally test fs
tally_append test es fs = rw (read_append es fs) (many_append test (read es) (read fs))
