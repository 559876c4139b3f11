-- Two answers of `call` or `judge` that meet the promise are equal. The promise fixes what the answer means, and no two
-- answers mean the same (`called_injective`): the counts are the first two values, and a place has one value or two, so
-- the star and the `**` are read off one after the other (`place_one`). Assumes nothing.
use Rattle.std.specs.Prelude.{Err, None, Ok, Option, Result, Some, ℕ}
use Rattle.table.specs.declared.Refusal.{Refusal}
use mathlib.Core.Path.{◌≡◌, refl, ap}
use mathlib.Core.List.{List, [], ◌++◌}
use Prim.Native.Nat.{ℕ}
use Rattle.fields.proofs.Basics.{never}
use Rattle.fields.proofs.Coincide.{coincide_by}
use Rattle.forest.specs.Forest.{tree_of}
use Rattle.table.specs.Check.{headed_of}
use Rattle.table.proofs.Answers.{refusal_injective, never_accepted}
use Rattle.arguments.specs.Job.{place_values, call_values, call_answer, called, call_of}
use Rattle.arguments.specs.declared.CallArgs.{CallArgs}

-- two places side by side are determined by their values
place_one : (p q : Option ℕ) (l m : List ℕ) → place_values p ++ l ≡ place_values q ++ m → (p ≡ q) × (l ≡ m)
place_one (Some i) (Some j) l m e = let at : i ≡ j = cc in let rest : l ≡ m = cc in (ap Some at, rest)
place_one (Some i) None l m e = never (cc)
place_one None (Some j) l m e = never (cc)
place_one None None l m e = let rest : l ≡ m = cc in (refl, rest)

pub args_injective : (a b : CallArgs) → call_values a ≡ call_values b → a ≡ b
args_injective a b e =
    let pos : a.num_pos ≡ b.num_pos = cc in
    let named : a.num_named ≡ b.num_named = cc in
    let places : place_values a.star ++ place_values a.star_star
    ≡ place_values b.star ++ place_values b.star_star = cc in
    let stars = place_one a.star b.star _ _ places in
    let kwargs = place_one a.star_star b.star_star [] [] (ap (λ (l : List ℕ). l ++ []) stars.1) in
    λ i. record { num_pos = pos i; num_named = named i; star = stars.0 i; star_star = kwargs.0 i }

pub called_injective : (r s : Result CallArgs Refusal) → called r ≡ called s → r ≡ s
called_injective (Ok a) (Ok b) e = let vs : call_values a ≡ call_values b = cc in
    ap Ok (args_injective a b vs)
called_injective (Ok a) (Err s) e = never (cc)
called_injective (Err r) (Ok b) e = never_accepted r e
called_injective (Err r) (Err s) e = ap Err (refusal_injective r s e)

-- of `call`
pub call_one : (table names : List ℕ) (node : ℕ) {r s : Result CallArgs Refusal} → called r ≡ call_of table names node
    → called s ≡ call_of table names node → r ≡ s
call_one table names node = coincide_by called called_injective

-- of `judge`
pub judge_one : (names t : List ℕ) (node : ℕ) {r s : Result CallArgs Refusal}
    → called r ≡ call_answer names (tree_of node (headed_of node t))
    → called s ≡ call_answer names (tree_of node (headed_of node t)) → r ≡ s
judge_one names t node = coincide_by called called_injective
