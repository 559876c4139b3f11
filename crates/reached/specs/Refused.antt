-- Where 80, 81 and 84 are reported, and which refusals also carry an earlier node. These are definitions.
use Rattle.std.specs.Prelude.{◌≡◌, ◌⊎◌, List, ◌∷◌, false, ℕ, ◌<◌, ◌≤◌, length, get_or}
use Rattle.forest.specs.Forest.{Node}
use Rattle.table.specs.Numbers.{duplicated_parameter, repeated_named, positional_after_non_positional, empty_parameter}
use Rattle.table.specs.Answer.{Answer, accepted, refused, span_values, span_at}
use Rattle.table.specs.Carrying.{file_at}
use Rattle.deflist.specs.Unpack.{mode_args}
use Rattle.arguments.specs.Written.{Argument, positional, named, args, kwargs}
use Rattle.bind.specs.FlatList.{FlatParam}
use Rattle.reached.specs.Said.{IsAt, CanBeNamed, ByPlace}
use Rattle.reached.specs.Rules.{Placed}

-- what a refusal at a record carries
abbrev pub spanned : Node → List ℕ
spanned r = r.at ∷ span_values (span_at r)

-- 80: the first star or `**` of the call
pub record FirstStar (qs : List Argument) (vs : List ℕ) : Type 0 where
  pub number : ℕ
  pub node : Node
  pub there : IsAt qs number (args node) ⊎ IsAt qs number (kwargs node)
  pub carries : vs ≡ spanned node
  pub no_args : (k : ℕ) (r : Node) → k < number → IsAt qs k (args r) → ⊥
  pub no_kwargs : (k : ℕ) (r : Node) → k < number → IsAt qs k (kwargs r) → ⊥

-- 81: the first positional argument for which there is no parameter at its place, and no `*args`
pub record TooMany (fs : List FlatParam) (qs : List Argument) (vs : List ℕ) : Type 0 where
  pub number : ℕ
  pub node : Node
  pub there : IsAt qs number (positional node)
  pub carries : vs ≡ spanned node
  pub no_args : (i : ℕ) (p : FlatParam) → IsAt fs i p → p.mode ≡ mode_args → ⊥
  pub no_place : (p : FlatParam) → IsAt fs number p → ByPlace p → ⊥
  pub first : (k : ℕ) → k < number → Placed fs k

-- 84: the first parameter without default for which there is no argument, by place or by name
pub record LeftEmpty (fs : List FlatParam) (qs : List Argument) (vs : List ℕ) : Type 0 where
  pub index : ℕ
  pub param : FlatParam
  pub there : IsAt fs index param
  pub carries : vs ≡ spanned param.node
  pub without : param.default ≡ false
  pub no_place : (r : Node) → IsAt qs index (positional r) → ByPlace param → ⊥
  pub no_name : (k : ℕ) (r : Node) → IsAt qs k (named r param.name) → CanBeNamed param → ⊥
  pub first : (i : ℕ) (p : FlatParam) → i < index → IsAt fs i p → p.default ≡ false
      → ((r : Node) × (IsAt qs i (positional r) × ByPlace p))
      ⊎ ((k : ℕ) × ((r : Node) × (IsAt qs k (named r p.name) × CanBeNamed p)))

-- of all refusals only 11 and 22 carry an earlier node, as a fifth number
abbrev pub OnlyTwoCarry : Answer → Type 0
OnlyTwoCarry (accepted vs) = Unit {0}
OnlyTwoCarry (refused n vs) = ((n ≡ duplicated_parameter) ⊎ (n ≡ repeated_named) → length vs ≡ 5)
    × ((n ≡ duplicated_parameter → ⊥) → (n ≡ repeated_named → ⊥) → length vs ≤ 4)

-- the source file number that a refusal from 10 on carries: that of the node that it names, which is the def's for 10
-- to 19 and 84, and the call's for 20 to 24 and 80 to 83
pub record BoundFile (t : List ℕ) (call def n : ℕ) (vs : List ℕ) : Type 0 where
  pub there : 4 ≤ length vs
  pub named : get_or vs 3 0 ≡ file_at t (get_or vs 0 0)
  pub of_def : (n < positional_after_non_positional) ⊎ (n ≡ empty_parameter) → get_or vs 3 0 ≡ file_at t def
  pub of_call : positional_after_non_positional ≤ n → (n ≡ empty_parameter → ⊥) → get_or vs 3 0 ≡ file_at t call
