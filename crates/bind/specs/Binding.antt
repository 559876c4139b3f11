-- Which argument reaches which parameter (W-204; docs/RULES.md): 80, then the arguments in turn, 81, 82 and 83, then
-- 84. The words of a binding are one for each flat parameter, the node of the argument that it takes, and then one for
-- each argument, the flat index that it reached. All are 0 at first; an argument is never node 0. These are
-- definitions.
use Rattle.std.specs.Prelude.{Bool, true, false, not, ◌&&◌, ◌||◌, List, [], ◌∷◌, ℕ, ◌+◌, get_or, set, eqb, ltb, None, Option, Some}
use Rattle.fields.specs.Choice.{if'}
use Rattle.forest.specs.Forest.{Node}
use Rattle.forest.specs.Names.{same}
use Rattle.table.specs.Numbers.{star_argument, too_many_positional, unknown_named, already_filled, empty_parameter}
use Rattle.table.specs.Answer.{Answer, accepted, refused, and_then, refused_at}
use Rattle.deflist.specs.Written.{Name}
use Rattle.deflist.specs.Unpack.{mode_pos_or_name, mode_name_only}
use Rattle.parameters.specs.declared.DefParamIndices.{DefParamIndices}
use Rattle.parameters.specs.declared.Counted.{Counted}
use Rattle.arguments.specs.Written.{Argument, positional, named, args, kwargs, node_in, kind_in}
use Rattle.arguments.specs.declared.Kind.{Kind}
use Rattle.arguments.specs.declared.Kind.TheVariants.{Positional, Named, Args, KwArgs}
use Rattle.bind.specs.FlatList.{FlatParam}
use Rattle.bind.specs.declared.Reach.{Reach}
use Rattle.bind.specs.declared.Reach.TheVariants.{Fills, Joins, Nowhere}

-- whether a parameter can be called by its name: PosOrName and NameOnly can; PosOnly, `*args` and `**kwargs` cannot
abbrev pub called_by_name : ℕ → Bool
called_by_name mode = eqb mode mode_pos_or_name || eqb mode mode_name_only

-- the flat index of the parameter of this name, where the first one has the index i
unfoldable pub named_from : ℕ → Name → List FlatParam → Option ℕ
named_from i x [] = None
named_from i x (p ∷ ps) =
    if' (called_by_name p.mode && same p.name x) (λ _. Some i) (λ _. named_from (i + 1) x ps)

-- `*args` or `**kwargs`, if there is one, collects the rest
abbrev pub collected : Option ℕ → Reach
collected (Some i) = Joins i
collected None = Nowhere

-- positional argument k fills flat parameter k, if that is positional; else it goes to `*args`
abbrev pub by_place : DefParamIndices → ℕ → Reach
by_place d k = if' (ltb k d.num_positional) (λ _. Fills k) (λ _. collected d.args)

-- a named one fills the parameter of its name; else it goes to `**kwargs`
abbrev pub by_name : Option ℕ → Option ℕ → Reach
by_name (Some i) rest = Fills i
by_name None rest = collected rest

-- what argument k reaches: in an accepted call the positional ones come first (20), so k counts positional arguments
unfoldable pub reaches : DefParamIndices → List FlatParam → ℕ → Argument → Reach
reaches d fs k (positional r) = by_place d k
reaches d fs k (named r n) = by_name (named_from 0 n fs) d.kwargs
reaches d fs k (args r) = Nowhere
reaches d fs k (kwargs r) = Nowhere

-- the number of an argument that reaches no parameter
unfoldable pub unreached : Kind → ℕ
unreached Positional = too_many_positional
unreached Named = unknown_named
unreached Args = star_argument
unreached KwArgs = star_argument

-- an argument in its turn, whose own word is at `place`: 83 if its parameter is filled
unfoldable pub turn : ℕ → Reach → Kind → Node → List ℕ → Answer
turn place (Fills i) k r ws =
    if' (ltb 0 (get_or ws i 0)) (λ _. refused_at already_filled r) (λ _. accepted (set (set ws i r.at) place i))
turn place (Joins i) k r ws = accepted (set ws place i)
turn place Nowhere k r ws = refused_at (unreached k) r

-- with the words so far, unless there is a refusal
abbrev pub and_with : Answer → (List ℕ → Answer) → Answer
and_with (accepted ws) next = next ws
and_with (refused n vs) next = refused n vs

-- the arguments in turn, the first of which is argument k; `flat` is the flat count
unfoldable pub along : ℕ → DefParamIndices → List FlatParam → ℕ → List ℕ → List Argument → Answer
along flat d fs k ws [] = accepted ws
along flat d fs k ws (a ∷ qs) =
    and_with (turn (flat + k) (reaches d fs k a) (kind_in a) (node_in a) ws) (λ vs. along flat d fs (k + 1) vs qs)

-- 80: the first star or `**`
abbrev pub is_star : Kind → Bool
is_star Positional = false
is_star Named = false
is_star Args = true
is_star KwArgs = true

unfoldable pub star_check : List Argument → Answer
star_check [] = accepted []
star_check (a ∷ qs) = if' (is_star (kind_in a)) (λ _. refused_at star_argument (node_in a)) (λ _. star_check qs)

-- 84: the first parameter that must not stay empty and is empty, where the first one has the index i
unfoldable pub empty_check : ℕ → List FlatParam → List ℕ → Answer
empty_check i [] ws = accepted []
empty_check i (p ∷ ps) ws =
    if' (not p.default && eqb (get_or ws i 0) 0) (λ _. refused_at empty_parameter p.node) (λ _.
    empty_check (i + 1) ps ws)

-- 80, then 81 to 83, then 84; or all words
unfoldable pub binding : Counted → List FlatParam → List ℕ → List Argument → Answer
binding c fs ws qs =
    and_then (star_check qs) (λ _.
    and_with (along c.flat c.indices fs 0 ws qs) (λ vs.
    and_then (empty_check 0 fs vs) (λ _. accepted vs)))
