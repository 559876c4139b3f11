-- The entries of a list, parameters or arguments side by side: which of them have a name, and the first with a name.
-- These are definitions.
use Rattle.std.specs.Prelude.{Bool, not, ◌&&◌, ◌||◌, List, [], ◌∷◌, ℕ, ◌+◌, eqb, None, Option, Some}
use Rattle.fields.specs.Choice.{if'}
use Rattle.forest.specs.Forest.{Node}
use Rattle.forest.specs.Names.{name_of, same}
use Rattle.soundness.specs.KindNumbers.{kind_no_args, kind_slash, kind_named}
use Rattle.table.specs.declared.Entries.{Entries}
use Rattle.table.specs.declared.Entries.TheVariants.{Parameters, Arguments}

-- whether an entry of a kind has a name: parameters other than `*` and `/`, and named arguments
unfoldable pub bears_name : Entries → ℕ → Bool
bears_name Parameters k = not (eqb k kind_no_args || eqb k kind_slash)
bears_name Arguments k = eqb k kind_named

-- whether an entry has this name, by its bytes
unfoldable pub has_name : Entries → List ℕ → List ℕ → Node → Bool
has_name e names x r = bears_name e r.kind && same (name_of names r) x

-- the first that has it, by its index
unfoldable pub first_named : Entries → List ℕ → List ℕ → List Node → Option ℕ
first_named e names x [] = None
first_named e names x (r ∷ rs) = if' (has_name e names x r) (λ _. Some r.at) (λ _. first_named e names x rs)

-- an index within a stretch as an index of the table, where the stretch begins at `first`
abbrev pub counted_from : ℕ → Option ℕ → Option ℕ
counted_from first (Some i) = Some (first + i)
counted_from first None = None
