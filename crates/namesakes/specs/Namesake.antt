-- Namesakes: an argument whose expression has the name of an ordinary parameter, and that reaches another parameter.
-- These are definitions.
use Rattle.std.specs.Prelude.{Bool, ◌||◌, ◌&&◌, List, [], ◌∷◌, ◌++◌, ℕ, ◌+◌, length, get_or, eqb, None, Option, Some}
use Rattle.fields.specs.Choice.{if'}
use Rattle.forest.specs.Forest.{Tree, node, Forest, none, ◌then◌}
use Rattle.forest.specs.Names.{name_of, same}
use Rattle.soundness.specs.KindNumbers.{kind_dot, kind_identifier}
use Rattle.deflist.specs.Written.{Name}
use Rattle.deflist.specs.Unpack.{mode_pos_only, mode_pos_or_name, mode_name_only}
use Rattle.arguments.specs.Written.{Argument, node_in, argument_of}
use Rattle.bind.specs.FlatList.{FlatParam}

-- the name of an expression, if it has one
pub data Label : Type 0 where
  nameless : Label
  label : Name → Label

-- an Identifier has its name, a Dot that of its field; other expressions have none
abbrev pub has_name : ℕ → Bool
has_name kind = eqb kind kind_identifier || eqb kind kind_dot

-- the name of the expression under an argument, which is its first child
unfoldable pub label_of : List ℕ → Forest → Label
label_of names none = nameless
label_of names (node r ks then ts) = if' (has_name r.kind) (λ _. label (name_of names r)) (λ _. nameless)

-- an argument, and the name of its expression
pub record Labelled : Type 0 where
  pub argument : Argument
  pub name : Label

unfoldable pub labelled_in : List ℕ → Forest → List Labelled
labelled_in names none = []
labelled_in names (node r ks then ts) =
    record { argument = argument_of names r; name = label_of names ks } ∷ labelled_in names ts

-- those of a call: what follows its callee
unfoldable pub labelled_of : List ℕ → Tree → List Labelled
labelled_of names (node r none) = []
labelled_of names (node r (c then ks)) = labelled_in names ks

-- an ordinary parameter: neither `*args` nor `**kwargs`
abbrev pub ordinary : ℕ → Bool
ordinary mode = eqb mode mode_pos_only || (eqb mode mode_pos_or_name || eqb mode mode_name_only)

-- the flat index of the ordinary parameter of this name, where the first parameter has the index i
unfoldable pub ordinary_from : ℕ → Name → List FlatParam → Option ℕ
ordinary_from i x [] = None
ordinary_from i x (p ∷ ps) =
    if' (ordinary p.mode && same p.name x) (λ _. Some i) (λ _. ordinary_from (i + 1) x ps)

unfoldable pub namesake_of : List FlatParam → Label → Option ℕ
namesake_of fs nameless = None
namesake_of fs (label x) = ordinary_from 0 x fs

-- what is reported: the argument's node, the flat index of the parameter that it reaches, the flat index of the
-- parameter that has its name, and the node of the argument that this parameter takes, or 0
pub record Report : Type 0 where
  pub argument : ℕ
  pub reached : ℕ
  pub namesake : ℕ
  pub taken : ℕ

-- the report of an argument at a node, by the parameter that it reaches and by its namesake; ws are the words of the
-- binding
unfoldable pub report_of : List ℕ → ℕ → ℕ → Option ℕ → List Report
report_of ws at p None = []
report_of ws at p (Some q) =
    if' (eqb p q) (λ _. []) (λ _. record { argument = at; reached = p; namesake = q; taken = get_or ws q 0 } ∷ [])

-- the reports of arguments, in order, where the word of the first one is at `place`
unfoldable pub reports_from : List FlatParam → List ℕ → ℕ → List Labelled → List Report
reports_from fs ws place [] = []
reports_from fs ws place (a ∷ qs) =
    report_of ws (node_in a.argument).at (get_or ws place 0) (namesake_of fs a.name)
    ++ reports_from fs ws (place + 1) qs

-- those of a call: the words of the arguments come after those of the parameters
abbrev pub reports : List FlatParam → List ℕ → List Labelled → List Report
reports fs ws qs = reports_from fs ws (length fs) qs

-- four words for each
unfoldable pub rows : List Report → List ℕ
rows [] = []
rows (r ∷ rs) = r.argument ∷ r.reached ∷ r.namesake ∷ r.taken ∷ rows rs
