-- The arguments of a stretch with their names, and the search for an ordinary parameter, for any bytes. Both follow the
-- stretch record by record: `labelled_on` and `labelled_end` say what an argument adds, `ordinary_one` what a parameter
-- does. The search needs no state of the list, because a Normal is ordinary in each state. `labelled_behind` and
-- `same-arguments` lead back to the arguments that `bind` reads. Assumes nothing.
use Rattle.std.specs.Prelude.{Some}
use mathlib.Core.Path.{◌≡◌, refl, ap}
use mathlib.Core.Bool.{true, false, ◌&&◌}
use mathlib.Core.List.{List, [], ◌∷◌, ◌++◌, map}
use Prim.Native.Nat.{ℕ, ◌+◌, ◌/◌, ◌<◌, ◌≤◌}
use native.Mathlib.Omega.{arith}
use lib.ListN.{length}
use borrow.Author.Tests.{le-leb, lt-leb}
use Rattle.fields.specs.Choice.{if'}
use Rattle.fields.proofs.Basics.{never}
use Rattle.forest.specs.Forest.{node_of, span_of, kids_of, rest_of, Tree, node, Forest, none, ◌then◌, forest, tree_of}
use Rattle.forest.specs.Names.{name_of, same}
use Rattle.forest.proofs.Stretch.{forest_none, forest_tree, record_or_none, length_rest}
use Rattle.deflist.specs.Written.{Name, Param, normal, no_args, slash, args, kwargs, kind_in, kind_at, param, param_of}
use Rattle.deflist.specs.Unpack.{mode_of}
use Rattle.deflist.specs.Reading.{kind_here}
use Rattle.deflist.specs.declared.Kind.{Kind}
use Rattle.deflist.specs.declared.Kind.TheVariants.{Normal, NoArgs, Slash, Args, KwArgs}
use Rattle.deflist.specs.declared.State.{State}
use Rattle.deflist.specs.declared.State.TheVariants.{Normal as BeforeSlash, SeenSlash, SeenStar, SeenStarStar}
use Rattle.arguments.specs.Written.{Argument, arguments_in, argument_of, arguments_of}
use Rattle.bind.specs.FlatList.{FlatParam, name_in, flat_param}
use Rattle.bind.specs.Reading.{behind_callee, flats_of as flat_count}
use Rattle.namesakes.specs.Namesake.{has_name, nameless, label, label_of, Labelled, labelled_in, labelled_of}
use Rattle.namesakes.specs.Namesake.{ordinary_from}
use Rattle.namesakes.specs.Reading.{is_normal, is_named}

-- a stretch has no argument, or one that is followed by those of the rest
module _ (ns : List ℕ) (i : ℕ) (t : List ℕ) where
  pub labelled_end : length t < 24 → labelled_in ns (forest i t) ≡ []
  unfolding labelled_in
  labelled_end h = rw (forest_none i t h) refl

  abbrev pub here : Labelled
  here = record { argument = argument_of ns (node_of i t); name = label_of ns (forest (i + 1) (kids_of t)) }

  pub labelled_on : {next : ℕ} {after : List ℕ} → 24 ≤ length t → next ≡ i + span_of t / 24 → after ≡ rest_of t
      → labelled_in ns (forest i t) ≡ here ∷ labelled_in ns (forest next after)
  unfolding labelled_in
  labelled_on big next-is after-is = rw (forest_tree i t big, next-is, after-is) refl

  -- the arguments of a call follow its first child
  pub labelled_behind : labelled_in ns (forest (i + 1 + span_of (kids_of t) / 24) (behind_callee t))
      ≡ labelled_of ns (tree_of i t)
  unfolding labelled_in labelled_of behind_callee
  labelled_behind = record_or_none (kids_of t)
      (λ short. rw (
        forest_none (i + 1) (kids_of t) short,
        forest_none (i + 1 + span_of (kids_of t) / 24) (rest_of (kids_of t)) (omega (arith, length_rest (kids_of t))),
      ) refl)
      (λ more. rw (forest_tree (i + 1) (kids_of t) more) refl)

  -- the name of the expression that a stretch begins with
  pub label_none : is_named t ≡ false → label_of ns (forest i t) ≡ nameless
  unfolding label_of is_named
  label_none h = record_or_none t (λ short. rw (forest_none i t short) refl) λ big.
      let no : has_name (node_of 0 t).kind ≡ false = rw (le-leb 24 (length t) big) at h in
      rw (forest_tree i t big, no) refl

  pub label_some : is_named t ≡ true → label_of ns (forest i t) ≡ label (name_of ns (node_of 0 t))
  unfolding label_of is_named name_of
  label_some h = record_or_none t
      (λ short. let no : false ≡ true = rw (lt-leb 24 (length t) short) at h in never (cc)) λ big.
      let is : has_name (node_of 0 t).kind ≡ true = rw (le-leb 24 (length t) big) at h in
      rw (forest_tree i t big, is) refl

  -- a parameter is an ordinary one of a name by its record
  pub name_test : (x : Name)
      → (is_normal (kind_in (param_of ns (node_of i t))) && same (name_in (param_of ns (node_of i t))) x)
      ≡ (is_normal (kind_here t) && same (name_of ns (node_of 0 t)) x)
  unfolding param_of kind_here name_of
  name_test x = go (kind_at (node_of 0 t).kind (node_of 0 t).detail)
    where
      go : (k : Kind) → (is_normal (kind_in (param k (node_of i t) (name_of ns (node_of i t))))
          && same (name_in (param k (node_of i t) (name_of ns (node_of i t)))) x)
          ≡ (is_normal k && same (name_of ns (node_of 0 t)) x)
      go (Normal d) = refl
      go NoArgs = refl
      go Slash = refl
      go Args = refl
      go KwArgs = refl

-- LAW: one parameter more, for the search by name
pub ordinary_one : (f : ℕ) (x : Name) (s : State) (p : Param) (fs : List FlatParam)
    → ordinary_from f x (map (flat_param p) (mode_of s (kind_in p)) ++ fs)
    ≡ if' (is_normal (kind_in p) && same (name_in p) x) (λ _. Some f)
    (λ _. ordinary_from (f + flat_count (kind_in p)) x fs)
unfolding ordinary_from
ordinary_one f x BeforeSlash (normal r n d) fs = refl
ordinary_one f x SeenSlash (normal r n d) fs = refl
ordinary_one f x SeenStar (normal r n d) fs = refl
ordinary_one f x SeenStarStar (normal r n d) fs = refl
ordinary_one f x s (no_args r) fs = ap (λ (g : ℕ). ordinary_from g x fs) (omega arith)
ordinary_one f x s (slash r) fs = ap (λ (g : ℕ). ordinary_from g x fs) (omega arith)
ordinary_one f x s (args r n) fs = refl
ordinary_one f x s (kwargs r n) fs = refl

-- LAW: the arguments with names are the arguments
abbrev pub bare : List Labelled → List Argument
bare qs = map (λ (a : Labelled). a.argument) qs

pub same_in : (ns : List ℕ) (f : Forest) → bare (labelled_in ns f) ≡ arguments_in ns f
unfolding labelled_in arguments_in
same_in ns none = refl
same_in ns (node r ks then ts) = ap (λ (l : List Argument). argument_of ns r ∷ l) (same_in ns ts)

pub same_of : (ns : List ℕ) (t : Tree) → bare (labelled_of ns t) ≡ arguments_of ns t
unfolding labelled_of
same_of ns (node r none) = refl
same_of ns (node r (c then ks)) = same_in ns ks
