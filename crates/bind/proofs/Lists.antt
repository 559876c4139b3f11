-- The arguments behind a callee and the flat parameters of a list, one at a time, for any bytes. A stretch has no
-- argument (`args_end`), or one and then those of the rest (`args_on`); the arguments of a call are the stretch behind
-- its first child (`args_behind`). One parameter more adds one flat parameter, or none for a mark, to the search by
-- name and to the search for an empty one (`named_one`, `empty_one`: one case for each kind). The modes of the flat
-- parameters are those of the list (`flats_modes`, by induction on it), so there are no more of them than parameters
-- (`flats_short`). Assumes nothing.
use Rattle.std.specs.Prelude.{Some}
use mathlib.Core.Path.{◌≡◌, refl, ap}
use mathlib.Core.Bool.{◌&&◌}
use mathlib.Core.List.{List, [], ◌∷◌, ◌++◌, map}
use Prim.Native.Nat.{ℕ, ◌+◌, ◌-◌, ◌/◌, ◌<◌, ◌≤◌}
use native.Mathlib.Omega.{arith}
use lib.ListN.{length, get_or, take, drop, length-append}
use Rattle.fields.specs.Choice.{if'}
use Rattle.forest.specs.Forest.{node_of, span_of, kids_of, rest_of, forest, tree_of}
use Rattle.forest.specs.Names.{name_of, same}
use Rattle.forest.proofs.Stretch.{forest_none, forest_tree, rest_part, record_or_none, length_rest}
use Rattle.table.specs.Numbers.{empty_parameter}
use Rattle.table.specs.Answer.{refused_at}
use Rattle.deflist.specs.Written.{Name, Param, normal, no_args, slash, args, kwargs, node_in, kind_in, kind_at}
use Rattle.deflist.specs.Written.{param, param_of}
use Rattle.deflist.specs.Unpack.{next_state, mode_of, modes_from}
use Rattle.deflist.specs.Reading.{kind_here}
use Rattle.deflist.specs.declared.Kind.{Kind}
use Rattle.deflist.specs.declared.Kind.TheVariants.{Normal, NoArgs, Slash, Args, KwArgs}
use Rattle.deflist.specs.declared.State.{State}
use Rattle.deflist.specs.declared.State.TheVariants.{Normal as BeforeSlash, SeenSlash, SeenStar, SeenStarStar}
use Rattle.arguments.specs.Written as call
use Rattle.arguments.specs.Written.{arguments_in, argument_of, arguments_of}
use Rattle.arguments.specs.declared.Kind.{Kind as Form}
use Rattle.arguments.specs.declared.Kind.TheVariants.{Positional, Named, Args as Star, KwArgs as StarStar}
use Rattle.bind.specs.FlatList.{FlatParam, name_in, flat_param, flats_from, flats}
use Rattle.bind.specs.Binding.{named_from, empty_check}
use Rattle.bind.specs.Reading.{behind_callee, nameable, flats_of, is_empty}

-- a stretch has no argument, or one that is followed by those of the rest
module _ (ns : List ℕ) (i : ℕ) (t : List ℕ) where
  pub args_end : length t < 24 → arguments_in ns (forest i t) ≡ []
  unfolding arguments_in
  args_end h = rw (forest_none i t h) refl

  pub args_next : {next : ℕ} {after : List ℕ} → 24 ≤ length t → next ≡ i + span_of t / 24 → after ≡ rest_of t
      → arguments_in ns (forest i t) ≡ argument_of ns (node_of i t) ∷ arguments_in ns (forest next after)
  unfolding arguments_in
  args_next big next-is after-is = rw (forest_tree i t big, next-is, after-is) refl

  -- the same, cut as code cuts it
  pub args_on : {e : ℕ} → 24 ≤ length t → e ≡ span_of t → arguments_in ns (forest i t) ≡ argument_of ns (node_of i t)
      ∷ arguments_in ns (forest (i + e / 24) (take (length t - e) (drop e t)))
  args_on {e} big e-is = args_next big (ap (λ (n : ℕ). i + n / 24) e-is) (rest_part e t e-is)

  -- its record, and its kind
  pub arg_node : call.node_in (argument_of ns (node_of i t)) ≡ node_of i t
  unfolding argument_of
  arg_node = go (call.kind_at (node_of i t).kind)
    where
      go : (k : Form) → call.node_in (call.argument k (node_of i t) (name_of ns (node_of i t))) ≡ node_of i t
      go Positional = refl
      go Named = refl
      go Star = refl
      go StarStar = refl

  pub arg_kind : call.kind_in (argument_of ns (node_of i t)) ≡ call.kind_at (node_of 0 t).kind
  unfolding argument_of
  arg_kind = go (call.kind_at (node_of 0 t).kind)
    where
      go : (k : Form) → call.kind_in (call.argument k (node_of i t) (name_of ns (node_of i t))) ≡ k
      go Positional = refl
      go Named = refl
      go Star = refl
      go StarStar = refl

  -- the arguments of a call follow its first child
  pub args_behind : arguments_in ns (forest (i + 1 + span_of (kids_of t) / 24) (behind_callee t))
      ≡ arguments_of ns (tree_of i t)
  unfolding arguments_in behind_callee
  args_behind = record_or_none (kids_of t)
      (λ short. rw (
        forest_none (i + 1) (kids_of t) short,
        forest_none (i + 1 + span_of (kids_of t) / 24) (rest_of (kids_of t)) (omega (arith, length_rest (kids_of t))),
      ) refl)
      (λ more. rw (forest_tree (i + 1) (kids_of t) more) refl)

  -- what a parameter answers to, by its record
  pub name_test : (s : State) (x : Name)
      → (nameable s (kind_in (param_of ns (node_of i t))) && same (name_in (param_of ns (node_of i t))) x)
      ≡ (nameable s (kind_here t) && same (name_of ns (node_of 0 t)) x)
  unfolding param_of kind_here name_of
  name_test s x = go (kind_at (node_of 0 t).kind (node_of 0 t).detail)
    where
      go : (k : Kind) → (nameable s (kind_in (param k (node_of i t) (name_of ns (node_of i t))))
          && same (name_in (param k (node_of i t) (name_of ns (node_of i t)))) x)
          ≡ (nameable s k && same (name_of ns (node_of 0 t)) x)
      go (Normal d) = refl
      go NoArgs = refl
      go Slash = refl
      go Args = refl
      go KwArgs = refl

-- LAW: one parameter more, for the search by name and for the search of an empty one
pub named_one : (f : ℕ) (x : Name) (s : State) (p : Param) (fs : List FlatParam)
    → named_from f x (map (flat_param p) (mode_of s (kind_in p)) ++ fs)
    ≡ if' (nameable s (kind_in p) && same (name_in p) x) (λ _. Some f) (λ _. named_from (f + flats_of (kind_in p)) x fs)
unfolding named_from
named_one f x BeforeSlash (normal r n d) fs = refl
named_one f x SeenSlash (normal r n d) fs = refl
named_one f x SeenStar (normal r n d) fs = refl
named_one f x SeenStarStar (normal r n d) fs = refl
named_one f x s (no_args r) fs = ap (λ (g : ℕ). named_from g x fs) (omega arith)
named_one f x s (slash r) fs = ap (λ (g : ℕ). named_from g x fs) (omega arith)
named_one f x s (args r n) fs = refl
named_one f x s (kwargs r n) fs = refl

pub empty_one : (f : ℕ) (s : State) (p : Param) (fs : List FlatParam) (ws : List ℕ)
    → empty_check f (map (flat_param p) (mode_of s (kind_in p)) ++ fs) ws
    ≡ if' (is_empty (kind_in p) (get_or ws f 0)) (λ _. refused_at empty_parameter (node_in p)) (λ _.
    empty_check (f + flats_of (kind_in p)) fs ws)
unfolding empty_check
empty_one f s (normal r n d) fs ws = refl
empty_one f s (no_args r) fs ws = ap (λ (g : ℕ). empty_check g fs ws) (omega arith)
empty_one f s (slash r) fs ws = ap (λ (g : ℕ). empty_check g fs ws) (omega arith)
empty_one f s (args r n) fs ws = refl
empty_one f s (kwargs r n) fs ws = refl

-- LAW: the modes of the flat parameters are those of the list, so there are as many
pub flats_modes : (s : State) (l : List Param) → map (λ (p : FlatParam). p.mode) (flats_from s l) ≡ modes_from s l
unfolding flats_from modes_from
flats_modes s [] = refl
flats_modes s (p ∷ ps) = go (mode_of s (kind_in p)) _ _ (flats_modes (next_state s (kind_in p)) ps)
  where
    go : (ms : List ℕ) (fs : List FlatParam) (rest : List ℕ) → map (λ (p : FlatParam). p.mode) fs ≡ rest
        → map (λ (p : FlatParam). p.mode) (map (flat_param p) ms ++ fs) ≡ ms ++ rest
    go [] fs rest e = e
    go (m ∷ ms) fs rest e = ap (λ (l : List ℕ). m ∷ l) (go ms fs rest e)

flats_few : (s : State) (l : List Param) → length (flats_from s l) ≤ length l
unfolding flats_from
flats_few s [] = omega arith
flats_few s (p ∷ ps) = omega (
  arith,
  flats_few (next_state s (kind_in p)) ps,
  length-append (map (flat_param p) (mode_of s (kind_in p))) (flats_from (next_state s (kind_in p)) ps),
  one s (kind_in p),
)
  where
    one : (s : State) (k : Kind) → length (map (flat_param p) (mode_of s k)) ≤ 1
    one s (Normal d) = omega arith
    one s NoArgs = omega arith
    one s Slash = omega arith
    one s Args = omega arith
    one s KwArgs = omega arith

pub flats_short : (l : List Param) → length (flats l) ≤ length l
unfolding flats
flats_short l = flats_few _ l
