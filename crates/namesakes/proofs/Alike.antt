-- A call whose arguments are alike those of an accepted call (the same kinds, called by the same names) is accepted
-- too: the rules of a binding (reached's `Rules`) mention kinds and names only, and each argument of the one list
-- has its like at the same place of the other (`over`). Cite `alike_rules`. Assumes nothing.
use mathlib.Core.Path.{◌≡◌, refl, sym, ap, ◌∙◌}
use mathlib.Core.Bool.{true}
use mathlib.Core.Logic.{inl, inr}
use mathlib.Core.List.{List, [], ◌∷◌, ◌++◌}
use Prim.Native.Nat.{ℕ, zero, suc}
use native.Mathlib.Omega.{arith}
use lib.ListN.{length}
use Rattle.fields.proofs.Basics.{never}
use Rattle.forest.specs.Forest.{Node}
use Rattle.table.specs.Check.{node_fits}
use Rattle.table.specs.declared.Wanted.TheVariants.{Call}
use Rattle.deflist.specs.Written.{Name}
use Rattle.arguments.specs.Written.{Argument, positional, named, args, kwargs, kind_in}
use Rattle.arguments.specs.Accepted.{kinds_of, names_of, Ordered}
use Rattle.arguments.specs.declared.CallArgs.{CallArgs}
use Rattle.arguments.specs.declared.Kind.{Kind}
use Rattle.arguments.specs.declared.Kind.TheVariants.{Positional, Named, Args, KwArgs}
use Rattle.bind.specs.FlatList.{FlatParam}
use Rattle.bind.specs.Job.{arguments_at}
use Rattle.reached.specs.Said.{IsAt}
use Rattle.reached.specs.Rules.{Matching, Rules}
use Rattle.reached.proofs.Reaching.{HasArgument}
use Rattle.namesakes.specs.Said.{called_by, Alike}

pub alike_sym : (xs ys : List Argument) → Alike xs ys → Alike ys xs
alike_sym [] (y ∷ ys) l = elim l [ ]
alike_sym (x ∷ xs) [] l = elim l [ ]
alike_sym [] [] l = tt
alike_sym (x ∷ xs) (y ∷ ys) l = ((sym l.0.0, sym l.0.1), alike_sym xs ys l.1)

pub alike_long : (xs ys : List Argument) → Alike xs ys → length xs ≡ length ys
alike_long [] (y ∷ ys) l = elim l [ ]
alike_long (x ∷ xs) [] l = elim l [ ]
alike_long [] [] l = refl
alike_long (x ∷ xs) (y ∷ ys) l = ap suc (alike_long xs ys l.1)

alike_kinds : (xs ys : List Argument) → Alike xs ys → kinds_of xs ≡ kinds_of ys
alike_kinds [] (y ∷ ys) l = elim l [ ]
alike_kinds (x ∷ xs) [] l = elim l [ ]
alike_kinds [] [] l = refl
alike_kinds (x ∷ xs) (y ∷ ys) l = rw (l.0.0, alike_kinds xs ys l.1) refl

-- the names that an argument adds
abbrev adds : Kind → Name → List Name
adds Positional n = []
adds Named n = n ∷ []
adds Args n = []
adds KwArgs n = []

names_one : (a : Argument) (l : List Argument) → names_of (a ∷ l) ≡ adds (kind_in a) (called_by a) ++ names_of l
names_one (positional r) l = refl
names_one (named r n) l = refl
names_one (args r) l = refl
names_one (kwargs r) l = refl

alike_names : (xs ys : List Argument) → Alike xs ys → names_of xs ≡ names_of ys
alike_names [] (y ∷ ys) l = elim l [ ]
alike_names (x ∷ xs) [] l = elim l [ ]
alike_names [] [] l = refl
alike_names (x ∷ xs) (y ∷ ys) l =
    names_one x xs ∙ rw (l.0.0, l.0.1, alike_names xs ys l.1) (sym (names_one y ys))

-- an argument's like: at the same place, of the same kind, called by the same name
record Like (ys : List Argument) (k : ℕ) (a : Argument) : Type 0 where
  like : Argument
  there : IsAt ys k like
  kind : kind_in like ≡ kind_in a
  called : called_by like ≡ called_by a

over : (xs ys : List Argument) → Alike xs ys → (k : ℕ) (a : Argument) → IsAt xs k a → Like ys k a
over [] ys l k a at = elim at [ ]
over (x ∷ xs) [] l k a at = elim l [ ]
over (x ∷ xs) (y ∷ ys) l zero a at = record {
  like = y;
  there = refl;
  kind = sym l.0.0 ∙ ap kind_in at;
  called = sym l.0.1 ∙ ap called_by at;
}
over (x ∷ xs) (y ∷ ys) l (suc k) a at = let o = over xs ys l.1 k a at in
    record { like = o.like; there = o.there; kind = o.kind; called = o.called }

positional_of : (b : Argument) → kind_in b ≡ Positional → (s : Node) × (b ≡ positional s)
positional_of (positional r) e = (r, refl)
positional_of (named r n) e = never (cc)
positional_of (args r) e = never (cc)
positional_of (kwargs r) e = never (cc)

named_of : (b : Argument) (x : Name) → kind_in b ≡ Named → called_by b ≡ x → (s : Node) × (b ≡ named s x)
named_of (positional r) x e n = never (cc)
named_of (named r y) x e n = (r, ap (named r) n)
named_of (args r) x e n = never (cc)
named_of (kwargs r) x e n = never (cc)

args_of : (b : Argument) → kind_in b ≡ Args → (s : Node) × (b ≡ args s)
args_of (positional r) e = never (cc)
args_of (named r n) e = never (cc)
args_of (args r) e = (r, refl)
args_of (kwargs r) e = never (cc)

kwargs_of : (b : Argument) → kind_in b ≡ KwArgs → (s : Node) × (b ≡ kwargs s)
kwargs_of (positional r) e = never (cc)
kwargs_of (named r n) e = never (cc)
kwargs_of (args r) e = never (cc)
kwargs_of (kwargs r) e = (r, refl)

module _ (xs ys : List Argument) (l : Alike xs ys) (k : ℕ) where
  pub positional_over : (r : Node) → IsAt xs k (positional r) → (s : Node) × IsAt ys k (positional s)
  positional_over r at =
      let o = over xs ys l k (positional r) at in
      let is = positional_of o.like o.kind in
      (is.0, rw is.1 at o.there)

  named_over : (r : Node) (x : Name) → IsAt xs k (named r x) → (s : Node) × IsAt ys k (named s x)
  named_over r x at =
      let o = over xs ys l k (named r x) at in
      let is = named_of o.like x o.kind o.called in
      (is.0, rw is.1 at o.there)

  args_over : (r : Node) → IsAt xs k (args r) → (s : Node) × IsAt ys k (args s)
  args_over r at =
      let o = over xs ys l k (args r) at in
      let is = args_of o.like o.kind in
      (is.0, rw is.1 at o.there)

  kwargs_over : (r : Node) → IsAt xs k (kwargs r) → (s : Node) × IsAt ys k (kwargs s)
  kwargs_over r at =
      let o = over xs ys l k (kwargs r) at in
      let is = kwargs_of o.like o.kind in
      (is.0, rw is.1 at o.there)

-- a parameter that has an argument has its like
argument_over : (xs ys : List Argument) → Alike xs ys → (i : ℕ) (p : FlatParam) → HasArgument xs i p
    → HasArgument ys i p
argument_over xs ys l i p (inl (r, (at, b))) = let o = positional_over xs ys l i r at in inl (o.0, (o.1, b))
argument_over xs ys l i p (inr (k, (r, (at, c)))) = let o = named_over xs ys l k r p.name at in
    inr (k, (o.0, (o.1, c)))

-- LAW: the rules of two lists
alike_matching : (fs : List FlatParam) (xs ys : List Argument) → Alike xs ys → Matching fs xs → Matching fs ys
alike_matching fs xs ys l m =
    let back = alike_sym xs ys l in
    record {
      no_args = λ k r at. let o = args_over ys xs back k r at in m.no_args k o.0 o.1;
      no_kwargs = λ k r at. let o = kwargs_over ys xs back k r at in m.no_kwargs k o.0 o.1;
      places = λ k r at. let o = positional_over ys xs back k r at in m.places k o.0 o.1;
      names = λ k r x at. let o = named_over ys xs back k r x at in m.names k o.0 x o.1;
      not_twice = λ k r s x i at nm bt pl.
          let o = named_over ys xs back k r x at in
          let p = positional_over ys xs back i s bt in
          m.not_twice k o.0 p.0 x i o.1 nm p.1 pl;
      needed = λ i p at d. argument_over xs ys l i p (m.needed i p at d);
    }

alike_ordered : (xs ys : List Argument) → Alike xs ys → (a : CallArgs) → Ordered xs a → Ordered ys a
alike_ordered xs ys l a o = record {
  kinds = sym (alike_kinds xs ys l) ∙ o.kinds;
  star_at = o.star_at;
  kwargs_at = o.kwargs_at;
  distinct = rw (alike_names xs ys l) at o.distinct;
}

-- LAW: and of two calls
pub alike_rules : (t ns : List ℕ) (call other def n : ℕ) → node_fits t other Call ≡ true
    → Alike (arguments_at t ns call) (arguments_at t ns other) → Rules t ns call def n → Rules t ns other def n
alike_rules t ns call other def n fits l r = record {
  sound = r.sound;
  is_acall = fits;
  is_adef = r.is_adef;
  room = omega (arith, r.room, alike_long (arguments_at t ns call) (arguments_at t ns other) l);
  short = r.short;
  cut = r.cut;
  order = (r.order.0, alike_ordered _ _ l r.order.0 r.order.1);
  matching = alike_matching _ _ _ l r.matching;
}
