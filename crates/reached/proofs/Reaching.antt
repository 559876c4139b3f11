-- What an argument reaches is there. A positional argument fills the parameter of its place or joins `*args`; a named
-- one fills the parameter of its name or joins `**kwargs`; each by cases on the tests of `by_place` and `by_name`
-- (`place_filled`, `place_joined`, `name_filled`, `name_joined`). So what is filled is an ordinary parameter of the
-- list and what is joined is a star (`fills_ordinary`, `joins_starred`), by Params. The last laws say it in the words
-- of the rules, in both directions: `placed_by` and `placed_fills`, `named_by` and `named_fills`. Assumes nothing.
use Rattle.std.specs.Prelude.{None, Option, Some, ℕ}
use mathlib.Core.Path.{◌≡◌, refl, sym, ap, ◌∙◌}
use mathlib.Core.Bool.{Bool, true, false}
use mathlib.Core.Logic.{◌⊎◌, inl, inr}
use mathlib.Core.List.{List}
use Prim.Native.Nat.{ℕ, ◌<◌, ◌≤◌}
use native.Mathlib.Omega.{arith}
use lib.ListN.{length, get_or}
use lib.Dec.{ltb}
use borrow.Author.Tests.{lt-ltb, ltb-true, ltb-false}
use Rattle.fields.proofs.Basics.{never, le_or_lt}
use Rattle.fields.specs.Choice.{if'}
use Rattle.forest.specs.Forest.{Node}
use Rattle.deflist.specs.Written.{Name, Param}
use Rattle.deflist.specs.Unpack.{unpack, accepted, modes, mode_pos_only, mode_pos_or_name, mode_args, mode_kwargs}
use Rattle.deflist.specs.declared.Counts.{Counts}
use Rattle.parameters.specs.Indices.{place_of, counted_of}
use Rattle.parameters.specs.declared.DefParamIndices.{DefParamIndices}
use Rattle.arguments.specs.Written.{Argument, positional, named, args, kwargs}
use Rattle.bind.specs.FlatList.{FlatParam, flats}
use Rattle.bind.specs.Binding.{named_from, collected, by_place, by_name, reaches}
use Rattle.bind.specs.declared.Reach.TheVariants.{Fills, Joins}
use Rattle.bind.proofs.Entry.{flats_long}
use Rattle.reached.specs.Said.{IsAt, Ordinary, ByPlace, Starred, CanBeNamed}
use Rattle.reached.specs.Rules.{Named, Placed}
use Rattle.reached.proofs.Params.{there, within, mode_at_lem, Stands, stands, name_found, name_missed}
use Rattle.reached.proofs.Params.{one_name, same_at, moved}

-- parameter i has an argument: the positional one of its place, or a named one of its name
abbrev pub HasArgument : List Argument → ℕ → FlatParam → Type 0
HasArgument qs i p = ((r : Node) × (IsAt qs i (positional r) × ByPlace p))
    ⊎ ((k : ℕ) × ((r : Node) × (IsAt qs k (named r p.name) × CanBeNamed p)))

module _ (ps : List Param) (c : Counts) (outcome : unpack ps ≡ accepted c) where
  abbrev pub d : DefParamIndices
  d = (counted_of c).indices

  pub st : Stands ps c
  st = stands ps c outcome

  pub flat_is_lem : (counted_of c).flat ≡ length (flats ps)
  unfolding counted_of
  flat_is_lem = sym (flats_long ps outcome)

  -- by its place
  pub place_filled : (k i : ℕ) → by_place d k ≡ Fills i → (i ≡ k) × (k < c.num_positional.0)
  unfolding counted_of
  place_filled k i e = go (ltb k c.num_positional.0) refl e
    where
      no : (x : Option ℕ) → collected x ≡ Fills i → (i ≡ k) × (k < c.num_positional.0)
      no (Some j) e = never (cc)
      no None e = never (cc)

      go : (b : Bool) → ltb k c.num_positional.0 ≡ b
          → if' b (λ _. Fills k) (λ _. collected (place_of c.args)) ≡ Fills i
          → (i ≡ k) × (k < c.num_positional.0)
      go true f e = let same : k ≡ i = cc in (sym same, ltb-true k c.num_positional.0 f)
      go false f e = no (place_of c.args) e

  pub place_joined : (k i : ℕ) → by_place d k ≡ Joins i
      → (c.num_positional.0 ≤ k) × (place_of c.args ≡ Some i)
  unfolding counted_of
  place_joined k i e = go (ltb k c.num_positional.0) refl e
    where
      star : (x : Option ℕ) → collected x ≡ Joins i → x ≡ Some i
      star (Some j) e = let same : j ≡ i = cc in ap Some same
      star None e = never (cc)

      go : (b : Bool) → ltb k c.num_positional.0 ≡ b
          → if' b (λ _. Fills k) (λ _. collected (place_of c.args)) ≡ Joins i
          → (c.num_positional.0 ≤ k) × (place_of c.args ≡ Some i)
      go true f e = never (cc)
      go false f e = (ltb-false k c.num_positional.0 f, star (place_of c.args) e)

  -- by its name
  pub name_filled : (x : Option ℕ) (i : ℕ) → by_name x d.kwargs ≡ Fills i → x ≡ Some i
  name_filled (Some j) i e = let same : j ≡ i = cc in ap Some same
  name_filled None i e = no d.kwargs e
    where
      no : (x : Option ℕ) → collected x ≡ Fills i → None ≡ Some i
      no (Some j) e = never (cc)
      no None e = never (cc)

  pub name_joined : (x : Option ℕ) (i : ℕ) → by_name x d.kwargs ≡ Joins i
      → (x ≡ None) × (place_of c.kwargs ≡ Some i)
  unfolding counted_of
  name_joined (Some j) i e = never (cc)
  name_joined None i e = (refl, star (place_of c.kwargs) e)
    where
      star : (x : Option ℕ) → collected x ≡ Joins i → x ≡ Some i
      star (Some j) e = let same : j ≡ i = cc in ap Some same
      star None e = never (cc)

  -- the parameter at a flat index
  pub record Sits (i : ℕ) (P : FlatParam → Type 0) : Type 0 where
    pub param : FlatParam
    pub there : IsAt (flats ps) i param
    pub kind : P param

  pub front_sits : (k : ℕ) → k < c.num_positional.0 → Sits k ByPlace
  front_sits k h =
      let x = there (flats ps) k (omega (arith, st.few)) in
      record { param = x.0; there = x.1; kind = go x.0 (st.front k h) (mode_at_lem ps k x.0 x.1) }
    where
      go : (q : FlatParam) → (get_or (modes ps) k 0 ≡ mode_pos_only) ⊎ (get_or (modes ps) k 0 ≡ mode_pos_or_name)
          → q.mode ≡ get_or (modes ps) k 0 → ByPlace q
      go q (inl e) m = inl (m ∙ e)
      go q (inr e) m = inr (m ∙ e)

  pub args_sits : (i : ℕ) → place_of c.args ≡ Some i → Sits i (λ (q : FlatParam). q.mode ≡ mode_args)
  args_sits i e =
      let k = st.args i e in
      let x = there (flats ps) i k.0 in
      record { param = x.0; there = x.1; kind = mode_at_lem ps i x.0 x.1 ∙ k.1 }

  pub kwargs_sits : (i : ℕ) → place_of c.kwargs ≡ Some i → Sits i (λ (q : FlatParam). q.mode ≡ mode_kwargs)
  kwargs_sits i e =
      let k = st.kwargs i e in
      let x = there (flats ps) i k.0 in
      record { param = x.0; there = x.1; kind = mode_at_lem ps i x.0 x.1 ∙ k.1 }

  pub named_sits : (x : Name) (i : ℕ) → named_from 0 x (flats ps) ≡ Some i → Named (flats ps) x i
  named_sits x i e =
      let k = name_found (flats ps) x 0 i e in
      let same : k.place ≡ i = omega (arith, k.is) in
      rw same at k.here

  -- LAW: what fills is ordinary, what joins is starred
  pub fills_ordinary : (k : ℕ) (a : Argument) (i : ℕ) → reaches d (flats ps) k a ≡ Fills i → Sits i Ordinary
  unfolding reaches
  fills_ordinary k (positional r) i e =
      let h = place_filled k i e in
      let s = front_sits k h.1 in
      rw h.0 (record { param = s.param; there = s.there; kind = go s.param s.kind })
    where
      go : (q : FlatParam) → ByPlace q → Ordinary q
      go q (inl x) = inl x
      go q (inr x) = inr (inl x)
  fills_ordinary k (named r n) i e =
      let f = named_sits n i (name_filled (named_from 0 n (flats ps)) i e) in
      record { param = f.param; there = f.there; kind = inr f.can_be }
  fills_ordinary k (args r) i e = never (cc)
  fills_ordinary k (kwargs r) i e = never (cc)

  pub joins_starred : (k : ℕ) (a : Argument) (i : ℕ) → reaches d (flats ps) k a ≡ Joins i → Sits i Starred
  unfolding reaches
  joins_starred k (positional r) i e = let s = args_sits i (place_joined k i e).1 in
      record { param = s.param; there = s.there; kind = inl s.kind }
  joins_starred k (named r n) i e = let s = kwargs_sits i (name_joined (named_from 0 n (flats ps)) i e).1 in
      record { param = s.param; there = s.there; kind = inr s.kind }
  joins_starred k (args r) i e = never (cc)
  joins_starred k (kwargs r) i e = never (cc)

  pub small : (k : ℕ) (a : Argument) (i : ℕ) → reaches d (flats ps) k a ≡ Fills i → i < (counted_of c).flat
  small k a i e = let s = fills_ordinary k a i e in omega (arith, flat_is_lem, within (flats ps) i s.param s.there)

  -- LAWS: what is filled by its place, and by its name, in the words of the rules; and that it is reached so
  pub placed_by : (k i : ℕ) (r : Node) → reaches d (flats ps) k (positional r) ≡ Fills i
      → (i ≡ k) × Placed (flats ps) k
  unfolding reaches
  placed_by k i r e =
      let h = place_filled k i e in
      let s = front_sits k h.1 in
      (h.0, record { param = s.param; there = s.there; by_place = s.kind })

  pub named_by : (k i : ℕ) (r : Node) (x : Name) → reaches d (flats ps) k (named r x) ≡ Fills i
      → Named (flats ps) x i
  unfolding reaches
  named_by k i r x e = named_sits x i (name_filled (named_from 0 x (flats ps)) i e)

  -- LAW: an argument that fills a parameter is its argument, by its place or by its name
  pub has_argument : (qs : List Argument) (k : ℕ) (a : Argument) (i : ℕ) (p : FlatParam) → IsAt qs k a
      → reaches d (flats ps) k a ≡ Fills i → IsAt (flats ps) i p → HasArgument qs i p
  unfolding reaches
  has_argument qs k (positional r) i p at e sits =
      let b = placed_by k i r e in
      let q = b.1 in
      let here : k ≡ i = sym b.0 in
      let moves = moved (flats ps) k i q.param here q.there in
      let is : q.param ≡ p = same_at (flats ps) i q.param p moves sits in
      inl (r, (moved qs k i (positional r) here at, rw is at q.by_place))
  has_argument qs k (named r x) i p at e sits =
      let q = named_by k i r x e in
      let is : q.param ≡ p = same_at (flats ps) i q.param p q.there sits in
      let its : x ≡ p.name = sym q.name ∙ ap (λ (z : FlatParam). z.name) is in
      inr (k, (r, (rw its at at, rw is at q.can_be)))
  has_argument qs k (args r) i p at e sits = never (cc)
  has_argument qs k (kwargs r) i p at e sits = never (cc)

  -- a place below the positional count
  below : (k : ℕ) → Placed (flats ps) k → k < c.num_positional.0
  below k p = go (le_or_lt c.num_positional.0 k)
    where
      no : ByPlace p.param → (p.param.mode ≡ get_or (modes ps) k 0) → 2 < get_or (modes ps) k 0
          → k < c.num_positional.0
      no (inl x) e h = absurd (omega arith)
      no (inr x) e h = absurd (omega arith)

      go : (c.num_positional.0 ≤ k) ⊎ (k < c.num_positional.0) → k < c.num_positional.0
      go (inr h) = h
      go (inl h) = no p.by_place (mode_at_lem ps k p.param p.there)
          (st.back k h (within (flats ps) k p.param p.there))

  pub placed_fills : (k : ℕ) (r : Node) → Placed (flats ps) k → reaches d (flats ps) k (positional r) ≡ Fills k
  unfolding reaches counted_of
  placed_fills k r p = rw (lt-ltb k c.num_positional.0 (below k p)) refl

  pub named_fills : (k : ℕ) (r : Node) (x : Name) (i : ℕ) → Named (flats ps) x i
      → reaches d (flats ps) k (named r x) ≡ Fills i
  unfolding reaches
  named_fills k r x i n = go (named_from 0 x (flats ps)) refl
    where
      go : (q : Option ℕ) → named_from 0 x (flats ps) ≡ q → by_name q d.kwargs ≡ Fills i
      go (Some j) e =
          let f = named_sits x j e in
          ap Fills (one_name ps c outcome j i f.param n.param f.there n.there (f.name ∙ sym n.name))
      go None e = absurd (name_missed (flats ps) x 0 e i n.param n.there n.can_be n.name)
