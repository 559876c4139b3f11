-- A call and a def that meet the rules, stated without the job, are accepted (`complete`). Each check of the binding
-- passes: the list because it has a good cut, the call because its arguments are in order, and the walk by Accepts. For
-- that each argument reaches something (`somewhere`: the rules give it a parameter at its place, one of its name, or a
-- star), no two fill one parameter (`apart`: by two places, by two names, or by a place and a name, which the rules
-- forbid), and each parameter without a default is filled (`needed`). The only induction is on the arguments, for two
-- of one name (`names_apart`). Assumes nothing.
use Rattle.std.specs.Prelude.{None, Option, Some, ℕ}
use mathlib.Core.Path.{◌≡◌, refl, sym, ap, ◌∙◌}
use mathlib.Core.Bool.{Bool, true, false}
use mathlib.Core.Logic.{◌⊎◌, inl, inr}
use mathlib.Core.List.{List, [], ◌∷◌}
use Prim.Native.Nat.{ℕ, zero, suc, ◌+◌, ◌<◌, ◌≤◌}
use native.Mathlib.Omega.{arith}
use lib.ListN.{length, get_or, replicate, length-replicate}
use lib.Dec.{ltb}
use borrow.Author.Tests.{le-leb}
use Rattle.fields.specs.Choice.{if'}
use Rattle.fields.proofs.Basics.{never}
use Rattle.forest.specs.Forest.{Node, node_of}
use Rattle.forest.specs.Names.{Distinct}
use Rattle.table.specs.Answer.{accepted}
use Rattle.table.specs.Check.{stretch_of}
use Rattle.table.specs.declared.Wanted.TheVariants.{Call}
use Rattle.table.proofs.Entering.{sound_entry_lem}
use Rattle.deflist.specs.Written.{Name, Param}
use Rattle.deflist.specs.Unpack as outcome
use Rattle.deflist.specs.Unpack.{unpack, mode_args, mode_kwargs}
use Rattle.deflist.specs.declared.Counts.{Counts}
use Rattle.deflist.proofs.Limited.{limited_short}
use Rattle.parameters.specs.Indices.{place_of, counted_of}
use Rattle.parameters.specs.Params.{list_of}
use Rattle.parameters.specs.declared.DefParamIndices.{DefParamIndices}
use Rattle.demand3.proofs.Cuts.{cut_counts, cut_accepted}
use Rattle.arguments.specs.Written.{Argument, positional, named, args, kwargs}
use Rattle.arguments.specs.Accepted.{names_of}
use Rattle.arguments.proofs.Converse.{ordered_unpacked}
use Rattle.bind.specs.FlatList.{FlatParam, flats}
use Rattle.bind.specs.Binding.{named_from, collected, by_place, by_name, reaches, along, binding}
use Rattle.bind.specs.Job.{no_words, lists_bound, arguments_at, entry_of, words_of, bind_of}
use Rattle.bind.specs.declared.Reach.TheVariants.{Fills, Nowhere}
use Rattle.reached.specs.Said.{IsAt}
use Rattle.reached.specs.Rules.{Named, Star, Placed, Matching, Rules}
use Rattle.reached.proofs.Walk.{was_empty, Nodes}
use Rattle.reached.proofs.Params.{within, same_at, mode_at_lem}
use Rattle.reached.proofs.Reaching as reaching
use Rattle.reached.proofs.Reaching.{HasArgument}
use Rattle.reached.proofs.Nodes.{call_nodes}
use Rattle.reached.proofs.Accepts.{Free, along_accepts, star_accepts, empty_accepts}

-- the name of a named argument, among the names
record NameIn (qs : List Argument) (x : Name) : Type 0 where
  pub place : ℕ
  pub inside : place < length (names_of qs)
  pub is : get_or (names_of qs) place [] ≡ x

name_in_lem : (qs : List Argument) (j : ℕ) (r : Node) (x : Name) → IsAt qs j (named r x) → NameIn qs x
name_in_lem [] j r x e = elim e [ ]
name_in_lem (positional s ∷ qs) zero r x e = never (cc)
name_in_lem (named s y ∷ qs) zero r x e = let same : y ≡ x = cc in record { place = 0; inside = omega arith; is = same }
name_in_lem (args s ∷ qs) zero r x e = never (cc)
name_in_lem (kwargs s ∷ qs) zero r x e = never (cc)
name_in_lem (positional s ∷ qs) (suc j) r x e = let k = name_in_lem qs j r x e in
    record { place = k.place; inside = k.inside; is = k.is }
name_in_lem (named s y ∷ qs) (suc j) r x e = let k = name_in_lem qs j r x e in
    record { place = suc k.place; inside = omega (arith, k.inside); is = k.is }
name_in_lem (args s ∷ qs) (suc j) r x e = let k = name_in_lem qs j r x e in
    record { place = k.place; inside = k.inside; is = k.is }
name_in_lem (kwargs s ∷ qs) (suc j) r x e = let k = name_in_lem qs j r x e in
    record { place = k.place; inside = k.inside; is = k.is }

distinct_rest : (x : Name) (ns : List Name) → Distinct (x ∷ ns) → Distinct ns
distinct_rest x ns d i j h g e = d (suc i) (suc j) (omega arith) (omega arith) e

-- LAW: where names are distinct, no two named arguments have the same one
pub names_apart : (qs : List Argument) → Distinct (names_of qs) → (j l : ℕ) (r s : Node) (x y : Name) → j < l
    → IsAt qs j (named r x) → IsAt qs l (named s y) → x ≡ y → ⊥
names_apart [] d j (suc l) r s x y h e f same = elim e [ ]
names_apart qs d j zero r s x y h e f same = absurd (omega arith)
names_apart (positional u ∷ qs) d zero (suc l) r s x y h e f same = never (cc)
names_apart (named u z ∷ qs) d zero (suc l) r s x y h e f same =
    let own : z ≡ x = cc in
    let k = name_in_lem qs l s y f in
    d 0 (suc k.place) (omega arith) (omega (arith, k.inside)) (own ∙ same ∙ sym k.is)
names_apart (args u ∷ qs) d zero (suc l) r s x y h e f same = never (cc)
names_apart (kwargs u ∷ qs) d zero (suc l) r s x y h e f same = never (cc)
names_apart (positional u ∷ qs) d (suc j) (suc l) r s x y h e f same =
    names_apart qs d j l r s x y (omega arith) e f same
names_apart (named u z ∷ qs) d (suc j) (suc l) r s x y h e f same =
    names_apart qs (distinct_rest z (names_of qs) d) j l r s x y (omega arith) e f same
names_apart (args u ∷ qs) d (suc j) (suc l) r s x y h e f same = names_apart qs d j l r s x y (omega arith) e f same
names_apart (kwargs u ∷ qs) d (suc j) (suc l) r s x y h e f same = names_apart qs d j l r s x y (omega arith) e f same

pub zeros : (n i : ℕ) → get_or {A = ℕ} (replicate n 0) i 0 ≡ 0
zeros zero i = refl
zeros (suc n) zero = refl
zeros (suc n) (suc i) = zeros n i

module _ (t ns : List ℕ) (call def : ℕ) (list : List ℕ) (rules : Rules t ns call def (length list)) where
  abbrev ps : List Param
  ps = list_of t ns def

  abbrev fs : List FlatParam
  fs = flats ps

  abbrev qs : List Argument
  qs = arguments_at t ns call

  abbrev c : Counts
  c = cut_counts rules.cut.0

  abbrev d : DefParamIndices
  d = (counted_of c).indices

  counted : unpack ps ≡ outcome.accepted c
  counted = ap unpack (sym rules.cut.1.joins) ∙ cut_accepted rules.cut.0 rules.cut.1.good

  abbrev m : Matching fs qs
  m = rules.matching

  placed_fills : (k : ℕ) (r : Node) → Placed fs k → reaches d fs k (positional r) ≡ Fills k
  placed_fills = reaching.placed_fills ps c counted

  named_fills : (k : ℕ) (r : Node) (x : Name) (i : ℕ) → Named fs x i → reaches d fs k (named r x) ≡ Fills i
  named_fills = reaching.named_fills ps c counted

  -- no argument reaches nothing
  star_some : (k : ℕ) → Star fs mode_args → by_place d k ≡ Nowhere → ⊥
  unfolding counted_of
  star_some k s e = go (ltb k c.num_positional.0) (place_of c.args) refl e
    where
      go : (b : Bool) (x : Option ℕ) → place_of c.args ≡ x → if' b (λ _. Fills k) (λ _. collected x) ≡ Nowhere → ⊥
      go true x f e = never (cc)
      go false (Some j) f e = never (cc)
      go false None f e = (reaching.st ps c counted).some_args s.index (within fs s.index s.param s.there)
          (sym (mode_at_lem ps s.index s.param s.there) ∙ s.is) f

  kwargs_some : (q : Option ℕ) → Star fs mode_kwargs → by_name q d.kwargs ≡ Nowhere → ⊥
  unfolding counted_of
  kwargs_some (Some j) s e = never (cc)
  kwargs_some None s e = go (place_of c.kwargs) refl e
    where
      go : (x : Option ℕ) → place_of c.kwargs ≡ x → collected x ≡ Nowhere → ⊥
      go (Some j) f e = never (cc)
      go None f e = (reaching.st ps c counted).some_kwargs s.index (within fs s.index s.param s.there)
          (sym (mode_at_lem ps s.index s.param s.there) ∙ s.is) f

  somewhere : (k : ℕ) (a : Argument) → IsAt qs k a → reaches d fs k a ≡ Nowhere → ⊥
  unfolding reaches
  somewhere k (positional r) at e = go (m.places k r at)
    where
      go : Placed fs k ⊎ Star fs mode_args → ⊥
      go (inl p) = let both : Fills k ≡ Nowhere = sym (placed_fills k r p) ∙ e in never (cc)
      go (inr s) = star_some k s e
  somewhere k (named r x) at e = go (m.names k r x at)
    where
      go : ((i : ℕ) × Named fs x i) ⊎ Star fs mode_kwargs → ⊥
      go (inl n) = let both : Fills n.0 ≡ Nowhere = sym (named_fills k r x n.0 n.1) ∙ e in never (cc)
      go (inr s) = kwargs_some (named_from 0 x fs) s e
  somewhere k (args r) at e = m.no_args k r at
  somewhere k (kwargs r) at e = m.no_kwargs k r at

  -- no two fill the same
  by_name_lem : (k i : ℕ) (r : Node) (x : Name) → reaches d fs k (named r x) ≡ Fills i → Named fs x i
  by_name_lem = reaching.named_by ps c counted

  by_place_lem : (k i : ℕ) (r : Node) → reaches d fs k (positional r) ≡ Fills i → (i ≡ k) × Placed fs k
  by_place_lem = reaching.placed_by ps c counted

  not_both : (k l i : ℕ) (r s : Node) (x : Name) → IsAt qs k (positional r) → IsAt qs l (named s x)
      → reaches d fs k (positional r) ≡ Fills i → reaches d fs l (named s x) ≡ Fills i → ⊥
  not_both k l i r s x at bt e f =
      let p = by_place_lem k i r e in
      m.not_twice l s r x i bt (by_name_lem l i s x f) (rw p.0 at) (rw p.0 p.1)

  apart : (j l : ℕ) (a b : Argument) (i : ℕ) → j < l → IsAt qs j a → IsAt qs l b → reaches d fs j a ≡ Fills i
      → reaches d fs l b ≡ Fills i → ⊥
  apart j l (args r) b i h at bt e f = m.no_args j r at
  apart j l (kwargs r) b i h at bt e f = m.no_kwargs j r at
  apart j l (positional r) (args s) i h at bt e f = m.no_args l s bt
  apart j l (positional r) (kwargs s) i h at bt e f = m.no_kwargs l s bt
  apart j l (named r x) (args s) i h at bt e f = m.no_args l s bt
  apart j l (named r x) (kwargs s) i h at bt e f = m.no_kwargs l s bt
  apart j l (positional r) (positional s) i h at bt e f = absurd
      (omega (arith, (by_place_lem j i r e).0, (by_place_lem l i s f).0))
  apart j l (positional r) (named s x) i h at bt e f = not_both j l i r s x at bt e f
  apart j l (named r x) (positional s) i h at bt e f = not_both l j i s r x bt at f e
  apart j l (named r x) (named s y) i h at bt e f =
      let p = by_name_lem j i r x e in
      let q = by_name_lem l i s y f in
      let same : p.param ≡ q.param = same_at fs i p.param q.param p.there q.there in
      let names : x ≡ y = sym p.name ∙ ap (λ (z : FlatParam). z.name) same ∙ q.name in
      names_apart qs rules.order.1.distinct j l r s x y h at bt names

  abbrev flat : ℕ
  flat = (counted_of c).flat

  abbrev none_yet : List ℕ
  none_yet = no_words (counted_of c) qs

  small : (k : ℕ) (a : Argument) (i : ℕ) → reaches d fs k a ≡ Fills i → i < flat
  small = reaching.small ps c counted

  from_zero : (k : ℕ) → 0 + k ≡ k
  from_zero k = omega arith

  free : Free flat d fs small 0 none_yet qs
  free = record {
    some = λ k a at e. somewhere k a at (rw (from_zero k) at e);
    void = λ k a i at e. zeros (flat + length qs) i;
    apart = λ j l a b i h at bt e f. apart j l a b i h at bt (rw (from_zero j) at e) (rw (from_zero l) at f);
  }

  walk : (us : List ℕ) × (along flat d fs 0 none_yet qs ≡ accepted us)
  walk = along_accepts flat d fs small 0 none_yet qs free

  nodes : Nodes qs
  nodes = call_nodes t ns call

  filled : (k : ℕ) (a : Argument) (i : ℕ) → IsAt qs k a → reaches d fs k a ≡ Fills i → get_or walk.0 i 0 ≡ 0 → ⊥
  filled k a i at e z =
      let long : flat + 0 + length qs ≤ length none_yet = omega
      (arith, length-replicate {A = ℕ} (flat + length qs) 0) in
      let w = was_empty flat d fs small 0 none_yet qs walk.0 walk.1 nodes long k a i at (rw (from_zero k) e) in
      let some = nodes k a at in
      absurd (omega (arith, w.1))

  needed : (i : ℕ) (p : FlatParam) → IsAt fs i p → p.default ≡ false → get_or walk.0 (0 + i) 0 ≡ 0 → ⊥
  needed i p sits n z = go (m.needed i p sits n)
    where
      z' : get_or walk.0 i 0 ≡ 0
      z' = rw (from_zero i) at z

      go : HasArgument qs i p → ⊥
      go (inl (r, (at, b))) =
          let placed : Placed fs i = record { param = p; there = sits; by_place = b } in
          filled i (positional r) i at (placed_fills i r placed) z'
      go (inr (k, (r, (at, b)))) =
          let it : Named fs p.name i = record { param = p; there = sits; can_be = b; name = refl } in
          filled k (named r p.name) i at (named_fills k r p.name i it) z'

  -- THEOREM: a call and a def that meet the rules are accepted
  pub complete : bind_of t ns call def (length list) ≡ accepted (length fs ∷ length qs ∷ [])
  unfolding bind_of words_of entry_of lists_bound binding
  complete = rw (
    sound_entry_lem Call t ns call rules.sound rules.is_acall,
    rules.is_adef,
    le-leb (length ps + length qs) (length list) rules.room,
    limited_short (node_of def (stretch_of t def)) ps rules.short ∙ counted,
    ordered_unpacked qs rules.order.0 rules.order.1,
    star_accepts qs m.no_args m.no_kwargs,
    walk.1,
    empty_accepts 0 fs walk.0 needed,
  ) refl
