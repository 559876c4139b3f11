-- The parameters of an accepted list, by their modes, and what a name finds. An accepted list has a good cut, and each
-- flat parameter has the mode of its range (demand3's `modes_by_range`). So the first num_positional are PosOnly or
-- PosOrName, later ones are not, and `*args` and `**kwargs` are where the counts say (`Stands`, shown by `stands`). The
-- search by name finds a parameter that can be called by that name (`name_found`), and misses only if there is none
-- (`name_missed`); both are by induction on the parameters. No two parameters have one name (`one_name`). Assumes
-- nothing.
use Rattle.std.specs.Prelude.{None, Some}
use mathlib.Core.Path.{◌≡◌, refl, sym, ap, ◌∙◌}
use mathlib.Core.Bool.{Bool, true, false, ◌&&◌, ◌||◌}
use mathlib.Core.Logic.{◌⊎◌, inl, inr}
use mathlib.Core.List.{List, [], ◌∷◌, map, append-nil}
use Prim.Native.Nat.{ℕ, zero, suc, ◌+◌, ◌<◌, ◌≤◌}
use native.Mathlib.Omega.{arith}
use lib.ListN.{length, get_or, length-map}
use lib.Dec.{eqb}
use borrow.Author.Tests.{eqb-true}
use Rattle.fields.proofs.Basics.{never, le_or_lt}
use Rattle.fields.specs.Choice.{if'}
use Rattle.forest.specs.Names.{same, Distinct}
use Rattle.forest.proofs.Named.{same_bytes_refl, same_bytes_equal}
use Rattle.deflist.specs.Written.{Name, Param, normal, no_args, slash, args, kwargs}
use Rattle.deflist.specs.Unpack.{unpack, accepted, modes, mode_pos_only, mode_pos_or_name, mode_name_only, mode_args}
use Rattle.deflist.specs.Unpack.{mode_kwargs}
use Rattle.deflist.specs.declared.Counts.{Counts}
use Rattle.deflist.specs.declared.State.{State}
use Rattle.deflist.specs.declared.State.TheVariants.{SeenSlash, SeenStar, SeenStarStar}
use Rattle.parameters.specs.Indices.{place_of}
use Rattle.demand3.specs.Cut.{Cut, Star, no_star, bare, starred, Last, no_kwargs, with_kwargs, parts_of, cut_ranges, ByRange}
use Rattle.demand3.specs.Cut.{args_part, kwargs_part, part_modes, names_of}
use Rattle.demand3.proofs.Cuts.{cut_counts, cut_accepted, accepted_cut, cut_modes}
use Rattle.demand3.proofs.Counting.{args_place, kwargs_place}
use Rattle.demand3.proofs.Ranges.{modes_by_range}
use Rattle.bind.specs.FlatList.{FlatParam, flats_from, flats}
use Rattle.bind.specs.Binding.{called_by_name, named_from}
use Rattle.bind.proofs.Lists.{flats_modes}
use Rattle.bind.proofs.Entry.{flats_long}
use Rattle.reached.specs.Said.{IsAt, CanBeNamed}
use Rattle.reached.specs.Rules.{Named}

-- number i of a list is there, and is one
pub there : {A : Type 0} (l : List A) (i : ℕ) → i < length l → (x : A) × IsAt l i x
there [] i h = absurd (omega arith)
there (x ∷ l) zero h = (x, refl)
there (x ∷ l) (suc i) h = there l i (omega arith)

pub within : {A : Type 0} (l : List A) (i : ℕ) (x : A) → IsAt l i x → i < length l
within {A = A} [] i x e = elim e [ ]
within (y ∷ l) zero x e = omega arith
within (y ∷ l) (suc i) x e = omega (arith, within l i x e)

pub moved : {A : Type 0} (l : List A) (i j : ℕ) (x : A) → i ≡ j → IsAt l i x → IsAt l j x
moved l i j x e at = rw e at at

pub same_at : {A : Type 0} (l : List A) (i : ℕ) (x y : A) → IsAt l i x → IsAt l i y → x ≡ y
same_at {A = A} [] i x y e f = elim e [ ]
same_at (z ∷ l) zero x y e f = sym e ∙ f
same_at (z ∷ l) (suc i) x y e f = same_at l i x y e f

-- the mode of a flat parameter is among the modes
mode_in_lem : (fs : List FlatParam) (i : ℕ) (p : FlatParam) → IsAt fs i p
    → p.mode ≡ get_or (map (λ (p : FlatParam). p.mode) fs) i 0
mode_in_lem [] i p e = elim e [ ]
mode_in_lem (q ∷ fs) zero p e = ap (λ (x : FlatParam). x.mode) (sym e)
mode_in_lem (q ∷ fs) (suc i) p e = mode_in_lem fs i p e

pub mode_at_lem : (ps : List Param) (i : ℕ) (p : FlatParam) → IsAt (flats ps) i p → p.mode ≡ get_or (modes ps) i 0
unfolding flats modes
mode_at_lem ps i p e = mode_in_lem (flats ps) i p e ∙ ap (λ (l : List ℕ). get_or l i 0) (flats_modes _ ps)

-- where positional parameters, `*args` and `**kwargs` of an accepted list are
pub record Stands (ps : List Param) (c : Counts) : Type 0 where
  pub few : c.num_positional.0 ≤ length (flats ps)
  pub front : (i : ℕ) → i < c.num_positional.0
      → (get_or (modes ps) i 0 ≡ mode_pos_only) ⊎ (get_or (modes ps) i 0 ≡ mode_pos_or_name)
  pub back : (i : ℕ) → c.num_positional.0 ≤ i → i < length (flats ps) → 2 < get_or (modes ps) i 0
  pub args : (i : ℕ) → place_of c.args ≡ Some i → (i < length (flats ps)) × (get_or (modes ps) i 0 ≡ mode_args)
  pub kwargs : (i : ℕ) → place_of c.kwargs ≡ Some i → (i < length (flats ps)) × (get_or (modes ps) i 0 ≡ mode_kwargs)
  pub some_args : (i : ℕ) → i < length (flats ps) → get_or (modes ps) i 0 ≡ mode_args → place_of c.args ≡ None → ⊥
  pub some_kwargs : (i : ℕ) → i < length (flats ps) → get_or (modes ps) i 0 ≡ mode_kwargs → place_of c.kwargs ≡ None
      → ⊥

args_at : (s : Star) (m i : ℕ) → place_of (args_place s m) ≡ Some i → (i ≡ m) × (length (args_part s) ≡ 1)
args_at no_star m i e = never (cc)
args_at (bare r qs) m i e = never (cc)
args_at (starred r n qs) m i e = (cc, refl)

kwargs_at : (l : Last) (m i : ℕ) → place_of (kwargs_place l m) ≡ Some i → (i ≡ m) × (length (kwargs_part l) ≡ 1)
kwargs_at no_kwargs m i e = never (cc)
kwargs_at (with_kwargs r n) m i e = (cc, refl)

no_args_lem : (s : Star) (m : ℕ) → place_of (args_place s m) ≡ None → length (args_part s) ≡ 0
no_args_lem no_star m e = refl
no_args_lem (bare r qs) m e = refl
no_args_lem (starred r n qs) m e = never (cc)

no_kwargs_lem : (l : Last) (m : ℕ) → place_of (kwargs_place l m) ≡ None → length (kwargs_part l) ≡ 0
no_kwargs_lem no_kwargs m e = refl
no_kwargs_lem (with_kwargs r n) m e = never (cc)

-- the modes of a cut's flat parameters, where each index has the mode of its range
module _ (cut : Cut) (ms : List ℕ) (ranges : ByRange (cut_ranges cut) ms) where
  -- below the positional count, and from there on
  front : (i : ℕ) → i < (cut_counts cut).num_positional.0
      → (get_or ms i 0 ≡ mode_pos_only) ⊎ (get_or ms i 0 ≡ mode_pos_or_name)
  front i g = go (le_or_lt (length (parts_of cut).pos_only) i)
    where
      go : (length (parts_of cut).pos_only ≤ i) ⊎ (i < length (parts_of cut).pos_only)
          → (get_or ms i 0 ≡ mode_pos_only) ⊎ (get_or ms i 0 ≡ mode_pos_or_name)
      go (inl x) = inr (ranges.pos_or_named i x g)
      go (inr x) = inl (ranges.pos_only i (omega arith) x)

  back : (i : ℕ) → (cut_counts cut).num_positional.0 ≤ i → i < (cut_counts cut).flat.0
      → 2 < get_or ms i 0
  back i g h = go (le_or_lt (cut_ranges cut).args.upto i) (le_or_lt (cut_ranges cut).named_only.upto i)
    where
      go : ((cut_ranges cut).args.upto ≤ i) ⊎ (i < (cut_ranges cut).args.upto)
          → ((cut_ranges cut).named_only.upto ≤ i) ⊎ (i < (cut_ranges cut).named_only.upto) → 2 < get_or ms i 0
      go (inr x) y = omega (arith, ranges.args i g x)
      go (inl x) (inr y) = omega (arith, ranges.named_only i x y)
      go (inl x) (inl y) = omega (arith, ranges.kwargs i y h)

  -- no index has the mode of a part that is not there
  some_args_lem : (i : ℕ) → i < (cut_counts cut).flat.0
      → get_or ms i 0 ≡ mode_args → length (args_part cut.star) ≡ 0 → ⊥
  some_args_lem i h m none = go (le_or_lt (cut_ranges cut).pos_only.upto i)
      (le_or_lt (cut_ranges cut).pos_or_named.upto i) (le_or_lt (cut_ranges cut).named_only.upto i)
    where
      go : ((cut_ranges cut).pos_only.upto ≤ i) ⊎ (i < (cut_ranges cut).pos_only.upto)
          → ((cut_ranges cut).pos_or_named.upto ≤ i) ⊎ (i < (cut_ranges cut).pos_or_named.upto)
          → ((cut_ranges cut).named_only.upto ≤ i) ⊎ (i < (cut_ranges cut).named_only.upto) → ⊥
      go (inr x) y z = absurd (omega (arith, ranges.pos_only i (omega arith) x))
      go (inl x) (inr y) z = absurd (omega (arith, ranges.pos_or_named i x y))
      go (inl x) (inl y) (inr z) = absurd (omega (arith, ranges.named_only i (omega arith) z))
      go (inl x) (inl y) (inl z) = absurd (omega (arith, ranges.kwargs i z h))

  some_kwargs_lem : (i : ℕ) → i < (cut_counts cut).flat.0
      → get_or ms i 0 ≡ mode_kwargs → length (kwargs_part cut.last) ≡ 0 → ⊥
  some_kwargs_lem i h m none = go (le_or_lt (cut_ranges cut).pos_only.upto i)
      (le_or_lt (cut_ranges cut).pos_or_named.upto i) (le_or_lt (cut_ranges cut).args.upto i)
    where
      go : ((cut_ranges cut).pos_only.upto ≤ i) ⊎ (i < (cut_ranges cut).pos_only.upto)
          → ((cut_ranges cut).pos_or_named.upto ≤ i) ⊎ (i < (cut_ranges cut).pos_or_named.upto)
          → ((cut_ranges cut).args.upto ≤ i) ⊎ (i < (cut_ranges cut).args.upto) → ⊥
      go (inr x) y z = absurd (omega (arith, ranges.pos_only i (omega arith) x))
      go (inl x) (inr y) z = absurd (omega (arith, ranges.pos_or_named i x y))
      go (inl x) (inl y) (inr z) = absurd (omega (arith, ranges.args i y z))
      go (inl x) (inl y) (inl z) = absurd (omega (arith, ranges.named_only i z (omega arith)))

-- the cut of an accepted list: it counts the same, and each flat parameter has the mode of its range
record Accepted (ps : List Param) (c : Counts) : Type 0 where
  cut : Cut
  counted : c ≡ cut_counts cut
  ranges : ByRange (cut_ranges cut) (modes ps)
  long : length (flats ps) ≡ (cut_counts cut).flat.0

accepted_ranges : (ps : List Param) (c : Counts) → unpack ps ≡ accepted c → Accepted ps c
accepted_ranges ps c h =
    let w = accepted_cut ps h in
    let cut : Cut = w.0 in
    let both : accepted c ≡ accepted (cut_counts cut) = sym h ∙ ap unpack (sym w.1) ∙ cut_accepted cut w.2 in
    let counted : c ≡ cut_counts cut = cc in
    let these : modes ps ≡ part_modes (parts_of cut) = ap modes (sym w.1) ∙ cut_modes cut w.2.slash in
    record {
      cut = cut;
      counted = counted;
      ranges = rw (these ∙ sym (append-nil (part_modes (parts_of cut)))) (modes_by_range (parts_of cut) []);
      long = flats_long ps h ∙ ap (λ (x : Counts). x.flat.0) counted;
    }

pub stands : (ps : List Param) (c : Counts) → unpack ps ≡ accepted c → Stands ps c
stands ps c h =
    let a = accepted_ranges ps c h in
    let cut : Cut = a.cut in
    let long : length (flats ps) ≡ (cut_counts cut).flat.0 = a.long in
    rw a.counted (record {
      few = omega (arith, long);
      front = λ i g. front cut (modes ps) a.ranges i g;
      back = λ i g h. back cut (modes ps) a.ranges i g (omega (arith, long));
      args = λ i g.
          let k = args_at cut.star _ i g in
          (omega (arith, long, k.0, k.1), a.ranges.args i (omega (arith, k.0)) (omega (arith, k.0, k.1)));
      kwargs = λ i g.
          let k = kwargs_at cut.last _ i g in
          (omega (arith, long, k.0, k.1), a.ranges.kwargs i (omega (arith, k.0)) (omega (arith, k.0, k.1)));
      some_args = λ i g m n.
          some_args_lem cut (modes ps) a.ranges i (omega (arith, long)) m (no_args_lem cut.star _ n);
      some_kwargs = λ i g m n.
          some_kwargs_lem cut (modes ps) a.ranges i (omega (arith, long)) m (no_kwargs_lem cut.last _ n);
    })

-- the names of the flat parameters are those of the list, and so distinct
flat_names : (s : State) (l : List Param) → map (λ (p : FlatParam). p.name) (flats_from s l) ≡ names_of l
unfolding flats_from
flat_names s [] = refl
flat_names s (normal r n d ∷ l) = ap (λ (x : List Name). n ∷ x) (flat_names s l)
flat_names s (no_args r ∷ l) = flat_names SeenStar l
flat_names s (slash r ∷ l) = flat_names SeenSlash l
flat_names s (args r n ∷ l) = ap (λ (x : List Name). n ∷ x) (flat_names SeenStar l)
flat_names s (kwargs r n ∷ l) = ap (λ (x : List Name). n ∷ x) (flat_names SeenStarStar l)

name_in_lem : (fs : List FlatParam) (i : ℕ) (p : FlatParam) → IsAt fs i p
    → get_or (map (λ (p : FlatParam). p.name) fs) i [] ≡ p.name
name_in_lem [] i p e = elim e [ ]
name_in_lem (q ∷ fs) zero p e = ap (λ (x : FlatParam). x.name) e
name_in_lem (q ∷ fs) (suc i) p e = name_in_lem fs i p e

pub one_name : (ps : List Param) (c : Counts) → unpack ps ≡ accepted c → (i j : ℕ) (p q : FlatParam)
    → IsAt (flats ps) i p → IsAt (flats ps) j q → p.name ≡ q.name → i ≡ j
unfolding flats
one_name ps c h i j p q ip jq e = go (le_or_lt i j) (le_or_lt j i)
  where
    names : map (λ (p : FlatParam). p.name) (flats ps) ≡ names_of ps
    names = flat_names _ ps

    distinct : Distinct (names_of ps)
    distinct = let w = accepted_cut ps h in rw w.1 at w.2.distinct

    long : length (names_of ps) ≡ length (flats ps)
    long = ap length (sym names) ∙ length-map (flats ps) (λ (p : FlatParam). p.name)

    at : (k : ℕ) (r : FlatParam) → IsAt (flats ps) k r → get_or (names_of ps) k [] ≡ r.name
    at k r x = ap (λ (l : List Name). get_or l k []) (sym names) ∙ name_in_lem (flats ps) k r x

    go : (i ≤ j) ⊎ (j < i) → (j ≤ i) ⊎ (i < j) → i ≡ j
    go (inl x) (inl y) = omega arith
    go (inr x) y = absurd (distinct j i x (omega (arith, long, within (flats ps) i p ip))
        (at j q jq ∙ sym e ∙ sym (at i p ip)))
    go (inl x) (inr y) = absurd (distinct i j y (omega (arith, long, within (flats ps) j q jq))
        (at i p ip ∙ e ∙ sym (at j q jq)))

-- what a name finds
found_mode : (m : ℕ) → called_by_name m ≡ true → (m ≡ mode_pos_or_name) ⊎ (m ≡ mode_name_only)
found_mode m e = go (eqb m mode_pos_or_name) (eqb m mode_name_only) refl refl e
  where
    go : (a b : Bool) → eqb m mode_pos_or_name ≡ a → eqb m mode_name_only ≡ b → (a || b) ≡ true
        → (m ≡ mode_pos_or_name) ⊎ (m ≡ mode_name_only)
    go true b f g e = inl (eqb-true m mode_pos_or_name f)
    go false true f g e = inr (eqb-true m mode_name_only g)
    go false false f g e = never (cc)

called : (p : FlatParam) → CanBeNamed p → called_by_name p.mode ≡ true
called p (inl e) = rw e refl
called p (inr e) = rw e refl

-- what the search finds, counted from k: the parameter of the name
pub record FoundFrom (fs : List FlatParam) (x : Name) (k i : ℕ) : Type 0 where
  pub place : ℕ
  pub is : i ≡ k + place
  pub here : Named fs x place

found_behind : (p : FlatParam) (fs : List FlatParam) (x : Name) (k i : ℕ) → FoundFrom fs x (k + 1) i
    → FoundFrom (p ∷ fs) x k i
found_behind p fs x k i r = record {
  place = suc r.place;
  is = omega (arith, r.is);
  here = record {
    param = r.here.param;
    there = r.here.there;
    can_be = r.here.can_be;
    name = r.here.name;
  };
}

pub name_found : (fs : List FlatParam) (x : Name) (k i : ℕ) → named_from k x fs ≡ Some i → FoundFrom fs x k i
unfolding named_from
name_found [] x k i e = never (cc)
name_found (p ∷ fs) x k i e = go (called_by_name p.mode) (same p.name x) refl refl e (name_found fs x (k + 1) i)
  where
    go : (a b : Bool) → called_by_name p.mode ≡ a → same p.name x ≡ b
        → if' (a && b) (λ _. Some k) (λ _. named_from (k + 1) x fs) ≡ Some i
        → (named_from (k + 1) x fs ≡ Some i → FoundFrom fs x (k + 1) i) → FoundFrom (p ∷ fs) x k i
    go true true f g e rest = let same_index : i ≡ k = cc in record {
      place = 0;
      is = omega arith;
      here = record {
        param = p;
        there = refl;
        can_be = found_mode p.mode f;
        name = same_bytes_equal p.name x g;
      };
    }
    go true false f g e rest = found_behind p fs x k i (rest e)
    go false b f g e rest = found_behind p fs x k i (rest e)

pub name_missed : (fs : List FlatParam) (x : Name) (k : ℕ) → named_from k x fs ≡ None → (i : ℕ) (p : FlatParam)
    → IsAt fs i p → CanBeNamed p → p.name ≡ x → ⊥
unfolding named_from
name_missed [] x k e i p at c n = elim at [ ]
name_missed (q ∷ fs) x k e zero p at c n =
    let test : (called_by_name q.mode && same q.name x) ≡ true = rw (
      ap (λ (y : FlatParam). called_by_name y.mode) at ∙ called p c,
      ap (λ (y : FlatParam). y.name) at ∙ n,
      same_bytes_refl x,
    ) refl in
    let hit : Some k ≡ None = rw test at e in
    never (cc)
name_missed (q ∷ fs) x k e (suc i) p at c n = go (called_by_name q.mode && same q.name x) e
    (λ f. name_missed fs x (k + 1) f i p at c n)
  where
    go : (b : Bool) → if' b (λ _. Some k) (λ _. named_from (k + 1) x fs) ≡ None
        → (named_from (k + 1) x fs ≡ None → ⊥) → ⊥
    go true e rest = never (cc)
    go false e rest = rest e
