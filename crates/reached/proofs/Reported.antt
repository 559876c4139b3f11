-- W-204, of where 80, 81 and 84 are reported:
--
--   80 at the first star or `**` of the call, 81 at the first positional too many without `*args`, 84 at the lowest
--   ordinary parameter left empty without default.
--
-- Each number is given by one step of the binding (`steps`). 80 is the search for a star, as it is defined. 81 is the
-- walk's: it stops at an argument that reaches nothing, and each before it reaches something, so has a parameter at its
-- place, since there is no `*args`. 84 is the search for a parameter whose word is 0; a word is 0 exactly where no
-- argument fills the parameter (`was_empty`, `comes_from`). Assumes nothing.
use Rattle.std.specs.Prelude.{None, Option, Some, ℕ}
use mathlib.Core.Path.{◌≡◌, refl, sym, ap, ◌∙◌}
use mathlib.Core.Bool.{Bool, true, false, not, ◌&&◌}
use mathlib.Core.Logic.{◌⊎◌, inl, inr}
use mathlib.Core.List.{List, [], ◌∷◌}
use Prim.Native.Nat.{ℕ, zero, suc, ◌+◌, ◌<◌, ◌≤◌}
use native.Mathlib.Omega.{arith}
use lib.ListN.{length, get_or, length-replicate}
use lib.Dec.{eqb, ltb}
use borrow.Author.Tests.{eq-eqb, eqb-true, ltb-true, ltb-false}
use Rattle.fields.proofs.Basics.{never, clash}
use Rattle.fields.specs.Choice.{if'}
use Rattle.forest.specs.Forest.{Node}
use Rattle.table.specs.Numbers.{star_argument, too_many_positional, empty_parameter}
use Rattle.table.specs.Answer.{accepted, refused, refused_at}
use Rattle.deflist.specs.Written.{Name, Param}
use Rattle.deflist.specs.Unpack as outcome
use Rattle.deflist.specs.Unpack.{unpack, modes}
use Rattle.deflist.specs.declared.Counts.{Counts}
use Rattle.parameters.specs.Indices.{place_of, counted_of}
use Rattle.parameters.specs.Params.{list_of}
use Rattle.parameters.specs.declared.DefParamIndices.{DefParamIndices}
use Rattle.arguments.specs.Written.{Argument, positional, named, args, kwargs, node_in, kind_in}
use Rattle.bind.specs.FlatList.{FlatParam}
use Rattle.bind.specs.Binding.{collected, by_place, reaches, unreached, along, is_star, star_check, empty_check}
use Rattle.bind.specs.Job.{no_words, arguments_at, bind_of}
use Rattle.bind.specs.declared.Reach.TheVariants.{Fills, Nowhere}
use Rattle.reached.specs.Said.{IsAt, ByPlace, flats_at}
use Rattle.reached.specs.Rules.{Named, Placed}
use Rattle.reached.specs.Refused.{spanned, FirstStar, TooMany, LeftEmpty}
use Rattle.reached.proofs.Walk.{Nodes, Filler, was_empty, comes_from}
use Rattle.reached.proofs.Params.{there, within, mode_at_lem}
use Rattle.reached.proofs.Nodes.{call_nodes}
use Rattle.reached.proofs.Complete.{zeros}
use Rattle.reached.proofs.Reaching as reaching
use Rattle.reached.proofs.Reaching.{HasArgument}
use Rattle.reached.proofs.Refusals.{star_number, empty_number, Late, Walking, late, Steps, steps, walking}
use Rattle.reached.proofs.Stops as stops
use Rattle.reached.proofs.Stops.{Why, stop_at}

-- the search for a star: where it finds none, and where it finds one
star_none : (qs : List Argument) {us : List ℕ} → star_check qs ≡ accepted us → (k : ℕ) (a : Argument) → IsAt qs k a
    → is_star (kind_in a) ≡ true → ⊥
unfolding star_check
star_none [] {us = us} e k a at s = elim at [ ]
star_none (b ∷ qs) {us} e zero a at s =
    let test : is_star (kind_in b) ≡ true = ap (λ (x : Argument). is_star (kind_in x)) at ∙ s in
    let hit : refused_at star_argument (node_in b) ≡ accepted us = rw test at e in
    never (cc)
star_none (b ∷ qs) {us} e (suc k) a at s = go (is_star (kind_in b)) e (λ f. star_none qs f k a at s)
  where
    go : (x : Bool) → if' x (λ _. refused_at star_argument (node_in b)) (λ _. star_check qs) ≡ accepted us
        → (star_check qs ≡ accepted us → ⊥) → ⊥
    go true e rest = never (cc)
    go false e rest = rest e

star_later : (a : Argument) (qs : List Argument) {vs : List ℕ} → is_star (kind_in a) ≡ false → FirstStar qs vs
    → FirstStar (a ∷ qs) vs
star_later a qs plain f = record {
  number = suc f.number;
  node = f.node;
  there = f.there;
  carries = f.carries;
  no_args = no_args;
  no_kwargs = no_kwargs;
}
  where
    no_args : (k : ℕ) (r : Node) → k < suc f.number → IsAt (a ∷ qs) k (args r) → ⊥
    no_args zero r h at =
        let test : is_star (kind_in a) ≡ true = ap (λ (x : Argument). is_star (kind_in x)) at in
        let both : true ≡ false = sym test ∙ plain in
        never (cc)
    no_args (suc k) r h at = f.no_args k r (omega arith) at

    no_kwargs : (k : ℕ) (r : Node) → k < suc f.number → IsAt (a ∷ qs) k (kwargs r) → ⊥
    no_kwargs zero r h at =
        let test : is_star (kind_in a) ≡ true = ap (λ (x : Argument). is_star (kind_in x)) at in
        let both : true ≡ false = sym test ∙ plain in
        never (cc)
    no_kwargs (suc k) r h at = f.no_kwargs k r (omega arith) at

star_found : (qs : List Argument) {vs : List ℕ} → star_check qs ≡ refused star_argument vs → FirstStar qs vs
unfolding star_check
star_found [] e = never (cc)
star_found (positional r ∷ qs) e = star_later (positional r) qs refl (star_found qs e)
star_found (named r x ∷ qs) e = star_later (named r x) qs refl (star_found qs e)
star_found (args r ∷ qs) e = record {
  number = 0;
  node = r;
  there = inl refl;
  carries = cc;
  no_args = λ k s h. absurd (omega arith);
  no_kwargs = λ k s h. absurd (omega arith);
}
star_found (kwargs r ∷ qs) e = record {
  number = 0;
  node = r;
  there = inr refl;
  carries = cc;
  no_args = λ k s h. absurd (omega arith);
  no_kwargs = λ k s h. absurd (omega arith);
}

-- the search for an empty parameter
record Hole (k : ℕ) (fs : List FlatParam) (us vs : List ℕ) : Type 0 where
  index : ℕ
  param : FlatParam
  there : IsAt fs index param
  carries : vs ≡ spanned param.node
  without : param.default ≡ false
  word : get_or us (k + index) 0 ≡ 0
  before : (i : ℕ) (p : FlatParam) → i < index → IsAt fs i p → p.default ≡ false → get_or us (k + i) 0 ≡ 0 → ⊥

-- a hole behind a parameter that is filled, or has a default
hole_later : (k : ℕ) (p : FlatParam) (fs : List FlatParam) (us vs : List ℕ)
    → (not p.default && eqb (get_or us k 0) 0) ≡ false → Hole (k + 1) fs us vs → Hole k (p ∷ fs) us vs
hole_later k p fs us vs test h = record {
  index = suc h.index;
  param = h.param;
  there = h.there;
  carries = h.carries;
  without = h.without;
  word = rw (next h.index) at h.word;
  before = before;
}
  where
    next : (j : ℕ) → k + 1 + j ≡ k + suc j
    next j = omega arith

    before : (i : ℕ) (q : FlatParam) → i < suc h.index → IsAt (p ∷ fs) i q → q.default ≡ false
        → get_or us (k + i) 0 ≡ 0 → ⊥
    before zero q l at n z =
        let here : k + 0 ≡ k = omega arith in
        let its : p.default ≡ false = ap (λ (x : FlatParam). x.default) at ∙ n in
        let hit : (not p.default && eqb (get_or us k 0) 0) ≡ true = rw
        (its, eq-eqb (get_or us k 0) 0 (rw here at z)) refl in
        clash hit test
    before (suc i) q l at n z = h.before i q (omega arith) at n (rw (← next i) at z)

hole : (k : ℕ) (fs : List FlatParam) (us : List ℕ) {vs : List ℕ} → empty_check k fs us ≡ refused empty_parameter vs
    → Hole k fs us vs
unfolding empty_check
hole k [] us e = never (cc)
hole k (p ∷ fs) us {vs} e = go p.default (eqb (get_or us k 0) 0) refl refl e (λ f. hole (k + 1) fs us f)
  where
    here : k + 0 ≡ k
    here = omega arith

    go : (b c : Bool) → p.default ≡ b → eqb (get_or us k 0) 0 ≡ c
        → if' (not b && c) (λ _. refused_at empty_parameter p.node) (λ _. empty_check (k + 1) fs us)
        ≡ refused empty_parameter vs → (empty_check (k + 1) fs us ≡ refused empty_parameter vs → Hole (k + 1) fs us vs)
        → Hole k (p ∷ fs) us vs
    go true c f g e rest = hole_later k p fs us vs (rw f refl) (rest e)
    go false false f g e rest = hole_later k p fs us vs (rw (f, g) refl) (rest e)
    go false true f g e rest = record {
      index = 0;
      param = p;
      there = refl;
      carries = cc;
      without = f;
      word = rw here (eqb-true (get_or us k 0) 0 g);
      before = λ i q h at n z. absurd (omega arith);
    }

module _ (t ns : List ℕ) (call def room : ℕ) where
  abbrev ps : List Param
  ps = list_of t ns def

  abbrev fs : List FlatParam
  fs = flats_at t ns def

  abbrev qs : List Argument
  qs = arguments_at t ns call

  -- what the walk refuses by: 80 at a star alone, and never 84
  star_kind : (a : Argument) → star_argument ≡ unreached (kind_in a) → is_star (kind_in a) ≡ true
  unfolding unreached
  star_kind (positional r) e = absurd (omega arith)
  star_kind (named r x) e = absurd (omega arith)
  star_kind (args r) e = refl
  star_kind (kwargs r) e = refl

  not_empty : (a : Argument) → empty_parameter ≡ unreached (kind_in a) → ⊥
  unfolding unreached
  not_empty (positional r) e = omega (arith, e)
  not_empty (named r x) e = omega (arith, e)
  not_empty (args r) e = omega (arith, e)
  not_empty (kwargs r) e = omega (arith, e)

  module _ (c : Counts) (outcome : unpack ps ≡ outcome.accepted c) where
    abbrev d : DefParamIndices
    d = (counted_of c).indices

    abbrev flat : ℕ
    flat = (counted_of c).flat

    abbrev none_yet : List ℕ
    none_yet = no_words (counted_of c) qs

    small : (k : ℕ) (a : Argument) (i : ℕ) → reaches d fs k a ≡ Fills i → i < flat
    small = reaching.small ps c outcome

    from_zero : (k : ℕ) → 0 + k ≡ k
    from_zero k = omega arith

    -- the walk does not give 80 where there is no star
    no_star_there : {us vs : List ℕ} → star_check qs ≡ accepted us
        → along flat d fs 0 none_yet qs ≡ refused star_argument vs → ⊥
    no_star_there {us} {vs} s e =
        let at = stop_at flat d fs small 0 none_yet qs star_argument vs e in
        go at.number at.argument at.there at.why
      where
        go : (j : ℕ) (a : Argument) → IsAt qs j a → Why d fs 0 none_yet qs j a star_argument → ⊥
        go j a there (inl x) = star_none qs s j a there (star_kind a x.1)
        go j a there (inr x) = absurd (omega (arith, x.number))

    -- nor 84
    no_empty_there : {vs : List ℕ} → along flat d fs 0 none_yet qs ≡ refused empty_parameter vs → ⊥
    no_empty_there {vs} e =
        let at = stop_at flat d fs small 0 none_yet qs empty_parameter vs e in
        go at.number at.argument at.why
      where
        go : (j : ℕ) (a : Argument) → Why d fs 0 none_yet qs j a empty_parameter → ⊥
        go j a (inl x) = not_empty a x.1
        go j a (inr x) = absurd (omega (arith, x.number))

    -- a parameter whose word is 0 after the walk has no argument, and any other has one
    module _ (us : List ℕ) (walked : along flat d fs 0 none_yet qs ≡ accepted us) where
      nodes : Nodes qs
      nodes = call_nodes t ns call

      long : flat + 0 + length qs ≤ length none_yet
      long = omega (arith, length-replicate {A = ℕ} (flat + length qs) 0)

      not_filled : (i : ℕ) → get_or us i 0 ≡ 0 → (k : ℕ) (a : Argument) → IsAt qs k a → reaches d fs k a ≡ Fills i → ⊥
      not_filled i z k a at e =
          let w = was_empty flat d fs small 0 none_yet qs us walked nodes long k a i at (rw (from_zero k) e) in
          let some = nodes k a at in
          absurd (omega (arith, w.1))

      filled_by : (i : ℕ) (p : FlatParam) → IsAt fs i p → (get_or us i 0 ≡ 0 → ⊥) → HasArgument qs i p
      filled_by i p sits n =
          go (comes_from flat d fs small 0 none_yet qs us walked nodes long i
          (omega (arith, reaching.flat_is_lem ps c outcome, within fs i p sits)))
        where
          go : (get_or us i 0 ≡ get_or none_yet i 0) ⊎ Filler flat d fs small 0 qs us i → HasArgument qs i p
          go (inl e) = absurd (n (e ∙ zeros (flat + length qs) i))
          go (inr f) = reaching.has_argument ps c outcome qs f.number f.argument i p f.there
              (rw (from_zero f.number) at f.fills) sits

      left_empty : {vs : List ℕ} → empty_check 0 fs us ≡ refused empty_parameter vs → LeftEmpty fs qs vs
      left_empty e =
          let h = hole 0 fs us e in
          let p = h.param in
          let z : get_or us h.index 0 ≡ 0 = rw (from_zero h.index) at h.word in
          record {
            index = h.index;
            param = p;
            there = h.there;
            carries = h.carries;
            without = h.without;
            no_place = λ r at b.
                let placed : Placed fs h.index = record { param = p; there = h.there; by_place = b } in
                not_filled h.index z h.index (positional r) at
                (reaching.placed_fills ps c outcome h.index r placed);
            no_name = λ k r at b.
                let it : Named fs p.name h.index =
                record { param = p; there = h.there; can_be = b; name = refl } in
                not_filled h.index z k (named r p.name) at
                (reaching.named_fills ps c outcome k r p.name h.index it);
            first = λ i q l sits n. filled_by i q sits (λ x. h.before i q l sits n (rw (from_zero i) x));
          }

    -- a positional argument that reaches nothing, where those before it reach something
    no_args_lem : (k : ℕ) → by_place d k ≡ Nowhere → (c.num_positional.0 ≤ k) × (place_of c.args ≡ None)
    unfolding counted_of
    no_args_lem k e = go (ltb k c.num_positional.0) (place_of c.args) refl refl e
      where
        go : (b : Bool) (x : Option ℕ) → ltb k c.num_positional.0 ≡ b → place_of c.args ≡ x
            → if' b (λ _. Fills k) (λ _. collected x) ≡ Nowhere
            → (c.num_positional.0 ≤ k) × (place_of c.args ≡ None)
        go true x f g e = never (cc)
        go false (Some j) f g e = never (cc)
        go false None f g e = (ltb-false k c.num_positional.0 f, g)

    placed_before : (k : ℕ) → place_of c.args ≡ None → (by_place d k ≡ Nowhere → ⊥) → Placed fs k
    unfolding counted_of
    placed_before k g some = go (ltb k c.num_positional.0) refl
      where
        go : (b : Bool) → ltb k c.num_positional.0 ≡ b → Placed fs k
        go true f =
            let s = reaching.front_sits ps c outcome k (ltb-true k c.num_positional.0 f) in
            record { param = s.param; there = s.there; by_place = s.kind }
        go false f = absurd (some (rw (f, g) refl))

    behind : (k : ℕ) (p : FlatParam) → IsAt fs k p → ByPlace p → c.num_positional.0 ≤ k → ⊥
    behind k p sits b h = go b (mode_at_lem ps k p sits) ((reaching.st ps c outcome).back k h (within fs k p sits))
      where
        go : ByPlace p → p.mode ≡ get_or (modes ps) k 0 → 2 < get_or (modes ps) k 0 → ⊥
        go (inl x) m l = absurd (omega arith)
        go (inr x) m l = absurd (omega arith)

    -- in an accepted order those before a positional argument are positional
    earlier : (j : ℕ) (r : Node) → IsAt qs j (positional r)
        → ((i l : ℕ) (u v : Node) (x : Name) → IsAt qs i (positional u) → IsAt qs l (named v x) → i < l)
        → ((i : ℕ) (b : Argument) → i < j → IsAt qs i b → reaches d fs (0 + i) b ≡ Nowhere → ⊥)
        → place_of c.args ≡ None → (i : ℕ) → i < j → Placed fs i
    unfolding reaches
    earlier j r at turn before g i h =
        let x = there qs i (omega (arith, within qs j (positional r) at)) in
        go x.0 x.1
      where
        go : (a : Argument) → IsAt qs i a → Placed fs i
        go (positional s) it = placed_before i g (λ e. before i (positional s) h it (rw (from_zero i) e))
        go (named s x) it = absurd (omega (arith, turn j i r s x at it))
        go (args s) it = absurd (before i (args s) h it refl)
        go (kwargs s) it = absurd (before i (kwargs s) h it refl)

  -- "80 at the first star or `**` of the call"
  pub star_is_first : {vs : List ℕ} → bind_of t ns call def room ≡ refused star_argument vs → FirstStar qs vs
  star_is_first {vs} e =
      let l = late t ns call def room star_argument e (omega arith) in
      go l (steps t ns call def l.counts star_argument l.refuses)
    where
      go : (l : Late t ns call def star_argument vs) → Steps t ns call def l.counts star_argument vs
          → FirstStar qs vs
      go l (inl y) = star_found qs y
      go l (inr (us, (s, inl y))) = absurd (no_star_there l.counts l.outcome s y)
      go l (inr (us, (s, inr y))) = absurd (omega (arith, empty_number 0 fs y.0 star_argument y.1.1))

  -- "84 at the lowest ordinary parameter left empty without default"
  pub empty_is_first : {vs : List ℕ} → bind_of t ns call def room ≡ refused empty_parameter vs → LeftEmpty fs qs vs
  empty_is_first {vs} e =
      let l = late t ns call def room empty_parameter e (omega arith) in
      go l (steps t ns call def l.counts empty_parameter l.refuses)
    where
      go : (l : Late t ns call def empty_parameter vs) → Steps t ns call def l.counts empty_parameter vs
          → LeftEmpty fs qs vs
      go l (inl y) = absurd (omega (arith, star_number qs empty_parameter y))
      go l (inr (us, (s, inl y))) = absurd (no_empty_there l.counts l.outcome y)
      go l (inr (us, (s, inr y))) = left_empty l.counts l.outcome y.0 y.1.0 y.1.1

  -- the positional argument at which 81 stops: no parameter is at its place, and there is no `*args`
  too_many : {vs : List ℕ} (w : Walking t ns call def too_many_positional vs) (j : ℕ) (r : Node)
      → IsAt qs j (positional r) → vs ≡ spanned r
      → ((i : ℕ) (b : Argument) → i < j → IsAt qs i b
      → reaches (counted_of w.counts).indices fs (0 + i) b ≡ Nowhere → ⊥)
      → reaches (counted_of w.counts).indices fs (0 + j) (positional r) ≡ Nowhere → TooMany fs qs vs
  unfolding reaches
  too_many {vs} w j r at v before y =
      let k = no_args_lem w.counts w.outcome j (rw (from_zero w.counts w.outcome j) at y) in
      record {
        number = j;
        node = r;
        there = at;
        carries = v;
        no_args = λ i p sits m. (reaching.st ps w.counts w.outcome).some_args i (within fs i p sits)
            (sym (mode_at_lem ps i p sits) ∙ m) k.1;
        no_place = λ p sits b. behind w.counts w.outcome j p sits b k.0;
        first = earlier w.counts w.outcome j r at
            (stops.in_turn t ns call def room too_many_positional vs w) before k.1;
      }

  -- "81 at the first positional too many without `*args`"
  pub too_many_is_first : {vs : List ℕ} → bind_of t ns call def room ≡ refused too_many_positional vs → TooMany fs qs vs
  unfolding reaches unreached
  too_many_is_first {vs} e =
      let w = walking t ns call def room too_many_positional e (omega arith) (omega arith) in
      let s = stops.stop t ns call def room too_many_positional vs w in
      go w s.number s.argument s.there s.carries s.before s.why
    where
      go : (w : Walking t ns call def too_many_positional vs) (j : ℕ) (a : Argument) → IsAt qs j a
          → vs ≡ spanned (node_in a)
          → ((i : ℕ) (b : Argument) → i < j → IsAt qs i b
          → reaches (counted_of w.counts).indices fs (0 + i) b ≡ Nowhere → ⊥)
          → Why (counted_of w.counts).indices fs 0 (no_words (counted_of w.counts) qs) qs j a too_many_positional
          → TooMany fs qs vs
      go w j a at v before (inr y) = absurd (omega (arith, y.number))
      go w j (named r x) at v before (inl y) = absurd (omega (arith, y.1))
      go w j (args r) at v before (inl y) = absurd (omega (arith, y.1))
      go w j (kwargs r) at v before (inl y) = absurd (omega (arith, y.1))
      go w j (positional r) at v before (inl y) = too_many w j r at v before y.0
