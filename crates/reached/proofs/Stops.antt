-- Where a refused walk stops, and so what 82 and 83 mean. It stops at an argument that reaches nothing, or at one whose
-- parameter an earlier argument has filled; all before it reach something (`Stopped`, shown by `stop_at`: the induction
-- is on the arguments, and a word that is there after a turn was there before or is that argument's). In an accepted
-- call the positional arguments come first (`in_turn`), and names are distinct; so two arguments that fill one
-- parameter are a positional one and a later named one, which is 83 (`against`), and 82 is a named one with no
-- parameter of its name and no `**kwargs` (`no_kwargs_lem`). Assumes nothing.
use Rattle.std.specs.Prelude.{None, Option, Some, ℕ}
use mathlib.Core.Path.{◌≡◌, refl, sym, ap, ◌∙◌}
use mathlib.Core.Bool.{Bool, true, false}
use mathlib.Core.Logic.{◌⊎◌, inl, inr}
use mathlib.Core.List.{List, [], ◌∷◌, ◌++◌}
use Prim.Native.Nat.{ℕ, zero, suc, ◌+◌, ◌<◌, ◌≤◌}
use native.Mathlib.Omega.{arith}
use lib.ListN.{length, get_or, set, replicate}
use lib.Dec.{eqb, ltb}
use borrow.Author.Tests.{ltb-true, eqb-true, eqb-false}
use Rattle.fields.proofs.Basics.{never}
use Rattle.fields.specs.Choice.{if'}
use Rattle.forest.specs.Forest.{Node}
use Rattle.table.specs.Numbers.{unknown_named, already_filled}
use Rattle.table.specs.Answer.{Answer, accepted, refused, refused_at}
use Rattle.deflist.specs.Written.{Name, Param}
use Rattle.deflist.specs.Unpack.{mode_kwargs}
use Rattle.parameters.specs.Indices.{place_of, counted_of}
use Rattle.parameters.specs.Params.{list_of}
use Rattle.parameters.specs.declared.DefParamIndices.{DefParamIndices}
use Rattle.arguments.specs.Written.{Argument, positional, named, args, kwargs, node_in, kind_in}
use Rattle.arguments.specs.Call as calling
use Rattle.arguments.specs.Call.{Outcome}
use Rattle.arguments.specs.Job.{outcome_answer}
use Rattle.arguments.specs.Accepted.{kinds_of, one, Ordered}
use Rattle.arguments.specs.declared.Kind.{Kind}
use Rattle.arguments.specs.declared.Kind.TheVariants.{Positional, Named, Args, KwArgs}
use Rattle.arguments.specs.declared.CallArgs.{CallArgs}
use Rattle.arguments.proofs.Order.{unpacked_ordered}
use Rattle.bind.specs.FlatList.{FlatParam}
use Rattle.bind.specs.Binding.{named_from, by_name, reaches, unreached, turn, and_with, along}
use Rattle.bind.specs.Job.{arguments_at, bind_of, no_words}
use Rattle.bind.specs.declared.Reach.{Reach}
use Rattle.bind.specs.declared.Reach.TheVariants.{Fills, Joins, Nowhere}
use Rattle.reached.specs.Said.{IsAt, flats_at, Against}
use Rattle.reached.specs.Refused.{spanned}
use Rattle.reached.proofs.Walk.{took, took_other}
use Rattle.reached.specs.Rules as rules
use Rattle.reached.proofs.Params.{within, same_at, mode_at_lem}
use Rattle.reached.proofs.Reaching as reaching
use Rattle.reached.proofs.Complete.{names_apart, zeros}
use Rattle.reached.proofs.Refusals.{Walking, walking}

-- a turn is refused with 83: its parameter has a word
record Full (r : Reach) (ws : List ℕ) (n : ℕ) : Type 0 where
  pub index : ℕ
  pub fills : r ≡ Fills index
  pub number : n ≡ already_filled
  pub full : 0 < get_or ws index 0

-- why a turn is refused: it reaches nothing, or its parameter has a word
abbrev Halts : Reach → Argument → List ℕ → ℕ → Type 0
Halts r a ws n = ((r ≡ Nowhere) × (n ≡ unreached (kind_in a))) ⊎ Full r ws n

turn_stops : (place : ℕ) (r : Reach) (a : Argument) (ws : List ℕ) {n : ℕ} {vs : List ℕ}
    → turn place r (kind_in a) (node_in a) ws ≡ refused n vs → Halts r a ws n × (vs ≡ spanned (node_in a))
unfolding turn
turn_stops place (Fills i) a ws {n} {vs} e = go (ltb 0 (get_or ws i 0)) refl e
  where
    go : (b : Bool) → ltb 0 (get_or ws i 0) ≡ b → if' b (λ _. refused_at already_filled (node_in a)) (λ _.
        accepted (set (set ws i (node_in a).at) place i)) ≡ refused n vs
        → Halts (Fills i) a ws n × (vs ≡ spanned (node_in a))
    go true f e =
        let same : n ≡ already_filled = cc in
        let these : vs ≡ spanned (node_in a) = cc in
        (inr record { index = i; fills = refl; number = same; full = ltb-true 0 (get_or ws i 0) f }, these)
    go false f e = never (cc)
turn_stops place (Joins i) a ws e = never (cc)
turn_stops place Nowhere a ws {n} {vs} e =
    let same : n ≡ unreached (kind_in a) = cc in
    let these : vs ≡ spanned (node_in a) = cc in
    (inl (refl, same), these)

module _ (d : DefParamIndices) (fs : List FlatParam) where
  -- an argument before number j fills parameter i
  pub record FilledBy (k : ℕ) (qs : List Argument) (j i : ℕ) : Type 0 where
    pub number : ℕ
    pub argument : Argument
    pub earlier : number < j
    pub there : IsAt qs number argument
    pub fills : reaches d fs (k + number) argument ≡ Fills i

  -- parameter i was filled before argument j: at first, or by an earlier argument
  abbrev pub Before : ℕ → List ℕ → List Argument → ℕ → ℕ → Type 0
  Before k ws qs j i = (0 < get_or ws i 0) ⊎ FilledBy k qs j i

  -- 83: argument j fills a parameter that was filled before
  pub record Twice (k : ℕ) (ws : List ℕ) (qs : List Argument) (j : ℕ) (a : Argument) (n : ℕ) : Type 0 where
    pub index : ℕ
    pub fills : reaches d fs (k + j) a ≡ Fills index
    pub number : n ≡ already_filled
    pub before : Before k ws qs j index

  -- why the walk stops at argument j: it reaches nothing, or its parameter was filled before
  abbrev pub Why : ℕ → List ℕ → List Argument → ℕ → Argument → ℕ → Type 0
  Why k ws qs j a n = ((reaches d fs (k + j) a ≡ Nowhere) × (n ≡ unreached (kind_in a))) ⊎ Twice k ws qs j a n

  -- the argument at which it stops
  pub record Stopped (k : ℕ) (ws : List ℕ) (qs : List Argument) (n : ℕ) (vs : List ℕ) : Type 0 where
    pub number : ℕ
    pub argument : Argument
    pub there : IsAt qs number argument
    pub why : Why k ws qs number argument n
    pub carries : vs ≡ spanned (node_in argument)
    pub before : (j : ℕ) (b : Argument) → j < number → IsAt qs j b → reaches d fs (k + j) b ≡ Nowhere → ⊥

module _ (flat : ℕ) (d : DefParamIndices) (fs : List FlatParam)
    (small : (k : ℕ) (a : Argument) (i : ℕ) → reaches d fs k a ≡ Fills i → i < flat) where
  -- argument k, and those behind it
  module _ (k : ℕ) (ws : List ℕ) (a : Argument) (qs : List Argument) where
    next : (j : ℕ) → k + 1 + j ≡ k + suc j
    next j = omega arith

    here : k ≡ k + 0
    here = omega arith

    -- the walk stops at it
    stops_here : (n : ℕ) → Halts (reaches d fs k a) a ws n → Why d fs k ws (a ∷ qs) 0 a n
    stops_here n (inl x) = inl (rw (← here) x.0, x.1)
    stops_here n (inr x) = inr record {
      index = x.index;
      fills = rw (← here) x.fills;
      number = x.number;
      before = inl x.full;
    }

    stopped_here : (n : ℕ) (vs : List ℕ) → Halts (reaches d fs k a) a ws n → vs ≡ spanned (node_in a)
        → Stopped d fs k ws (a ∷ qs) n vs
    stopped_here n vs h v = record {
      number = 0;
      argument = a;
      there = refl;
      why = stops_here n h;
      carries = v;
      before = λ j b l at x. absurd (omega arith);
    }

    -- or goes on with the words us
    module _ (us : List ℕ) (t : turn (flat + k) (reaches d fs k a) (kind_in a) (node_in a) ws ≡ accepted us) where
      -- a word that its turn does not write was there before
      was_there : (j i : ℕ) → i < flat → 0 < get_or us i 0 → (reaches d fs k a ≡ Fills i → ⊥)
          → Before d fs k ws (a ∷ qs) (suc j) i
      was_there j i inside x m =
          let same = took_other (flat + k) a ws us (reaches d fs k a) i
          (took (flat + k) (reaches d fs k a) a ws us t) (λ z. absurd (omega arith)) m in
          inl (omega arith)

      -- a word that is there after its turn was there before, or is its own
      before_or_own : (j i : ℕ) → i < flat → 0 < get_or us i 0 → Before d fs k ws (a ∷ qs) (suc j) i
      before_or_own j i inside x = by_reach (reaches d fs k a) refl
        where
          by_index : (l : ℕ) → reaches d fs k a ≡ Fills l → (b : Bool) → eqb l i ≡ b
              → Before d fs k ws (a ∷ qs) (suc j) i
          by_index l r true m = inr record {
            number = 0;
            argument = a;
            earlier = omega arith;
            there = refl;
            fills = rw (← here) (r ∙ ap Fills (eqb-true l i m));
          }
          by_index l r false m = was_there j i inside x (λ z. let both : Fills l ≡ Fills i = sym r ∙ z in
              let same : l ≡ i = cc in eqb-false l i m same)

          by_reach : (r : Reach) → reaches d fs k a ≡ r → Before d fs k ws (a ∷ qs) (suc j) i
          by_reach (Fills l) r = by_index l r (eqb l i) refl
          by_reach (Joins l) r = was_there j i inside x
              (λ z. let both : Joins l ≡ Fills i = sym r ∙ z in never (cc))
          by_reach Nowhere r = was_there j i inside x
              (λ z. let both : Nowhere ≡ Fills i = sym r ∙ z in never (cc))

      -- what holds of those behind it, counted from it
      earlier : (j i : ℕ) → i < flat → Before d fs (k + 1) us qs j i → Before d fs k ws (a ∷ qs) (suc j) i
      earlier j i inside (inl x) = before_or_own j i inside x
      earlier j i inside (inr x) = inr record {
        number = suc x.number;
        argument = x.argument;
        earlier = omega (arith, x.earlier);
        there = x.there;
        fills = rw (next x.number) at x.fills;
      }

      later : (n j : ℕ) (b : Argument) → Why d fs (k + 1) us qs j b n → Why d fs k ws (a ∷ qs) (suc j) b n
      later n j b (inl x) = inl (rw (next j) at x.0, x.1)
      later n j b (inr x) = inr record {
        index = x.index;
        fills = rw (next j) at x.fills;
        number = x.number;
        before = earlier j x.index (small (k + 1 + j) b x.index x.fills) x.before;
      }

      -- those before the one at which it stops reach something
      passed : (m : ℕ) → ((j : ℕ) (b : Argument) → j < m → IsAt qs j b → reaches d fs (k + 1 + j) b ≡ Nowhere → ⊥)
          → (j : ℕ) (b : Argument) → j < suc m → IsAt (a ∷ qs) j b → reaches d fs (k + j) b ≡ Nowhere → ⊥
      passed m rest zero b h at x =
          let mine : reaches d fs k a ≡ Nowhere = rw (here, at) x in
          rw mine at (took (flat + k) (reaches d fs k a) a ws us t)
      passed m rest (suc j) b h at x = rest j b (omega arith) at (rw (next j) x)

      stopped_later : (n : ℕ) (vs : List ℕ) → Stopped d fs (k + 1) us qs n vs → Stopped d fs k ws (a ∷ qs) n vs
      stopped_later n vs s = record {
        number = suc s.number;
        argument = s.argument;
        there = s.there;
        why = later n s.number s.argument s.why;
        carries = s.carries;
        before = passed s.number s.before;
      }

  -- LAW: a refused walk stops at an argument, for one of the two reasons
  pub stop_at : (k : ℕ) (ws : List ℕ) (qs : List Argument) (n : ℕ) (vs : List ℕ)
      → along flat d fs k ws qs ≡ refused n vs → Stopped d fs k ws qs n vs
  unfolding along
  stop_at k ws [] n vs e = never (cc)
  stop_at k ws (a ∷ qs) n vs e = go (turn (flat + k) (reaches d fs k a) (kind_in a) (node_in a) ws) refl e
      (λ us f. stop_at (k + 1) us qs n vs f)
    where
      go : (y : Answer) → turn (flat + k) (reaches d fs k a) (kind_in a) (node_in a) ws ≡ y
          → and_with y (λ us. along flat d fs (k + 1) us qs) ≡ refused n vs
          → ((us : List ℕ) → along flat d fs (k + 1) us qs ≡ refused n vs → Stopped d fs (k + 1) us qs n vs)
          → Stopped d fs k ws (a ∷ qs) n vs
      go (refused m us) t e rest = let s = turn_stops (flat + k) (reaches d fs k a) a ws (t ∙ e) in
          stopped_here k ws a qs n vs s.0 s.1
      go (accepted us) t e rest = stopped_later k ws a qs us t n vs (rest us e)

-- a star fills nothing
pub stars : (d : DefParamIndices) (fs : List FlatParam) (k i : ℕ) (r : Node) → reaches d fs k (args r) ≡ Fills i → ⊥
unfolding reaches
stars d fs k i r e = never (cc)

pub star_stars : (d : DefParamIndices) (fs : List FlatParam) (k i : ℕ) (r : Node) → reaches d fs k (kwargs r) ≡ Fills i
    → ⊥
unfolding reaches
star_stars d fs k i r e = never (cc)

-- in an accepted call no named argument comes before a positional one
abbrev NoPositional : List Kind → Type 0
NoPositional [] = Unit {0}
NoPositional (k ∷ ks) = (k ≡ Positional → ⊥) × NoPositional ks

positional_early : (p : ℕ) (ks : List Kind) (qs : List Argument) → NoPositional ks
    → kinds_of qs ≡ replicate p Positional ++ ks → (j : ℕ) (r : Node) → IsAt qs j (positional r) → j < p
positional_early zero [] [] f e j r at = elim at [ ]
positional_early zero (k ∷ ks) [] f e j r at = elim at [ ]
positional_early (suc p) ks [] f e j r at = elim at [ ]
positional_early zero [] (q ∷ qs) f e j r at = never (cc)
positional_early zero (k ∷ ks) (q ∷ qs) f e zero r at =
    let here : kind_in q ≡ k = cc in
    absurd (f.0 (sym here ∙ ap kind_in at))
positional_early zero (k ∷ ks) (q ∷ qs) f e (suc j) r at =
    let rest : kinds_of qs ≡ ks = cc in
    absurd (omega (arith, positional_early zero ks qs f.1 rest j r at))
positional_early (suc p) ks (q ∷ qs) f e zero r at = omega arith
positional_early (suc p) ks (q ∷ qs) f e (suc j) r at =
    let rest : kinds_of qs ≡ replicate p Positional ++ ks = cc in
    omega (arith, positional_early p ks qs f rest j r at)

named_late : (p : ℕ) (ks : List Kind) (qs : List Argument) → kinds_of qs ≡ replicate p Positional ++ ks → (j : ℕ)
    (r : Node) (x : Name) → IsAt qs j (named r x) → p ≤ j
named_late (suc p) ks [] e j r x at = elim at [ ]
named_late zero ks qs e j r x at = omega arith
named_late (suc p) ks (q ∷ qs) e zero r x at =
    let here : kind_in q ≡ Positional = cc in
    let kind : Named ≡ Positional = sym (ap kind_in at) ∙ here in
    never (cc)
named_late (suc p) ks (q ∷ qs) e (suc j) r x at =
    let rest : kinds_of qs ≡ replicate p Positional ++ ks = cc in
    omega (arith, named_late p ks qs rest j r x at)

none_behind : (c : CallArgs) → NoPositional (replicate c.num_named Named
    ++ (one c.star Args ++ one c.star_star KwArgs))
none_behind c = go c.num_named
  where
    last : (s u : Option ℕ) → NoPositional (one s Args ++ one u KwArgs)
    last (Some i) (Some j) = ((λ e. never (cc)), ((λ e. never (cc)), tt))
    last (Some i) None = ((λ e. never (cc)), tt)
    last None (Some j) = ((λ e. never (cc)), tt)
    last None None = tt

    go : (n : ℕ) → NoPositional (replicate n Named ++ (one c.star Args ++ one c.star_star KwArgs))
    go zero = last c.star c.star_star
    go (suc n) = ((λ e. never (cc)), go n)

-- an accepted call is in order
pub call_ordered : (qs : List Argument) {cs : List ℕ} → outcome_answer (calling.unpack qs) ≡ accepted cs
    → (c : CallArgs) × Ordered qs c
call_ordered qs {cs} e = go (calling.unpack qs) refl e
  where
    go : (o : Outcome) → calling.unpack qs ≡ o → outcome_answer o ≡ accepted cs → (c : CallArgs) × Ordered qs c
    go (calling.unpacked c) f e = (c, unpacked_ordered qs c f)
    go (calling.refused_with n r) f e = never (cc)
    go (calling.repeated_name i r) f e = never (cc)
    go calling.internal_error f e = never (cc)

-- 82 and 83
module _ (t ns : List ℕ) (call def room : ℕ) where
  abbrev ps : List Param
  ps = list_of t ns def

  abbrev fs : List FlatParam
  fs = flats_at t ns def

  abbrev qs : List Argument
  qs = arguments_at t ns call

  from_zero : (k : ℕ) → 0 + k ≡ k
  from_zero k = omega arith

  module _ (n : ℕ) (vs : List ℕ) (w : Walking t ns call def n vs) where
    abbrev d : DefParamIndices
    d = (counted_of w.counts).indices

    abbrev flat : ℕ
    flat = (counted_of w.counts).flat

    abbrev none_yet : List ℕ
    none_yet = no_words (counted_of w.counts) qs

    pub small : (k : ℕ) (a : Argument) (i : ℕ) → reaches d fs k a ≡ Fills i → i < flat
    small = reaching.small ps w.counts w.outcome

    pub stop : Stopped d fs 0 none_yet qs n vs
    stop = stop_at flat d fs small 0 none_yet qs n vs w.stops

    -- a named argument that reaches nothing: there is no `**kwargs`
    no_kwargs_lem : (k : ℕ) (a : Argument) → reaches d fs k a ≡ Nowhere → unknown_named ≡ unreached (kind_in a)
        → (i : ℕ)
        (p : FlatParam) → IsAt fs i p → p.mode ≡ mode_kwargs → ⊥
    unfolding reaches unreached counted_of
    no_kwargs_lem k (positional r) e u i p sits m = absurd (omega arith)
    no_kwargs_lem k (args r) e u i p sits m = absurd (omega arith)
    no_kwargs_lem k (kwargs r) e u i p sits m = absurd (omega arith)
    no_kwargs_lem k (named r x) e u i p sits m = go (named_from 0 x fs) (place_of w.counts.kwargs) refl e
      where
        go : (q y : Option ℕ) → place_of w.counts.kwargs ≡ y → by_name q y ≡ Nowhere → ⊥
        go (Some j) y f e = never (cc)
        go None (Some j) f e = never (cc)
        go None None f e = (reaching.st ps w.counts w.outcome).some_kwargs i (within fs i p sits)
            (sym (mode_at_lem ps i p sits) ∙ m) f

    -- a named argument whose parameter an earlier argument has filled: that one is positional
    order : (c : CallArgs) × Ordered qs c
    order = call_ordered qs w.in_order

    pub in_turn : (j l : ℕ) (r s : Node) (x : Name) → IsAt qs j (positional r) → IsAt qs l (named s x) → j < l
    in_turn j l r s x at bt =
        let c = order.0 in
        let rest : List Kind = replicate c.num_named Named
        ++ (one c.star Args ++ one c.star_star KwArgs) in
        let a = positional_early c.num_pos rest qs (none_behind c) order.1.kinds j r at in
        let b = named_late c.num_pos rest qs order.1.kinds l s x bt in
        omega arith

    by_place_lem : (k i : ℕ) (r : Node) → reaches d fs k (positional r) ≡ Fills i → i ≡ k
    unfolding reaches
    by_place_lem k i r e = (reaching.place_filled ps w.counts w.outcome k i e).0

    by_name_lem : (k i : ℕ) (r : Node) (x : Name) → reaches d fs k (named r x) ≡ Fills i → rules.Named fs x i
    by_name_lem = reaching.named_by ps w.counts w.outcome

    -- a named argument whose parameter a positional one has filled
    named_against : (k l i : ℕ) (r s : Node) (x : Name) → IsAt qs k (named r x) → IsAt qs l (positional s)
        → reaches d fs k (named r x) ≡ Fills i → reaches d fs l (positional s) ≡ Fills i → vs ≡ spanned r
        → Against fs qs vs
    named_against k l i r s x at bt e f v = let q = by_name_lem k i r x e in record {
      number = k;
      node = r;
      name = x;
      there = at;
      carries = v;
      index = i;
      param = q.param;
      sits = q.there;
      same = q.name;
      can_be = q.can_be;
      other = s;
      first = rw (by_place_lem l i s f) bt;
    }

    -- no two named arguments fill one parameter: its name would be that of both
    not_two_named : (k l i : ℕ) (r s : Node) (x y : Name) → IsAt qs k (named r x) → IsAt qs l (named s y) → l < k
        → reaches d fs k (named r x) ≡ Fills i → reaches d fs l (named s y) ≡ Fills i → ⊥
    not_two_named k l i r s x y at bt h e f =
        let p = by_name_lem k i r x e in
        let q = by_name_lem l i s y f in
        let same : q.param ≡ p.param = same_at fs i q.param p.param q.there p.there in
        let names : y ≡ x = sym q.name ∙ ap (λ (z : FlatParam). z.name) same ∙ p.name in
        names_apart qs order.1.distinct l k s r y x h bt at names

    -- LAW: of two arguments that fill one parameter, the later is named and the earlier positional
    against : (k l i : ℕ) (a b : Argument) → IsAt qs k a → IsAt qs l b → l < k → reaches d fs k a ≡ Fills i
        → reaches d fs l b ≡ Fills i → vs ≡ spanned (node_in a) → Against fs qs vs
    against k l i (args r) b at bt h e f v = absurd (stars d fs k i r e)
    against k l i (kwargs r) b at bt h e f v = absurd (star_stars d fs k i r e)
    against k l i (positional r) (args s) at bt h e f v = absurd (stars d fs l i s f)
    against k l i (positional r) (kwargs s) at bt h e f v = absurd (star_stars d fs l i s f)
    against k l i (named r x) (args s) at bt h e f v = absurd (stars d fs l i s f)
    against k l i (named r x) (kwargs s) at bt h e f v = absurd (star_stars d fs l i s f)
    against k l i (positional r) (positional s) at bt h e f v = absurd
        (omega (arith, by_place_lem k i r e, by_place_lem l i s f))
    against k l i (positional r) (named s x) at bt h e f v = absurd (omega (arith, in_turn k l r s x at bt))
    against k l i (named r x) (positional s) at bt h e f v = named_against k l i r s x at bt e f v
    against k l i (named r x) (named s y) at bt h e f v = absurd (not_two_named k l i r s x y at bt h e f)

  -- THEOREM: with `**kwargs` 82 never arises
  pub unknown_without_kwargs : {vs : List ℕ} → bind_of t ns call def room ≡ refused unknown_named vs → (i : ℕ)
      (p : FlatParam) → IsAt fs i p → p.mode ≡ mode_kwargs → ⊥
  unknown_without_kwargs {vs} e i p sits m =
      let w = walking t ns call def room unknown_named e (omega arith) (omega arith) in
      let s = stop unknown_named vs w in
      go w s.number s.argument s.why
    where
      go : (w : Walking t ns call def unknown_named vs) (j : ℕ) (a : Argument)
          → Why (d unknown_named vs w) fs 0
          (none_yet unknown_named vs w) qs j a unknown_named → ⊥
      go w j a (inl x) = no_kwargs_lem unknown_named vs w (0 + j) a x.0 x.1 i p sits m
      go w j a (inr x) = absurd (omega (arith, x.number))

  -- THEOREM: 83 arises only against a positional argument
  pub filled_by_a_positional : {vs : List ℕ} → bind_of t ns call def room ≡ refused already_filled vs → Against fs qs vs
  unfolding unreached
  filled_by_a_positional {vs} e =
      let w = walking t ns call def room already_filled e (omega arith) (omega arith) in
      let s = stop already_filled vs w in
      go w s.number s.argument s.there s.carries s.why
    where
      other_number : (a : Argument) → already_filled ≡ unreached (kind_in a) → ⊥
      other_number (positional r) e = absurd (omega (arith, e))
      other_number (named r x) e = absurd (omega (arith, e))
      other_number (args r) e = absurd (omega (arith, e))
      other_number (kwargs r) e = absurd (omega (arith, e))

      go : (w : Walking t ns call def already_filled vs) (j : ℕ) (a : Argument) → IsAt qs j a → vs ≡ spanned (node_in a)
          → Why (d already_filled vs w) fs 0
          (none_yet already_filled vs w) qs j a already_filled → Against fs qs vs
      go w j a at v (inl x) = absurd (other_number a x.1)
      go w j a at v (inr y) = by_earlier y.before
        where
          by_earlier : Before (d already_filled vs w) fs 0
              (none_yet already_filled vs w) qs j y.index → Against fs qs vs
          by_earlier (inl x) = absurd (omega (arith, zeros (flat already_filled vs w + length qs) y.index))
          by_earlier (inr x) = against already_filled vs w j x.number y.index a x.argument at x.there
              x.earlier (rw (from_zero j) at y.fills) (rw (from_zero x.number) at x.fills) v
