-- A call and a def that the job accepts meet the rules, stated without the job: the other direction of
-- `accepted_by_rules`. The entry gives the table, the two nodes and the room; the def's list has its cut and the call's
-- arguments are in order, because their own rules accept them; and each argument reaches something, which is a
-- parameter at its place, of its name, or a star (`Matching`). So there is no star among the arguments. Assumes
-- nothing.
use mathlib.Core.Path.{◌≡◌, refl, sym, ap, ◌∙◌}
use mathlib.Core.Bool.{false}
use mathlib.Core.Logic.{◌⊎◌, inl, inr}
use mathlib.Core.List.{List}
use Prim.Native.Nat.{ℕ}
use native.Mathlib.Omega.{arith}
use lib.ListN.{length}
use Rattle.fields.proofs.Basics.{never}
use Rattle.forest.specs.Forest.{Node}
use Rattle.table.specs.Answer.{accepted}
use Rattle.deflist.specs.Written.{Name, Param}
use Rattle.deflist.specs.Unpack.{mode_args, mode_kwargs}
use Rattle.deflist.specs.declared.Counts.{Counts}
use Rattle.parameters.specs.Indices.{counted_of}
use Rattle.parameters.specs.Params.{list_of}
use Rattle.parameters.specs.declared.DefParamIndices.{DefParamIndices}
use Rattle.demand3.proofs.Cuts.{accepted_cut}
use Rattle.arguments.specs.Written.{Argument, positional, named, args, kwargs, node_in}
use Rattle.bind.specs.FlatList.{FlatParam}
use Rattle.bind.specs.Binding.{named_from, reaches}
use Rattle.bind.specs.Job.{arguments_at, bind_of}
use Rattle.bind.specs.declared.Reach.{Reach}
use Rattle.bind.specs.declared.Reach.TheVariants.{Fills, Joins, Nowhere}
use Rattle.reached.specs.Said.{IsAt, flats_at, parameter_word, argument_word}
use Rattle.reached.specs.Rules.{Named, Star, Placed, Rules}
use Rattle.reached.proofs.Walk.{Index}
use Rattle.reached.proofs.Params.{moved, same_at}
use Rattle.reached.proofs.Passed as passing
use Rattle.reached.proofs.Passed.{Passed}
use Rattle.reached.proofs.Reaching as reaching
use Rattle.reached.proofs.Reaching.{HasArgument}
use Rattle.reached.proofs.Stops.{call_ordered}
use Rattle.reached.proofs.Reached as theorem

module _ (t names : List ℕ) (call def : ℕ) (list : List ℕ) {vs : List ℕ}
    (bound : bind_of t names call def (length list) ≡ accepted vs) where
  abbrev fs : List FlatParam
  fs = flats_at t names def

  abbrev qs : List Argument
  qs = arguments_at t names call

  abbrev ps : List Param
  ps = list_of t names def

  pass : Passed t names call def list
  pass = passing.passed t names call def list bound

  abbrev c : Counts
  c = pass.counts

  abbrev d : DefParamIndices
  d = (counted_of c).indices

  abbrev own : ℕ → ℕ
  own k = argument_word t names call def list k

  abbrev taken : ℕ → ℕ
  taken i = parameter_word t names call def list i

  word : (k : ℕ) (a : Argument) → IsAt qs k a → Index (reaches d fs k a) (own k)
  word = passing.reached_is t names call def list pass

  -- "80 at the first star or `**` of the call": so an accepted call has none
  pub no_star_lem : (k : ℕ) (r : Node) → IsAt qs k (args r) → ⊥
  unfolding reaches
  no_star_lem k r at = word k (args r) at

  pub no_star_star : (k : ℕ) (r : Node) → IsAt qs k (kwargs r) → ⊥
  unfolding reaches
  no_star_star k r at = word k (kwargs r) at

  -- a parameter at its place, or `*args`
  places : (k : ℕ) (r : Node) → IsAt qs k (positional r) → Placed fs k ⊎ Star fs mode_args
  unfolding reaches
  places k r at = go (reaches d fs k (positional r)) refl (word k (positional r) at)
    where
      go : (x : Reach) → reaches d fs k (positional r) ≡ x → Index x (own k) → Placed fs k ⊎ Star fs mode_args
      go Nowhere e w = elim w [ ]
      go (Fills i) e w = inl (reaching.placed_by ps c pass.outcome k i r e).1
      go (Joins i) e w =
          let s = reaching.args_sits ps c pass.outcome i (reaching.place_joined ps c pass.outcome k i e).1 in
          inr record { index = i; param = s.param; there = s.there; is = s.kind }

  -- a parameter of its name, or `**kwargs`
  by_name : (k : ℕ) (r : Node) (x : Name) → IsAt qs k (named r x) → ((i : ℕ) × Named fs x i) ⊎ Star fs mode_kwargs
  unfolding reaches
  by_name k r x at = go (reaches d fs k (named r x)) refl (word k (named r x) at)
    where
      go : (y : Reach) → reaches d fs k (named r x) ≡ y → Index y (own k)
          → ((i : ℕ) × Named fs x i) ⊎ Star fs mode_kwargs
      go Nowhere e w = elim w [ ]
      go (Fills i) e w = inl (i, reaching.named_by ps c pass.outcome k i r x e)
      go (Joins i) e w =
          let j = reaching.name_joined ps c pass.outcome (named_from 0 x fs) i e in
          let s = reaching.kwargs_sits ps c pass.outcome i j.1 in
          inr record { index = i; param = s.param; there = s.there; is = s.kind }

  -- none for two: both would reach it
  not_twice : (k : ℕ) (r s : Node) (x : Name) (i : ℕ) → IsAt qs k (named r x) → Named fs x i
      → IsAt qs i (positional s) → Placed fs i → ⊥
  not_twice k r s x i at n st p =
      let first : own k ≡ i = theorem.named_reaches_it t names call def list bound k i r x n.param at n.there
      n.can_be n.name in
      let second : own i ≡ i = theorem.positional_fills t names call def list bound i s p.param st p.there
      p.by_place in
      let sits : IsAt fs (own k) n.param = rw first n.there in
      let one : k ≡ i = theorem.at_most_one t names call def list bound n.param k i (named r x) (positional s) at st
      (first ∙ sym second) sits (inr n.can_be) in
      let same : named r x ≡ positional s = same_at qs i (named r x) (positional s) (rw one at at) st in
      never (cc)

  -- a star's word is 0, and an argument's node is not
  no_star_word : (i : ℕ) (p q : FlatParam) → IsAt fs i p → IsAt fs i q → (q.mode ≡ mode_args) ⊎ (q.mode ≡ mode_kwargs)
      → (k : ℕ) (a : Argument) → IsAt qs k a → taken i ≡ (node_in a).at → ⊥
  no_star_word i p q sits there s k a at e =
      let zero = theorem.star_word t names call def list bound i q there s in
      let some = passing.nodes t names call def list pass k a at in
      absurd (omega arith)

  -- an argument for each parameter without default: the one that its word names reaches it, and no star does
  needed : (i : ℕ) (p : FlatParam) → IsAt fs i p → p.default ≡ false → HasArgument qs i p
  needed i p sits n = go (theorem.needed_has_argument t names call def list bound i p sits n)
    where
      by_reach : (k : ℕ) (a : Argument) → IsAt qs k a → own k ≡ i → taken i ≡ (node_in a).at → (y : Reach)
          → reaches d fs k a ≡ y → Index y (own k) → HasArgument qs i p
      by_reach k a at o e Nowhere f w = elim w [ ]
      by_reach k a at o e (Fills j) f w =
          reaching.has_argument ps c pass.outcome qs k a i p at (f ∙ ap Fills (sym w ∙ o)) sits
      by_reach k a at o e (Joins j) f w =
          let s = reaching.joins_starred ps c pass.outcome k a j f in
          let there = moved fs j i s.param (sym w ∙ o) s.there in
          absurd (no_star_word i p s.param sits there s.kind k a at e)

      go : (k : ℕ) × ((a : Argument) × (IsAt qs k a × ((own k ≡ i) × (taken i ≡ (node_in a).at)))) → HasArgument qs i p
      go (k, (a, (at, (o, e)))) = by_reach k a at o e (reaches d fs k a) refl (word k a at)

  -- "a call and a def that are accepted meet the rules (stated without the job)"
  pub accepted_has_rules : Rules t names call def (length list)
  accepted_has_rules =
      let w = accepted_cut ps pass.outcome in
      record {
        sound = pass.entry.sound;
        is_acall = pass.entry.call_fits;
        is_adef = pass.entry.is_adef;
        room = pass.entry.room;
        short = pass.short;
        cut = (w.0, record { joins = w.1; good = w.2 });
        order = call_ordered qs pass.in_order;
        matching = record {
          no_args = no_star_lem;
          no_kwargs = no_star_star;
          places = places;
          names = by_name;
          not_twice = not_twice;
          needed = needed;
        };
      }
