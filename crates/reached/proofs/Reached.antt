-- W-204, in the user's words, for a call and a def that the job accepts:
--
--   Accepted calls use every argument once. Positionals fill positional parameters from the left, the rest go to
--   `*args`. A named one goes to the PosOrName or NameOnly parameter of that name, else to `**kwargs`; a PosOnly name
--   counts as unknown. Every ordinary parameter without default has an argument.
--
-- The job `bind::bind` promises to return `bind_of` and to leave `list_after` in the list, so each theorem is about
-- its answer and the words of the list at exit: specs/Said.antt has them by name. Assumes nothing.
use mathlib.Core.Path.{◌≡◌, refl, sym, ap, ◌∙◌}
use mathlib.Core.Bool.{Bool, true, false, not, ◌&&◌}
use mathlib.Core.Logic.{◌⊎◌, inl, inr, ◌↔◌}
use mathlib.Core.List.{List, [], ◌∷◌}
use Prim.Native.Nat.{ℕ, zero, suc, ◌+◌, ◌<◌, ◌≤◌}
use native.Mathlib.Omega.{arith}
use lib.ListN.{length, get_or, get_or-replicate}
use lib.Dec.{eqb}
use borrow.Author.Tests.{eq-eqb, eqb-true, eqb-false}
use Rattle.fields.proofs.Basics.{le_or_lt}
use Rattle.fields.specs.Choice.{if'}
use Rattle.forest.specs.Forest.{Node}
use Rattle.table.specs.Numbers.{empty_parameter, unknown_named, already_filled}
use Rattle.table.specs.Answer.{accepted, refused, refused_at}
use Rattle.table.proofs.Answers.{never_passed}
use Rattle.deflist.specs.Written.{Name, Param}
use Rattle.deflist.specs.Unpack.{mode_pos_only, mode_args, mode_kwargs, modes, unpack}
use Rattle.deflist.specs.Unpack as outcome
use Rattle.deflist.specs.declared.Counts.{Counts}
use Rattle.parameters.specs.Indices.{counted_of}
use Rattle.parameters.specs.Params.{list_of}
use Rattle.parameters.specs.declared.DefParamIndices.{DefParamIndices}
use Rattle.arguments.specs.Written.{Argument, positional, named, node_in}
use Rattle.bind.specs.FlatList.{FlatParam}
use Rattle.bind.specs.Binding.{named_from, by_place, by_name, reaches, empty_check}
use Rattle.bind.specs.Job.{arguments_at, bind_of, list_after}
use Rattle.bind.specs.declared.Reach.{Reach}
use Rattle.bind.specs.declared.Reach.TheVariants.{Fills, Joins, Nowhere}
use Rattle.reached.specs.Said.{IsAt, Ordinary, CanBeNamed, ByPlace, Starred, flats_at, parameter_word, argument_word}
use Rattle.reached.proofs.Walk.{Index, Filler, Nodes, was_empty, once, comes_from}
use Rattle.reached.proofs.Params.{within, same_at, there, mode_at_lem, name_missed, one_name}
use Rattle.reached.specs.Said.{Against}
use Rattle.reached.specs.Rules.{Rules}
use Rattle.reached.proofs.Passed as passing
use Rattle.reached.proofs.Complete.{complete}
use Rattle.reached.proofs.Stops.{unknown_without_kwargs, filled_by_a_positional}
use Rattle.reached.proofs.Reaching as reaching
use Rattle.reached.proofs.Passed.{Passed}

-- an ordinary parameter is no star
apart : {P : Type 0} (p : FlatParam) → Ordinary p → Starred p → P
apart p (inl e) (inl f) = absurd (omega arith)
apart p (inl e) (inr f) = absurd (omega arith)
apart p (inr (inl e)) (inl f) = absurd (omega arith)
apart p (inr (inl e)) (inr f) = absurd (omega arith)
apart p (inr (inr e)) (inl f) = absurd (omega arith)
apart p (inr (inr e)) (inr f) = absurd (omega arith)

-- "Given a Call node and a Def node", accepted
module _ (t names : List ℕ) (call def : ℕ) (list : List ℕ) {vs : List ℕ}
    (bound : bind_of t names call def (length list) ≡ accepted vs) where
  abbrev fs : List FlatParam
  fs = flats_at t names def

  abbrev qs : List Argument
  qs = arguments_at t names call

  pass : Passed t names call def list
  pass = passing.passed t names call def list bound

  abbrev ps : List Param
  ps = list_of t names def

  abbrev d : DefParamIndices
  d = (counted_of pass.counts).indices

  abbrev own : ℕ → ℕ
  own k = argument_word t names call def list k

  abbrev taken : ℕ → ℕ
  taken i = parameter_word t names call def list i

  -- what `pass` says, by shorter names
  abbrev c : Counts
  c = pass.counts

  ok : unpack ps ≡ outcome.accepted c
  ok = pass.outcome

  abbrev flat : ℕ
  flat = (counted_of c).flat

  abbrev none_yet : List ℕ
  none_yet = passing.none_yet t names call def list pass

  small : (k : ℕ) (a : Argument) (i : ℕ) → reaches d fs k a ≡ Fills i → i < flat
  small = reaching.small ps c ok

  nodes : Nodes qs
  nodes = passing.nodes t names call def list pass

  enough : flat + 0 + length qs ≤ length none_yet
  enough = passing.enough t names call def list pass

  word_is : (i : ℕ) → i < length fs + length qs → get_or (list_after t names call def list) i 0 ≡ get_or pass.words i 0
  word_is = passing.word_is t names call def list pass

  reached_is : (k : ℕ) (a : Argument) → IsAt qs k a → Index (reaches d fs k a) (own k)
  reached_is = passing.reached_is t names call def list pass

  -- what is reached has the index i: it is filled or joined
  abbrev Lands : Reach → ℕ → Type 0
  Lands r i = (r ≡ Fills i) ⊎ (r ≡ Joins i)

  -- an argument's word is the index of what it reaches
  lands : (k : ℕ) (a : Argument) → IsAt qs k a → Lands (reaches d fs k a) (own k)
  lands k a at = go (reaches d fs k a) refl (reached_is k a at)
    where
      go : (r : Reach) → reaches d fs k a ≡ r → Index r (own k)
          → Lands (reaches d fs k a) (own k)
      go Nowhere e w = elim w [ ]
      go (Fills i) e w = inl (e ∙ ap Fills (sym w))
      go (Joins i) e w = inr (e ∙ ap Joins (sym w))

  -- "Accepted calls use every argument once": its one word is the index of a flat parameter
  pub every_argument : (k : ℕ) (a : Argument) → IsAt qs k a → (p : FlatParam) × IsAt fs (own k) p
  every_argument k a at = go (lands k a at)
    where
      go : Lands (reaches d fs k a) (own k) → (p : FlatParam) × IsAt fs (own k) p
      go (inl e) = let s = reaching.fills_ordinary ps c ok k a (own k) e in
          (s.param, s.there)
      go (inr e) = let s = reaching.joins_starred ps c ok k a (own k) e in
          (s.param, s.there)

  -- an argument that reaches an ordinary parameter fills it
  fills : (k : ℕ) (a : Argument) (p : FlatParam) → IsAt qs k a → IsAt fs (own k) p → Ordinary p
      → reaches d fs k a ≡ Fills (own k)
  fills k a p at there o = go (lands k a at)
    where
      go : Lands (reaches d fs k a) (own k) → reaches d fs k a ≡ Fills (own k)
      go (inl e) = e
      go (inr e) =
          let s = reaching.joins_starred ps c ok k a (own k) e in
          let same : s.param ≡ p = same_at fs (own k) s.param p s.there there in
          apart p o (rw same at s.kind)

  -- the argument that a parameter takes: its number, and that it fills the parameter and is its word
  record Taker (i : ℕ) : Type 0 where
    pub number : ℕ
    pub argument : Argument
    pub there : IsAt qs number argument
    pub fills : reaches d fs number argument ≡ Fills i
    pub word : taken i ≡ (node_in argument).at

  -- a parameter whose word is not 0 has its argument
  filler : (i : ℕ) → i < length fs → (taken i ≡ 0 → ⊥) → Taker i
  filler i h n =
      let flat_is_lem = reaching.flat_is_lem ps c ok in
      let word = word_is i (omega arith) in
      go word (comes_from flat d fs small 0
      none_yet qs pass.words pass.walked
      nodes enough i (omega arith))
    where
      go : taken i ≡ get_or pass.words i 0
          → (get_or pass.words i 0 ≡ get_or none_yet i 0)
          ⊎ Filler flat d fs small 0 qs
          pass.words i
          → Taker i
      go w (inl e) =
          let flat_is_lem = reaching.flat_is_lem ps c ok in
          absurd (n (w ∙ e ∙ get_or-replicate (flat + length qs) i 0 0 (omega arith)))
      go w (inr f) =
          let zero_more : 0 + f.number ≡ f.number = omega arith in
          record {
            number = f.number;
            argument = f.argument;
            there = f.there;
            fills = rw zero_more at f.fills;
            word = w ∙ f.word;
          }

  -- an argument that fills a parameter is its word
  filled_word : (k : ℕ) (a : Argument) (i : ℕ) → IsAt qs k a → reaches d fs k a ≡ Fills i → taken i ≡ (node_in a).at
  filled_word k a i at r =
      let zero_more : k ≡ 0 + k = omega arith in
      let flat_is_lem = reaching.flat_is_lem ps c ok in
      let inside = small k a i r in
      word_is i (omega arith)
      ∙ (was_empty flat d fs small 0
      none_yet qs pass.words pass.walked
      nodes enough k a i at
      (rw zero_more at r)).1

  -- "an ordinary parameter takes at most one"
  pub at_most_one : (p : FlatParam) (k l : ℕ) (a b : Argument) → IsAt qs k a → IsAt qs l b → own k ≡ own l
      → IsAt fs (own k) p → Ordinary p → k ≡ l
  at_most_one p k l a b at bt same sits o =
      let first : 0 + k ≡ k = omega arith in
      let second : 0 + l ≡ l = omega arith in
      once flat d fs small 0
      none_yet qs pass.words pass.walked
      nodes enough k l a b (own k) at bt
      (rw first (fills k a p at sits o)) (rw (second, same) (fills l b p bt (rw same at sits) o))

  -- two arguments of one node are one
  one_node : (k l : ℕ) (a b : Argument) → IsAt qs k a → IsAt qs l b → (node_in a).at ≡ (node_in b).at → k ≡ l
  one_node k l a b at bt e = go (le_or_lt k l) (le_or_lt l k)
    where
      go : (k ≤ l) ⊎ (l < k) → (l ≤ k) ⊎ (k < l) → k ≡ l
      go (inl x) (inl y) = omega arith
      go (inr x) y = let h = (passing.rise t names call def list pass).rises l k b a x bt at in absurd (omega arith)
      go (inl x) (inr y) = let h = (passing.rise t names call def list pass).rises k l a b y at bt in
          absurd (omega arith)

  -- the argument that a parameter takes is the one of its number
  taker_reaches : (i k : ℕ) (a : Argument) (f : Taker i) → f.number ≡ k → IsAt qs k a → reaches d fs k a ≡ Fills i
  taker_reaches i k a f same at =
      let mine : IsAt qs k f.argument = rw same at f.there in
      let is : f.argument ≡ a = same_at qs k f.argument a mine at in
      rw (same, is) at f.fills

  -- "the two halves of the list agree": parameter i has argument k if and only if argument k reached i
  pub halves_agree : (i k : ℕ) (p : FlatParam) (a : Argument) → IsAt fs i p → Ordinary p → IsAt qs k a
      → (taken i ≡ (node_in a).at) ↔ (own k ≡ i)
  halves_agree i k p a sits o at = (forth, back)
    where
      forth : taken i ≡ (node_in a).at → own k ≡ i
      forth e =
          let some = nodes k a at in
          let f = filler i (within fs i p sits) (λ z. absurd (omega arith)) in
          let same : f.number ≡ k = one_node f.number k f.argument a f.there at (sym f.word ∙ e) in
          rw (taker_reaches i k a f same at) at (reached_is k a at)

      back : own k ≡ i → taken i ≡ (node_in a).at
      back e = let here : IsAt fs (own k) p = rw e sits in
          filled_word k a i at (fills k a p at here o ∙ ap Fills e)

  -- so an argument is the word of no two ordinary parameters
  pub at_one_parameter : (i j k : ℕ) (p q : FlatParam) (a : Argument) → IsAt fs i p → Ordinary p → IsAt fs j q
      → Ordinary q → IsAt qs k a → taken i ≡ (node_in a).at → taken j ≡ (node_in a).at → i ≡ j
  at_one_parameter i j k p q a ip op jq oq at e f =
      sym ((halves_agree i k p a ip op at).0 e) ∙ (halves_agree j k q a jq oq at).0 f

  -- the word of `*args` and of `**kwargs` is 0
  pub star_word : (i : ℕ) (p : FlatParam) → IsAt fs i p → Starred p → taken i ≡ 0
  star_word i p sits s = go (eqb (taken i) 0) refl
    where
      go : (b : Bool) → eqb (taken i) 0 ≡ b → taken i ≡ 0
      go true e = eqb-true (taken i) 0 e
      go false e =
          let f = filler i (within fs i p sits) (eqb-false (taken i) 0 e) in
          let x = reaching.fills_ordinary ps c ok f.number f.argument i f.fills in
          let same : x.param ≡ p = same_at fs i x.param p x.there sits in
          apart p (rw same at x.kind) s

  -- "Positional j below the positional count reaches flat j"
  pub positional_fills : (k : ℕ) (r : Node) (p : FlatParam) → IsAt qs k (positional r) → IsAt fs k p → ByPlace p
      → own k ≡ k
  unfolding reaches
  positional_fills k r p at sits b = go (lands k (positional r) at)
    where
      behind : ByPlace p → p.mode ≡ get_or (modes (list_of t names def)) k 0
          → 2 < get_or (modes (list_of t names def)) k 0 → own k ≡ k
      behind (inl x) m h = absurd (omega arith)
      behind (inr x) m h = absurd (omega arith)

      go : Lands (by_place d k) (own k) → own k ≡ k
      go (inl e) = (reaching.place_filled ps c ok k (own k) e).0
      go (inr e) =
          let past = (reaching.place_joined ps c ok k (own k) e).0 in
          let more = (reaching.st ps c ok).back k past (within fs k p sits) in
          behind b (mode_at_lem (list_of t names def) k p sits) more

  -- "later ones `*args`"
  pub positional_collected : (k : ℕ) (r : Node) (p : FlatParam) → IsAt qs k (positional r)
      → ((q : FlatParam) → IsAt fs k q → ByPlace q → ⊥) → IsAt fs (own k) p → p.mode ≡ mode_args
  unfolding reaches
  positional_collected k r p at none sits = go (lands k (positional r) at)
    where
      go : Lands (by_place d k) (own k) → p.mode ≡ mode_args
      go (inl e) =
          let below = (reaching.place_filled ps c ok k (own k) e).1 in
          let s = reaching.front_sits ps c ok k below in
          absurd (none s.param s.there s.kind)
      go (inr e) =
          let s = reaching.args_sits ps c ok (own k)
          (reaching.place_joined ps c ok k (own k) e).1 in
          let same : s.param ≡ p = same_at fs (own k) s.param p s.there sits in
          rw same at s.kind

  -- a parameter that an argument called x reaches: it can be named and has that name, or it is `**kwargs` and none has
  abbrev pub ByItsName : Name → FlatParam → Type 0
  ByItsName x p = (CanBeNamed p × (p.name ≡ x))
      ⊎ ((p.mode ≡ mode_kwargs) × ((i : ℕ) (q : FlatParam) → IsAt fs i q → CanBeNamed q → q.name ≡ x → ⊥))

  -- "A named one reaches the PosOrName or NameOnly parameter whose name has equal bytes, or `**kwargs` if and only if
  -- none has"
  pub named_reaches : (k : ℕ) (r : Node) (x : Name) (p : FlatParam) → IsAt qs k (named r x) → IsAt fs (own k) p
      → ByItsName x p
  unfolding reaches
  named_reaches k r x p at sits = go (lands k (named r x) at)
    where
      go : Lands (by_name (named_from 0 x fs) d.kwargs) (own k)
          → ByItsName x p
      go (inl e) =
          let f = reaching.named_sits ps c ok x (own k)
          (reaching.name_filled ps c ok (named_from 0 x fs) (own k) e) in
          let same : f.param ≡ p = same_at fs (own k) f.param p f.there sits in
          inl (rw same at f.can_be, rw same at f.name)
      go (inr e) =
          let j = reaching.name_joined ps c ok (named_from 0 x fs) (own k) e in
          let s = reaching.kwargs_sits ps c ok (own k) j.1 in
          let same : s.param ≡ p = same_at fs (own k) s.param p s.there sits in
          inr (rw same at s.kind, λ i q iq c n. name_missed fs x 0 j.0 i q iq c n)

  -- and that parameter is the only one of the name
  pub named_reaches_it : (k i : ℕ) (r : Node) (x : Name) (p : FlatParam) → IsAt qs k (named r x) → IsAt fs i p
      → CanBeNamed p → p.name ≡ x → own k ≡ i
  named_reaches_it k i r x p at sits can n =
      let q = every_argument k (named r x) at in
      go q.0 q.1 (named_reaches k r x q.0 at q.1)
    where
      go : (q : FlatParam) → IsAt fs (own k) q → ByItsName x q → own k ≡ i
      go q there (inl (d, m)) = one_name ps c ok (own k) i q p there sits (m ∙ sym n)
      go q there (inr (m, none)) = absurd (none i p sits can n)

  -- "No argument reaches a PosOnly parameter by name": what keeps the two lists from being exchanged
  pub no_name_reaches_pos_only : (k : ℕ) (r : Node) (x : Name) (p : FlatParam) → IsAt qs k (named r x)
      → IsAt fs (own k) p → p.mode ≡ mode_pos_only → ⊥
  no_name_reaches_pos_only k r x p at sits m = go (named_reaches k r x p at sits)
    where
      go : ByItsName x p → ⊥
      go (inl (inl e, n)) = absurd (omega arith)
      go (inl (inr e, n)) = absurd (omega arith)
      go (inr (e, n)) = absurd (omega arith)

  -- none is left empty that may not be
  never_empty : (k : ℕ) (l : List FlatParam) (us : List ℕ) {ws : List ℕ} → empty_check k l us ≡ accepted ws → (i : ℕ)
      (p : FlatParam) → IsAt l i p → p.default ≡ false → get_or us (k + i) 0 ≡ 0 → ⊥
  unfolding empty_check
  never_empty k [] us {ws = ws} e i p sits n z = elim sits [ ]
  never_empty k (q ∷ l) us e zero p sits n z =
      let here : k + 0 ≡ k = omega arith in
      let test : (not q.default && eqb (get_or us k 0) 0) ≡ true = rw (
        ap (λ (x : FlatParam). x.default) sits ∙ n,
        eq-eqb (get_or us k 0) 0 (rw here at z),
      ) refl in
      never_passed (rw test at e)
  never_empty k (q ∷ l) us e (suc i) p sits n z = go (not q.default && eqb (get_or us k 0) 0) e
      (λ f. let next : k + suc i ≡ k + 1 + i = omega arith in never_empty (k + 1) l us f i p sits n (rw next at z))
    where
      go : {ws : List ℕ} (b : Bool) → if' b (λ _. refused_at empty_parameter q.node) (λ _. empty_check (k + 1) l us)
          ≡ accepted ws → (empty_check (k + 1) l us ≡ accepted ws → ⊥) → ⊥
      go true e rest = never_passed e
      go false e rest = rest e

  -- "every one without default has an argument"
  pub needed_has_argument : (i : ℕ) (p : FlatParam) → IsAt fs i p → p.default ≡ false
      → (k : ℕ) × ((a : Argument) × (IsAt qs k a × ((own k ≡ i) × (taken i ≡ (node_in a).at))))
  needed_has_argument i p sits n =
      let word = word_is i (omega (arith, within fs i p sits)) in
      let zero_more : 0 + i ≡ i = omega arith in
      let f = filler i (within fs i p sits)
      (λ z. never_empty 0 fs pass.words pass.no_empty i p sits n (rw zero_more (sym word ∙ z))) in
      let w = reached_is f.number f.argument f.there in
      (f.number, (f.argument, (f.there, (rw f.fills at w, f.word))))

  -- "Every ordinary parameter with word 0 has a default"
  pub empty_has_default : (i : ℕ) (p : FlatParam) → IsAt fs i p → taken i ≡ 0 → p.default ≡ true
  empty_has_default i p sits z = go p.default refl
    where
      go : (b : Bool) → p.default ≡ b → b ≡ true
      go true e = refl
      go false e =
          let f = needed_has_argument i p sits e in
          let some = nodes f.0 f.1.0 f.1.1.0 in
          absurd (omega (arith, f.1.1.1.1))

-- "with `**kwargs` 82 never arises"
pub no_unknown_with_kwargs : (t names : List ℕ) (call def room : ℕ) {vs : List ℕ}
    → bind_of t names call def room ≡ refused unknown_named vs → (i : ℕ) (p : FlatParam)
    → IsAt (flats_at t names def) i p
    → p.mode ≡ mode_kwargs → ⊥
no_unknown_with_kwargs = unknown_without_kwargs

-- "83 arises only against a positional"
pub filled_against_positional : (t names : List ℕ) (call def room : ℕ) {vs : List ℕ}
    → bind_of t names call def room ≡ refused already_filled vs
    → Against (flats_at t names def) (arguments_at t names call) vs
filled_against_positional = filled_by_a_positional

-- "a call and a def that meet the rules (stated without the job) are accepted"
pub accepted_by_rules : (t names : List ℕ) (call def : ℕ) (list : List ℕ) → Rules t names call def (length list)
    → bind_of t names call def (length list)
    ≡ accepted (length (flats_at t names def) ∷ length (arguments_at t names call) ∷ [])
accepted_by_rules = complete
