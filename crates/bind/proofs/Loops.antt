-- The loops of the binding. Each keeps that the rest decides: what the definition gives for the records that are left,
-- with what is written so far, is what it gives for the whole list. Each is a record with laws for start, on and end:
-- counting arguments (`args_counted`), the search for a star, 80 (`Starring`), the search by name (`Finding`), the
-- search for an empty parameter, 84 (`Emptying`), the arguments in turn, 81 to 83 (`Turning`), and the words copied to
-- the list or cleared (`Laying`, `Clearing`). What a loop does not read (names, index or state) its record leaves open.
-- Assumes nothing.
use Rattle.std.specs.Prelude.{Err, None, Ok, Result, Some}
use mathlib.Core.Path.{◌≡◌, refl, sym, ap, ◌∙◌}
use mathlib.Core.Bool.{Bool, true, false, ◌&&◌}
use mathlib.Core.List.{List, []}
use Prim.Native.Nat.{ℕ, ◌+◌, ◌*◌, ◌/◌, ◌<◌, ◌≤◌}
use native.Mathlib.Omega.{arith}
use lib.ListN.{length, get_or, set, length-set}
use Rattle.fields.proofs.Basics.{never}
use lib.Dec.{ltb}
use Rattle.fields.specs.Choice.{if'}
use Rattle.forest.specs.Forest.{Node, node_of, span_of, rest_of, forest}
use Rattle.forest.proofs.Stretch.{length_rest}
use Rattle.forest.proofs.Drained.{drained, there_left, rest_left}
use Rattle.forest.specs.Nodes.{NextNode}
use Rattle.forest.specs.declared.Nodes.{Nodes}
use Rattle.std.specs.Iterator.{Drains}
use denote.Ref.{Bor}
use Rattle.forest.specs.Names.{name_of, same}
use Rattle.table.specs.Numbers.{star_argument, already_filled, empty_parameter}
use Rattle.table.specs.Answer.{Answer, accepted, refused_at, refusal}
use Rattle.table.specs.declared.Refusal.{Refusal}
use Rattle.deflist.specs.Written.{kind_in, param_of, params_in}
use Rattle.deflist.specs.Unpack.{flat_at, first_state, next_state}
use Rattle.deflist.specs.Reading.{is_listed, kind_here}
use Rattle.deflist.specs.declared.Kind.{Kind}
use Rattle.deflist.specs.declared.Kind.TheVariants.{Normal, NoArgs, Slash, Args, KwArgs}
use Rattle.deflist.specs.declared.State.{State}
use Rattle.deflist.proofs.Reading.{node_in_lem, kind_in_lem, listed_long, list_next, list_end}
use Rattle.parameters.specs.declared.DefParamIndices.{DefParamIndices}
use Rattle.arguments.specs.Written as call
use Rattle.arguments.specs.declared.Kind.{Kind as Form}
use Rattle.arguments.specs.Written.{arguments_in, argument_of}
use Rattle.bind.specs.FlatList.{name_in, flats_from}
use Rattle.bind.specs.Binding.{named_from, reaches, turn, and_with, along, is_star, star_check, empty_check}
use Rattle.bind.specs.Reading.{nameable, flats_of, is_empty, flats_in, stored}
use Rattle.bind.specs.declared.Reach.{Reach}
use Rattle.bind.specs.declared.Reach.TheVariants.{Fills, Joins, Nowhere}
use Rattle.bind.proofs.Lists.{args_end, args_next, arg_node, arg_kind, name_test, named_one, empty_one}

-- a walk gives as many nodes as there are arguments, whatever the names and the index
pub args_counted : (ns : List ℕ) (i : ℕ) (xs : List (ℕ × Bor (List ℕ))) (s : Nodes) → Drains NextNode s xs
    → length xs ≡ length (arguments_in ns (forest i s.left.now))
args_counted ns i xs s given =
    drained NextNode (λ (j : ℕ) (u : Nodes). length (arguments_in ns (forest j u.left.now)))
    (λ j u v short. ap length (args_end ns j u.left.now short))
    (λ j u x v on.
    (j + span_of u.left.now / 24, ap length (args_next ns j u.left.now (there_left on) refl (rest_left on))))
    xs i s given

-- 80: the node at comes next
pub record Starring (args : List ℕ) (first : ℕ) (left : List ℕ) (at : ℕ) : Type 0 where
  pub room : 24 * at + length left ≤ 24 * first + length args
  pub same : (ns : List ℕ) → star_check (arguments_in ns (forest at left))
      ≡ star_check (arguments_in ns (forest first args))

pub star_start : (args : List ℕ) (first : ℕ) → Starring args first args first
star_start args first = record { room = omega arith; same = λ ns. refl }

module _ {args : List ℕ} {first : ℕ} {left : List ℕ} {at : ℕ} (s : Starring args first left at) where
  pub star_end : length left < 24 → (ns : List ℕ) → accepted [] ≡ star_check (arguments_in ns (forest first args))
  unfolding star_check
  star_end h ns = rw (args_end ns at left h) at (s.same ns)

  module _ (big : 24 ≤ length left) {b : Bool} (b_is : b ≡ is_star (call.kind_at (node_of 0 left).kind)) where
    star_one : (ns : List ℕ) {next : ℕ} {after : List ℕ} → next ≡ at + span_of left / 24 → after ≡ rest_of left
        → star_check (arguments_in ns (forest at left))
        ≡ if' b (λ _. refused_at star_argument (node_of at left)) (λ _.
        star_check (arguments_in ns (forest next after)))
    unfolding star_check
    star_one ns next-is after-is =
        rw (args_next ns at left big next-is after-is, arg_node ns at left, arg_kind ns at left, ← b_is) refl

    pub star_here : b ≡ true → {a : Answer} → a ≡ refused_at star_argument (node_of at left)
        → (ns : List ℕ) → a ≡ star_check (arguments_in ns (forest first args))
    star_here h a-is ns =
        let here : star_check (arguments_in ns (forest at left))
        ≡ refused_at star_argument (node_of at left) = star_one ns refl refl ∙ rw h refl in
        a-is ∙ sym here ∙ s.same ns

    pub star_on : b ≡ false → {next : ℕ} {after : List ℕ} → next ≡ at + span_of left / 24 → after ≡ rest_of left
        → Starring args first after next
    star_on h {next} {after} next-is after-is = record {
      room = omega (arith, s.room, next-is, ap length after-is, length_rest left);
      same = λ ns.
          let on : star_check (arguments_in ns (forest at left)) ≡ star_check (arguments_in ns (forest next after)) =
          star_one ns next-is after-is ∙ rw h refl in
          sym on ∙ s.same ns;
    }

-- the search by name: f flat parameters are passed, whatever the index
pub record Finding (ns x params : List ℕ) (s₀ : State) (left : List ℕ) (s : State) (f : ℕ) : Type 0 where
  pub room : 24 * f + length left ≤ length params
  pub from : ℕ → ℕ
  pub same : (i : ℕ) → named_from f x (flats_from s (params_in ns (forest (from i) left)))
      ≡ named_from 0 x (flats_from s₀ (params_in ns (forest i params)))

pub find_start : (ns x params : List ℕ) (s : State) → Finding ns x params s params s 0
find_start ns x params s = record { room = omega arith; from = λ i. i; same = λ i. refl }

flats_one : (k : Kind) → flats_of k ≤ 1
flats_one (Normal d) = omega arith
flats_one NoArgs = omega arith
flats_one Slash = omega arith
flats_one Args = omega arith
flats_one KwArgs = omega arith

module _ {ns x params : List ℕ} {s₀ : State} {left : List ℕ} {s : State} {f : ℕ}
    (y : Finding ns x params s₀ left s f) where
  pub find_end : (only : ℕ) → s₀ ≡ first_state (flat_at only) → is_listed left ≡ false → (i : ℕ)
      → None ≡ named_from 0 x (flats_in only ns i params)
  unfolding named_from flats_from flats_in
  find_end only s-is none i = rw (← s-is) (rw (list_end ns (y.from i) left none) at (y.same i))

  module _ (listed : is_listed left ≡ true) {k : Kind} (k_is : k ≡ kind_here left) {b : Bool}
      (b_is : b ≡ (nameable s k && same (name_of ns (node_of 0 left)) x)) where
    find_one : (i : ℕ) {after : List ℕ} → after ≡ rest_of left
        → named_from f x (flats_from s (params_in ns (forest (y.from i) left)))
        ≡ if' b (λ _. Some f) (λ _. named_from (f + flats_of k) x (flats_from (next_state s k)
        (params_in ns (forest (y.from i + span_of left / 24) after))))
    unfolding flats_from
    find_one i after-is =
        let kind : kind_in (param_of ns (node_of (y.from i) left)) ≡ k = kind_in_lem ns (y.from i) left ∙ sym k_is in
        let test : (nameable s k && same (name_in (param_of ns (node_of (y.from i) left))) x) ≡ b =
        rw (kind, ← k_is) at (name_test ns (y.from i) left s x) ∙ sym b_is in
        rw (list_next ns (y.from i) left listed refl after-is)
        (named_one f x s (param_of ns (node_of (y.from i) left)) _ ∙ rw (kind, test) refl)

    pub find_here : (only : ℕ) → s₀ ≡ first_state (flat_at only) → b ≡ true → (i : ℕ)
        → Some f ≡ named_from 0 x (flats_in only ns i params)
    unfolding flats_in
    find_here only s-is h i =
        let here : named_from f x (flats_from s (params_in ns (forest (y.from i) left))) ≡ Some f =
        find_one i refl ∙ rw h refl in
        rw (← s-is) (sym here ∙ y.same i)

    pub find_on : b ≡ false → {g : ℕ} {u : State} {after : List ℕ} → g ≡ flats_of k → u ≡ next_state s k
        → after ≡ rest_of left → Finding ns x params s₀ after u (f + g)
    find_on h {g} {u} {after} g-is u-is after-is = record {
      room = omega (arith, y.room, g-is, flats_one k, ap length after-is, length_rest left, listed_long left listed);
      from = λ i. y.from i + span_of left / 24;
      same = λ i.
          let on : named_from f x (flats_from s (params_in ns (forest (y.from i) left)))
          ≡ named_from (f + flats_of k) x (flats_from (next_state s k)
          (params_in ns (forest (y.from i + span_of left / 24) after))) = find_one i after-is ∙ rw h refl in
          rw (g-is, u-is) (sym on ∙ y.same i);
    }

-- 84: f flat parameters are passed, whatever the names and the state, and the node at comes next
pub record Emptying (params : List ℕ) (first : ℕ) (ws left : List ℕ) (at f : ℕ) : Type 0 where
  pub room : 24 * at + length left ≤ 24 * first + length params
  pub few : f ≤ at
  pub from : State → State
  pub same : (ns : List ℕ) (s : State) → empty_check f (flats_from (from s) (params_in ns (forest at left))) ws
      ≡ empty_check 0 (flats_from s (params_in ns (forest first params))) ws

pub empty_start : (params : List ℕ) (first : ℕ) (ws : List ℕ) → Emptying params first ws params first 0
empty_start params first ws = record { room = omega arith; few = omega arith; from = λ s. s; same = λ ns s. refl }

pub find_room : {ns x params : List ℕ} {s₀ : State} {left : List ℕ} {s : State} {f : ℕ}
    → Finding ns x params s₀ left s f → 24 * f ≤ length params
find_room y = omega (arith, y.room)

pub empty_room : {params : List ℕ} {first : ℕ} {ws left : List ℕ} {at f : ℕ} → Emptying params first ws left at f
    → 24 * f ≤ 24 * first + length params
empty_room y = omega (arith, y.room, y.few)

module _ {params : List ℕ} {first : ℕ} {ws left : List ℕ} {at f : ℕ} (y : Emptying params first ws left at f) where
  pub empty_end : is_listed left ≡ false → (ns : List ℕ) (s : State)
      → accepted [] ≡ empty_check 0 (flats_from s (params_in ns (forest first params))) ws
  unfolding empty_check flats_from
  empty_end none ns s = rw (list_end ns at left none) at (y.same ns s)

  module _ (listed : is_listed left ≡ true) {k : Kind} (k_is : k ≡ kind_here left) {w : ℕ} (w-is : w ≡ get_or ws f 0)
      {b : Bool} (b_is : b ≡ is_empty k w) where
    empty_here_is : (ns : List ℕ) (s : State) {next : ℕ} {after : List ℕ} → next ≡ at + span_of left / 24
        → after ≡ rest_of left
        → empty_check f (flats_from (y.from s) (params_in ns (forest at left))) ws
        ≡ if' b (λ _. refused_at empty_parameter (node_of at left)) (λ _.
        empty_check (f + flats_of k) (flats_from (next_state (y.from s) k) (params_in ns (forest next after))) ws)
    unfolding flats_from
    empty_here_is ns s next-is after-is =
        let kind : kind_in (param_of ns (node_of at left)) ≡ k = kind_in_lem ns at left ∙ sym k_is in
        let test : is_empty k (get_or ws f 0) ≡ b = rw w-is at (sym b_is) in
        rw (list_next ns at left listed next-is after-is)
        (empty_one f (y.from s) (param_of ns (node_of at left)) _ ws
        ∙ rw (kind, test, node_in_lem ns (node_of at left)) refl)

    pub empty_here : b ≡ true → {a : Answer} → a ≡ refused_at empty_parameter (node_of at left)
        → (ns : List ℕ) (s : State) → a ≡ empty_check 0 (flats_from s (params_in ns (forest first params))) ws
    empty_here h a-is ns s =
        let here : empty_check f (flats_from (y.from s) (params_in ns (forest at left))) ws
        ≡ refused_at empty_parameter (node_of at left) = empty_here_is ns s refl refl ∙ rw h refl in
        a-is ∙ sym here ∙ y.same ns s

    pub empty_on : b ≡ false → {g next : ℕ} {after : List ℕ} → g ≡ flats_of k → next ≡ at + span_of left / 24
        → after ≡ rest_of left → Emptying params first ws after next (f + g)
    empty_on h {g} {next} {after} g-is next-is after-is =
        let less = length_rest left in
        let long = listed_long left listed in
        record {
          room = omega (arith, y.room, next-is, ap length after-is, less);
          few = omega (arith, y.few, g-is, flats_one k, next-is, long);
          from = λ s. next_state (y.from s) k;
          same = λ ns s.
              let on : empty_check f (flats_from (y.from s) (params_in ns (forest at left))) ws
              ≡ empty_check (f + flats_of k) (flats_from (next_state (y.from s) k) (params_in ns (forest next after)))
              ws = empty_here_is ns s next-is after-is ∙ rw h refl in
              rw g-is (sym on ∙ y.same ns s);
        }

-- the arguments in turn: k are read, and the node at comes next
pub record Turning (ns params args : List ℕ) (first flat : ℕ) (d : DefParamIndices) (ws₀ ws left : List ℕ) (at k : ℕ)
    : Type 0 where
  pub room : 24 * at + length left ≤ 24 * first + length args
  pub few : first + k ≤ at
  pub long : length ws ≡ length ws₀
  pub same : (i : ℕ) → along flat d (flats_in d.num_positional_only ns i params) k ws
      (arguments_in ns (forest at left))
      ≡ along flat d (flats_in d.num_positional_only ns i params) 0 ws₀ (arguments_in ns (forest first args))

pub turn_start : (ns params args : List ℕ) (first : ℕ) (flat : ℕ) (d : DefParamIndices) (ws : List ℕ)
    → Turning ns params args first flat d ws ws args first 0
turn_start ns params args first flat d ws = record {
  room = omega arith;
  few = omega arith;
  long = refl;
  same = λ i. refl;
}

-- a turn keeps the number of words
turn_long : (place : ℕ) (r : Reach) (k : Form) (n : Node) (ws vs : List ℕ) → accepted vs ≡ turn place r k n ws
    → length vs ≡ length ws
unfolding turn
turn_long place (Fills i) k n ws vs e = go (ltb 0 (get_or ws i 0)) e
  where
    go : (b : Bool) → accepted vs ≡ if' b (λ _. refused_at already_filled n) (λ _.
        accepted (set (set ws i n.at) place i)) → length vs ≡ length ws
    go true e = never (cc)
    go false e = let same : vs ≡ set (set ws i n.at) place i = cc in
        ap length same ∙ length-set (set ws i n.at) place i ∙ length-set ws i n.at
turn_long place (Joins i) k n ws vs e = let same : vs ≡ set ws place i = cc in ap length same ∙ length-set ws place i
turn_long place Nowhere k n ws vs e = never (cc)

module _ {ns params args : List ℕ} {first : ℕ} {flat : ℕ} {d : DefParamIndices} {ws₀ ws left : List ℕ} {at k : ℕ}
    (y : Turning ns params args first flat d ws₀ ws left at k) where
  pub turn_end : length left < 24 → (i : ℕ) → stored (Ok tt) ws
      ≡ along flat d (flats_in d.num_positional_only ns i params) 0 ws₀ (arguments_in ns (forest first args))
  unfolding along stored
  turn_end h i = rw (args_end ns at left h) at (y.same i)

  module _ (big : 24 ≤ length left) {r : Reach} (r-is : (i j : ℕ)
      → r ≡ reaches d (flats_in d.num_positional_only ns i params) k
      (argument_of ns (node_of j left)))
      (x : Result (Unit {0}) Refusal) (vs : List ℕ) (x-is : stored x vs
      ≡ turn (flat + k) r (call.kind_at (node_of 0 left).kind) (node_of at left) ws) where
    turn_one : (i : ℕ) {next : ℕ} {after : List ℕ} → next ≡ at + span_of left / 24 → after ≡ rest_of left
        → along flat d (flats_in d.num_positional_only ns i params) k ws (arguments_in ns (forest at left))
        ≡ and_with (stored x vs) (λ us. along flat d (flats_in d.num_positional_only ns i params) (k + 1) us
        (arguments_in ns (forest next after)))
    unfolding along
    turn_one i next-is after-is = rw (
      args_next ns at left big next-is after-is,
      arg_node ns at left,
      arg_kind ns at left,
      ← (r-is i at),
      ← x-is,
    ) refl

    pub turn_refused : {why : Refusal} → x ≡ Err why → (i : ℕ) → stored (Err why) vs
        ≡ along flat d (flats_in d.num_positional_only ns i params) 0 ws₀
        (arguments_in ns (forest first args))
    unfolding stored
    turn_refused {why} h i =
        let here : along flat d (flats_in d.num_positional_only ns i params) k ws
        (arguments_in ns (forest at left)) ≡ refusal why = turn_one i refl refl ∙ rw h refl in
        sym here ∙ y.same i

    pub turn_on : x ≡ Ok tt → {next : ℕ} {after : List ℕ} → next ≡ at + span_of left / 24 → after ≡ rest_of left
        → Turning ns params args first flat d ws₀ vs after next (k + 1)
    unfolding stored
    turn_on h {next} {after} next-is after-is = record {
      room = omega (arith, y.room, next-is, ap length after-is, length_rest left);
      few = omega (arith, big, y.few, next-is);
      long = turn_long _ r _ (node_of at left) ws vs (rw h at x-is) ∙ y.long;
      same = λ i.
          let on : along flat d (flats_in d.num_positional_only ns i params) k ws
          (arguments_in ns (forest at left))
          ≡ along flat d (flats_in d.num_positional_only ns i params) (k + 1) vs
          (arguments_in ns (forest next after)) = turn_one i next-is after-is ∙ rw h refl in
          sym on ∙ y.same i;
    }
