-- What W-204 supposes can be met, and not only trivially: `f(1, 2, 3, c=4, d=5)` of `def f(a, /, b=1, *args, c, **k)`,
-- in a table of both. An argument goes by its place, one by its name, and one each to `*args` and `**k`. That the
-- table is sound and that the lists are these is computation; the rules are then shown argument by argument. Assumes
-- nothing.
use mathlib.Core.Path.{◌≡◌, refl, sym, ap}
use mathlib.Core.Bool.{false}
use mathlib.Core.Logic.{◌⊎◌, inl, inr}
use mathlib.Core.List.{[], ◌∷◌}
use Prim.Native.Nat.{ℕ, zero, suc, ◌≤◌}
use native.Mathlib.Omega.{arith}
use lib.ListN.{length, get_or}
use Rattle.fields.proofs.Basics.{never}
use Rattle.fields.specs.Field.{field}
use Rattle.forest.specs.Forest.{Node, size_of, kids_of, rest_of, forest_in, forest, count, count_tree}
use Rattle.forest.specs.Names.{name_of, same}
use Rattle.soundness.specs.KindNumbers.{kind_named}
use Rattle.soundness.specs.Kinds.{kind_in, kind_of}
use Rattle.soundness.specs.Files.{file_sound, ends_by, top_of, files_of}
use Rattle.soundness.specs.Sound.{name_sound, span_sound, source_sound, fields_sound, whole_trees, classes, permitted}
use Rattle.soundness.specs.Sound.{wanted, permits, kids_sound, sound_node, sound_at, root_sound, context_of, record_sound}
use Rattle.soundness.specs.Sound.{first_false, first_unsound}
use Rattle.table.specs.Answer.{accepted}
use Rattle.table.specs.Check.{length_sound, check_of, stretch_of, wants, node_fits, on_node, entry_check}
use Rattle.table.specs.Depth.{class_weight, weight, first_deep, deep_in}
use Rattle.deflist.specs.Written.{Name, kind_at, param_of, params_in, written}
use Rattle.deflist.specs.Unpack.{slash_from, mode_args, mode_kwargs}
use Rattle.deflist.specs.Unpack as def
use Rattle.parameters.specs.Indices.{counted_of}
use Rattle.deflist.specs.Limited.{limited}
use Rattle.parameters.specs.Params.{list_of, list_answer, params_of}
use Rattle.demand3.specs.Example.{record_at}
use Rattle.demand3.specs.Given.{CutOf}
use Rattle.demand3.specs.Cut.{Cut}
use Rattle.demand3.proofs.Demand3.{accepted_iff_cut}
use Rattle.arguments.specs.Written.{positional, named, args, kwargs, kind_at as argument_kind, argument_of}
use Rattle.arguments.specs.Written.{arguments_in}
use Rattle.arguments.specs.Accepted.{Ordered}
use Rattle.arguments.specs.Call as call
use Rattle.arguments.specs.Job.{call_answer, call_of, call_values}
use Rattle.arguments.proofs.AcceptedCalls.{accepted_is_ordered}
use Rattle.bind.specs.FlatList.{FlatParam, flats_from, flats}
use Rattle.bind.specs.Job.{is_def, arguments_at, bind_of}
use Rattle.reached.specs.Said.{IsAt, CanBeNamed, ByPlace, flats_at}
use Rattle.reached.specs.Rules.{Named, Star, Placed, Matching, Rules}
use Rattle.reached.specs.Example.{table, names, room, params, arguments, counts}
use Rattle.reached.proofs.Reached.{accepted_by_rules}

pub sound : check_of table names ≡ accepted []
unfolding check_of length_sound field size_of kids_of rest_of forest_in forest count count_tree same kind_in kind_of
    name_sound
    span_sound source_sound fields_sound whole_trees classes permitted wanted permits kids_sound sound_node sound_at
    root_sound
    file_sound ends_by top_of files_of context_of record_sound first_false first_unsound class_weight weight first_deep
    deep_in
sound = refl

-- the lists are these
pub params_are : flats_at table names 1 ≡ params
unfolding flats flats_from slash_from list_of written params_in param_of kind_at stretch_of field size_of kids_of
    rest_of forest_in
    forest kind_in kind_of name_of
params_are = refl

pub arguments_are : arguments_at table names 11 ≡ arguments
unfolding arguments_at arguments_in argument_of argument_kind stretch_of field size_of kids_of rest_of forest_in forest
    name_of
arguments_are = refl

-- no star; a parameter for each argument
no_args_lem : (k : ℕ) (r : Node) → IsAt arguments k (args r) → ⊥
no_args_lem zero r e = never (cc)
no_args_lem (suc zero) r e = never (cc)
no_args_lem (suc (suc zero)) r e = never (cc)
no_args_lem (suc (suc (suc zero))) r e = never (cc)
no_args_lem (suc (suc (suc (suc zero)))) r e = never (cc)
no_args_lem (suc (suc (suc (suc (suc k))))) r e = e

no_kwargs_lem : (k : ℕ) (r : Node) → IsAt arguments k (kwargs r) → ⊥
no_kwargs_lem zero r e = never (cc)
no_kwargs_lem (suc zero) r e = never (cc)
no_kwargs_lem (suc (suc zero)) r e = never (cc)
no_kwargs_lem (suc (suc (suc zero))) r e = never (cc)
no_kwargs_lem (suc (suc (suc (suc zero)))) r e = never (cc)
no_kwargs_lem (suc (suc (suc (suc (suc k))))) r e = e

to_args : Star params mode_args
to_args = record { index = 2; param = _; there = refl; is = refl }

to_kwargs : Star params mode_kwargs
to_kwargs = record { index = 4; param = _; there = refl; is = refl }

-- 1 and 2 go by place, 3 to `*args`
places : (k : ℕ) (r : Node) → IsAt arguments k (positional r) → Placed params k ⊎ Star params mode_args
places zero r e = inl record { param = _; there = refl; by_place = inl refl }
places (suc zero) r e = inl record { param = _; there = refl; by_place = inr refl }
places (suc (suc k)) r e = inr to_args

-- c goes by its name, d to `**k`
name_c : Named params (99 ∷ []) 3
name_c = record { param = _; there = refl; can_be = inr refl; name = refl }

by_name_lem : (k : ℕ) (r : Node) (x : Name) → IsAt arguments k (named r x)
    → ((i : ℕ) × Named params x i) ⊎ Star params mode_kwargs
by_name_lem zero r x e = never (cc)
by_name_lem (suc zero) r x e = never (cc)
by_name_lem (suc (suc zero)) r x e = never (cc)
by_name_lem (suc (suc (suc zero))) r x e = let is : 99 ∷ [] ≡ x = cc in inl (3, rw (← is) name_c)
by_name_lem (suc (suc (suc (suc k)))) r x e = inr to_kwargs

-- the names given begin with c or d
late_name : (k : ℕ) (r : Node) (x : Name) → IsAt arguments k (named r x) → 99 ≤ get_or x 0 0
late_name zero r x e = never (cc)
late_name (suc zero) r x e = never (cc)
late_name (suc (suc zero)) r x e = never (cc)
late_name (suc (suc (suc zero))) r x e = let is : 99 ∷ [] ≡ x = cc in rw (← is) (omega arith)
late_name (suc (suc (suc (suc zero)))) r x e = let is : 100 ∷ [] ≡ x = cc in rw (← is) (omega arith)
late_name (suc (suc (suc (suc (suc k))))) r x e = absurd e

-- the mode and the first byte of the name of a parameter
mode_of : {p q : FlatParam} → p ≡ q → p.mode ≡ q.mode
mode_of e = ap (λ (p : FlatParam). p.mode) e

byte_of : {p q : FlatParam} → p ≡ q → get_or p.name 0 0 ≡ get_or q.name 0 0
byte_of e = ap (λ (p : FlatParam). get_or p.name 0 0) e

not_named : (p : FlatParam) → CanBeNamed p → (p.mode ≡ 1) ⊎ (p.mode ≡ 4) → ⊥
not_named p (inl e) (inl f) = absurd (omega arith)
not_named p (inl e) (inr f) = absurd (omega arith)
not_named p (inr e) (inl f) = absurd (omega arith)
not_named p (inr e) (inr f) = absurd (omega arith)

-- the positional ones are at 0, 1 and 2: a and `*args` cannot be named, and no argument has the name b
not_twice_lem : (k : ℕ) (r s : Node) (x : Name) (i : ℕ) → IsAt arguments k (named r x) → Named params x i
    → IsAt arguments i (positional s) → Placed params i → ⊥
not_twice_lem k r s x zero e n at p = not_named n.param n.can_be (inl (sym (mode_of n.there)))
not_twice_lem k r s x (suc zero) e n at p =
    absurd (omega (arith, late_name k r x e, byte_of n.there, ap (λ (l : Name). get_or l 0 0) n.name))
not_twice_lem k r s x (suc (suc zero)) e n at p = not_named n.param n.can_be (inr (sym (mode_of n.there)))
not_twice_lem k r s x (suc (suc (suc zero))) e n at p = never (cc)
not_twice_lem k r s x (suc (suc (suc (suc zero)))) e n at p = never (cc)
not_twice_lem k r s x (suc (suc (suc (suc (suc i))))) e n at p = at

-- a and c have no default: 1 is at a's place, and c is named
needed : (i : ℕ) (p : FlatParam) → IsAt params i p → p.default ≡ false
    → ((r : Node) × (IsAt arguments i (positional r) × ByPlace p))
    ⊎ ((k : ℕ) × ((r : Node) × (IsAt arguments k (named r p.name) × CanBeNamed p)))
needed zero p e d = inl (_, (refl, inl (sym (mode_of e))))
needed (suc zero) p e d = never (cc)
needed (suc (suc zero)) p e d = never (cc)
needed (suc (suc (suc zero))) p e d =
    let name : p.name ≡ 99 ∷ [] = sym (ap (λ (q : FlatParam). q.name) e) in
    let own = record_at 19 kind_named 0 1 6 49 52 2 2 in
    inr (3, (own, (ap (named own) (sym name), inr (sym (mode_of e)))))
needed (suc (suc (suc (suc zero)))) p e d = never (cc)
needed (suc (suc (suc (suc (suc i))))) p e d = absurd e

matching : Matching params arguments
matching = record {
  no_args = no_args_lem;
  no_kwargs = no_kwargs_lem;
  places = places;
  names = by_name_lem;
  not_twice = not_twice_lem;
  needed = needed;
}

-- the list can be cut, since the job on the parameters accepts it
has_cut : (c : Cut) × CutOf (list_of table names 1) c
unfolding list_of written params_in param_of kind_at stretch_of field size_of kids_of rest_of forest_in forest kind_in
    kind_of
    name_of params_of list_answer limited on_node entry_check node_fits wants slash_from counted_of
    def.unpack def.run def.step def.repeats def.first_same def.start def.advance def.has_name same def.finish
has_cut = ((accepted_iff_cut table names 1 room
    record { sound = sound; within = omega arith; def_or_lambda = inl refl; room = omega arith }).0
    (0 ∷ 1 ∷ 1 ∷ 2 ∷ 2 ∷ 3 ∷ 3 ∷ 4 ∷ 4 ∷ 5 ∷ 5 ∷ [], rw sound refl)).1

-- the arguments are in order, since the job on the call accepts it
in_order_lem : Ordered (arguments_at table names 11) counts
unfolding arguments_at arguments_in argument_of argument_kind stretch_of field size_of kids_of rest_of forest_in forest
    name_of
    call_answer on_node entry_check node_fits wants call.unpack call.run call.check call.repeats call.first_same
    call.has_name
    call.advance same
in_order_lem =
    let e : call_of table names 11 ≡ accepted (call_values counts) = rw sound refl in
    (accepted_is_ordered table names 11 counts e).2

written_six : length (list_of table names 1) ≡ 6
unfolding list_of written params_in param_of stretch_of field size_of kids_of rest_of forest_in forest kind_in kind_of
written_six = refl

-- so they meet the rules
pub rules : Rules table names 11 1 (length room)
unfolding is_def node_fits wants
rules = record {
  sound = sound;
  is_acall = refl;
  is_adef = refl;
  room = omega (arith, written_six, ap length arguments_are);
  short = omega (arith, written_six);
  cut = has_cut;
  order = (counts, in_order_lem);
  matching = rw (params_are, arguments_are) matching;
}

-- and are accepted: five flat parameters, five arguments
pub answer : bind_of table names 11 1 (length room) ≡ accepted (5 ∷ 5 ∷ [])
answer = rw (params_are, arguments_are) at (accepted_by_rules table names 11 1 room rules)
