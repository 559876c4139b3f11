-- W-204: WHICH ARGUMENT REACHES WHICH PARAMETER
--
-- Theorems of the crate `reached` about the answer of `bind::bind` and the words of the list at exit. The content of
-- the records `Rules`, `Matching`, `CutOf`, `Good` and `Ordered` is written as hypotheses, and that of a conclusion
-- field by field. Each statement is proved by citing the theorem. Assumes nothing.
use mathlib.Core.Path.{◌≡◌}
use mathlib.Core.Bool.{true, false}
use mathlib.Core.Logic.{◌⊎◌, inl, inr, ◌↔◌, ⊎_elim}
use mathlib.Core.List.{List, [], ◌∷◌, ◌++◌, map}
use Prim.Native.Nat.{ℕ, ◌+◌, ◌*◌, ◌<◌, ◌≤◌}
use lib.ListN.{length, get_or, drop}
use Rattle.fields.specs.Field.{field}
use Rattle.forest.specs.Forest.{Node}
use Rattle.forest.specs.Names.{Distinct}
use Rattle.table.specs.Numbers.{duplicated_parameter, repeated_named, star_argument, too_many_positional, unknown_named}
use Rattle.table.specs.Numbers.{already_filled, empty_parameter, slash_first, positional_after_non_positional}
use Rattle.table.specs.Answer.{accepted, refused}
use Rattle.table.specs.Check.{check_of, node_fits}
use Rattle.table.specs.declared.Wanted.TheVariants.{Call}
use Rattle.deflist.specs.Written.{Name}
use Rattle.deflist.specs.Limited.{most_parameters}
use Rattle.deflist.specs.Unpack.{mode_pos_only, mode_args, mode_kwargs}
use Rattle.parameters.specs.Params.{list_of}
use Rattle.demand3.specs.Cut.{Cut, join, names_of, firsts, Defaulted, SlashGood, StarGood}
use Rattle.arguments.specs.Written.{Argument, positional, named, args, kwargs, node_in}
use Rattle.arguments.specs.Accepted.{kinds_of, in_order, Placed, names_of as argument_names}
use Rattle.arguments.specs.Call.{given, bit}
use Rattle.arguments.specs.declared.CallArgs.{CallArgs}
use Rattle.bind.specs.FlatList.{FlatParam}
use Rattle.bind.specs.Job.{is_def, arguments_at, bind_of, lists_bound, list_after}
use Rattle.reached.specs.Said.{IsAt, Ordinary, CanBeNamed, ByPlace, Starred, flats_at, parameter_word, argument_word}
use Rattle.reached.specs.Rules as rule
use Rattle.reached.specs.Cases.{Row, rows}
use Rattle.reached.proofs.Reached as theorem
use Rattle.reached.proofs.Kept as theorem_kept
use Rattle.reached.proofs.Ruled as theorem_ruled
use Rattle.reached.proofs.Reported as theorem_reported
use Rattle.reached.specs.TwoFiles.{table as table_of_two, names as names_of_two}
use Rattle.reached.proofs.Examples as theorem_cases
use Rattle.reached.proofs.Files as theorem_files
use Rattle.reached.proofs.TwoFiles as theorem_two

-- "Accepted calls use every argument once."
-- In words: the word of each argument of an accepted call is the index of a flat parameter.
pub every_argument : (t names : List ℕ) (call def : ℕ) (list : List ℕ) {vs : List ℕ}
    → bind_of t names call def (length list) ≡ accepted vs
    → (k : ℕ) (a : Argument)
    → IsAt (arguments_at t names call) k a
    → (p : FlatParam) × IsAt (flats_at t names def) (argument_word t names call def list k) p
every_argument = theorem.every_argument

-- "An ordinary parameter takes at most one."
-- In words: two arguments of an accepted call whose words are the same ordinary parameter are the same argument.
pub at_most_one : (t names : List ℕ) (call def : ℕ) (list : List ℕ) {vs : List ℕ}
    → bind_of t names call def (length list) ≡ accepted vs
    → (p : FlatParam) (k l : ℕ) (a b : Argument)
    → IsAt (arguments_at t names call) k a
    → IsAt (arguments_at t names call) l b
    → argument_word t names call def list k ≡ argument_word t names call def list l
    → IsAt (flats_at t names def) (argument_word t names call def list k) p
    → Ordinary p
    → k ≡ l
at_most_one = theorem.at_most_one

-- "The two halves of the list agree."
-- In words: the word of ordinary parameter i is the node of argument k if and only if the word of argument k is i.
pub halves_agree : (t names : List ℕ) (call def : ℕ) (list : List ℕ) {vs : List ℕ}
    → bind_of t names call def (length list) ≡ accepted vs
    → (i k : ℕ) (p : FlatParam) (a : Argument)
    → IsAt (flats_at t names def) i p
    → Ordinary p
    → IsAt (arguments_at t names call) k a
    → (parameter_word t names call def list i ≡ (node_in a).at) ↔ (argument_word t names call def list k ≡ i)
halves_agree = theorem.halves_agree

-- "Accepted calls use every argument once": at one parameter
-- In words: an argument of an accepted call whose node is the word of ordinary parameters i and j has i and j the same.
pub at_one_parameter : (t names : List ℕ) (call def : ℕ) (list : List ℕ) {vs : List ℕ}
    → bind_of t names call def (length list) ≡ accepted vs
    → (i j k : ℕ) (p q : FlatParam) (a : Argument)
    → IsAt (flats_at t names def) i p
    → Ordinary p
    → IsAt (flats_at t names def) j q
    → Ordinary q
    → IsAt (arguments_at t names call) k a
    → parameter_word t names call def list i ≡ (node_in a).at
    → parameter_word t names call def list j ≡ (node_in a).at
    → i ≡ j
at_one_parameter = theorem.at_one_parameter

-- The word of `*args` and of `**kwargs` is 0.
-- In words: the word of a collecting parameter of an accepted call is 0.
pub star_word : (t names : List ℕ) (call def : ℕ) (list : List ℕ) {vs : List ℕ}
    → bind_of t names call def (length list) ≡ accepted vs
    → (i : ℕ) (p : FlatParam)
    → IsAt (flats_at t names def) i p
    → Starred p
    → parameter_word t names call def list i ≡ 0
star_word = theorem.star_word

-- "Positionals fill positional parameters from the left"
-- In words: positional argument k reaches flat parameter k, if that is filled by position.
pub positional_fills : (t names : List ℕ) (call def : ℕ) (list : List ℕ) {vs : List ℕ}
    → bind_of t names call def (length list) ≡ accepted vs
    → (k : ℕ) (r : Node) (p : FlatParam)
    → IsAt (arguments_at t names call) k (positional r)
    → IsAt (flats_at t names def) k p
    → ByPlace p
    → argument_word t names call def list k ≡ k
positional_fills = theorem.positional_fills

-- "the rest go to `*args`"
-- In words: a positional argument for which no parameter is filled by position reaches `*args`.
pub positional_collected : (t names : List ℕ) (call def : ℕ) (list : List ℕ) {vs : List ℕ}
    → bind_of t names call def (length list) ≡ accepted vs
    → (k : ℕ) (r : Node) (p : FlatParam)
    → IsAt (arguments_at t names call) k (positional r)
    → ((q : FlatParam) → IsAt (flats_at t names def) k q → ByPlace q → ⊥)
    → IsAt (flats_at t names def) (argument_word t names call def list k) p
    → p.mode ≡ mode_args
positional_collected = theorem.positional_collected

-- "A named one goes to the PosOrName or NameOnly parameter of that name, else to `**kwargs`"
-- In words: what a named argument reaches has its name and can be named, or it is `**kwargs` and no parameter that can
-- be named has its name.
pub named_reaches : (t names : List ℕ) (call def : ℕ) (list : List ℕ) {vs : List ℕ}
    → bind_of t names call def (length list) ≡ accepted vs
    → (k : ℕ) (r : Node) (x : Name) (p : FlatParam)
    → IsAt (arguments_at t names call) k (named r x)
    → IsAt (flats_at t names def) (argument_word t names call def list k) p
    → (CanBeNamed p × (p.name ≡ x))
    ⊎ ((p.mode ≡ mode_kwargs)
    × ((i : ℕ) (q : FlatParam) → IsAt (flats_at t names def) i q → CanBeNamed q → q.name ≡ x → ⊥))
named_reaches = theorem.named_reaches

-- "A named one goes to the parameter of that name": to that parameter
-- In words: if a parameter that can be named has the argument's name, the argument's word is its index.
pub named_reaches_it : (t names : List ℕ) (call def : ℕ) (list : List ℕ) {vs : List ℕ}
    → bind_of t names call def (length list) ≡ accepted vs
    → (k i : ℕ) (r : Node) (x : Name) (p : FlatParam)
    → IsAt (arguments_at t names call) k (named r x)
    → IsAt (flats_at t names def) i p
    → CanBeNamed p
    → p.name ≡ x
    → argument_word t names call def list k ≡ i
named_reaches_it = theorem.named_reaches_it

-- "a PosOnly name counts as unknown"
-- In words: no named argument of an accepted call reaches a positional-only parameter.
pub no_name_reaches_pos_only : (t names : List ℕ) (call def : ℕ) (list : List ℕ) {vs : List ℕ}
    → bind_of t names call def (length list) ≡ accepted vs
    → (k : ℕ) (r : Node) (x : Name) (p : FlatParam)
    → IsAt (arguments_at t names call) k (named r x)
    → IsAt (flats_at t names def) (argument_word t names call def list k) p
    → p.mode ≡ mode_pos_only
    → ⊥
no_name_reaches_pos_only = theorem.no_name_reaches_pos_only

-- "Every ordinary parameter without default has an argument."
-- In words: for each such parameter there is an argument whose word is its index, and its own word is that argument's
-- node.
pub needed_has_argument : (t names : List ℕ) (call def : ℕ) (list : List ℕ) {vs : List ℕ}
    → bind_of t names call def (length list) ≡ accepted vs
    → (i : ℕ) (p : FlatParam)
    → IsAt (flats_at t names def) i p
    → p.default ≡ false
    → (k : ℕ) × (a : Argument)
    × IsAt (arguments_at t names call) k a
    × (argument_word t names call def list k ≡ i)
    × (parameter_word t names call def list i ≡ (node_in a).at)
needed_has_argument t names call def list bound i p sits n =
    let x = theorem.needed_has_argument t names call def list bound i p sits n in
    (x.0, x.1.0, x.1.1.0, x.1.1.1.0, x.1.1.1.1)

-- "Every ordinary parameter with word 0 has a default."
-- In words: a flat parameter whose word is 0 may be left without an argument.
pub empty_has_default : (t names : List ℕ) (call def : ℕ) (list : List ℕ) {vs : List ℕ}
    → bind_of t names call def (length list) ≡ accepted vs
    → (i : ℕ) (p : FlatParam)
    → IsAt (flats_at t names def) i p
    → parameter_word t names call def list i ≡ 0
    → p.default ≡ true
empty_has_default = theorem.empty_has_default

-- "With `**kwargs` 82 never arises."
-- In words: if the job refuses with 82, no flat parameter is `**kwargs`.
pub no_unknown_with_kwargs : (t names : List ℕ) (call def room : ℕ) {vs : List ℕ}
    → bind_of t names call def room ≡ refused unknown_named vs
    → (i : ℕ) (p : FlatParam)
    → IsAt (flats_at t names def) i p
    → p.mode ≡ mode_kwargs
    → ⊥
no_unknown_with_kwargs = theorem.no_unknown_with_kwargs

-- "83 arises only against a positional."
-- In words: if the job refuses with 83, it carries the node and span of a named argument, a parameter that can be named
-- has its name, and a positional argument has that parameter's place.
pub filled_against_positional : (t names : List ℕ) (call def room : ℕ) {vs : List ℕ}
    → bind_of t names call def room ≡ refused already_filled vs
    → (k : ℕ) × (r : Node) × (x : Name)
    × IsAt (arguments_at t names call) k (named r x)
    × (vs ≡ r.at ∷ r.begin ∷ r.stop ∷ r.file ∷ [])
    × (i : ℕ) × (p : FlatParam)
    × IsAt (flats_at t names def) i p
    × (p.name ≡ x)
    × CanBeNamed p
    × (s : Node)
    × IsAt (arguments_at t names call) i (positional s)
filled_against_positional t names call def room e =
    let x = theorem.filled_against_positional t names call def room e in (
      x.number,
      x.node,
      x.name,
      x.there,
      x.carries,
      x.index,
      x.param,
      x.sits,
      x.same,
      x.can_be,
      x.other,
      x.first,
    )

-- "A call and a def that meet the rules (stated without the job) are accepted."
-- In words: in a sound table, a call and a def with room for both lists, a list of at most 48 parameters that can be
-- cut, arguments in order, no star among them, a parameter for each, none for two, and an argument for each parameter
-- without default: these are accepted, with the two counts as the answer.
pub accepted_by_rules : (t names : List ℕ) (call def : ℕ) (list : List ℕ)
    → check_of t names ≡ accepted []
    → node_fits t call Call ≡ true
    → is_def t def ≡ true
    → length (list_of t names def) + length (arguments_at t names call) ≤ length list
    → length (list_of t names def) ≤ most_parameters
    → (c : Cut)
    → join c ≡ list_of t names def
    → SlashGood c.before
    → StarGood c.star
    → Distinct (names_of (join c))
    → Defaulted (firsts c.before ++ c.middle)
    → (o : CallArgs)
    → kinds_of (arguments_at t names call) ≡ in_order o
    → Placed o.star (o.num_pos + o.num_named)
    → Placed o.star_star (o.num_pos + o.num_named + bit (given o.star))
    → Distinct (argument_names (arguments_at t names call))
    → ((k : ℕ) (r : Node) → IsAt (arguments_at t names call) k (args r) → ⊥)
    → ((k : ℕ) (r : Node) → IsAt (arguments_at t names call) k (kwargs r) → ⊥)
    → ((k : ℕ) (r : Node) → IsAt (arguments_at t names call) k (positional r)
    → ((p : FlatParam) × IsAt (flats_at t names def) k p × ByPlace p)
    ⊎ ((i : ℕ) × (p : FlatParam) × IsAt (flats_at t names def) i p × (p.mode ≡ mode_args)))
    → ((k : ℕ) (r : Node) (x : Name) → IsAt (arguments_at t names call) k (named r x)
    → ((i : ℕ) × (p : FlatParam) × IsAt (flats_at t names def) i p × CanBeNamed p × (p.name ≡ x))
    ⊎ ((i : ℕ) × (p : FlatParam) × IsAt (flats_at t names def) i p × (p.mode ≡ mode_kwargs)))
    → ((k : ℕ) (r s : Node) (x : Name) (i : ℕ) (p q : FlatParam) → IsAt (arguments_at t names call) k (named r x)
    → IsAt (flats_at t names def) i p → CanBeNamed p → p.name ≡ x
    → IsAt (arguments_at t names call) i (positional s)
    → IsAt (flats_at t names def) i q → ByPlace q → ⊥)
    → ((i : ℕ) (p : FlatParam) → IsAt (flats_at t names def) i p → p.default ≡ false
    → ((r : Node) × (IsAt (arguments_at t names call) i (positional r) × ByPlace p))
    ⊎ ((k : ℕ) × ((r : Node) × (IsAt (arguments_at t names call) k (named r p.name) × CanBeNamed p))))
    → bind_of t names call def (length list)
    ≡ accepted (length (flats_at t names def) ∷ length (arguments_at t names call) ∷ [])
accepted_by_rules t names call def list sound is_call is_adef room short c j b s n d o kinds star kw own no_args
    no_kwargs
    places by_name not_twice needed =
    theorem.accepted_by_rules t names call def list record {
      sound = sound;
      is_acall = is_call;
      is_adef = is_adef;
      room = room;
      short = short;
      cut = (c, record { joins = j; good = record { slash = b; star = s; distinct = n; defaulted = d } });
      order = (o, record { kinds = kinds; star_at = star; kwargs_at = kw; distinct = own });
      matching = record {
        no_args = no_args;
        no_kwargs = no_kwargs;
        places = λ k r at. ⊎_elim
            (λ (x : (p : FlatParam) × IsAt (flats_at t names def) k p × ByPlace p).
            inl record { param = x.0; there = x.1; by_place = x.2 })
            (λ (x : (i : ℕ) × (p : FlatParam) × IsAt (flats_at t names def) i p × (p.mode ≡ mode_args)).
            inr record { index = x.0; param = x.1; there = x.2; is = x.3 })
            (places k r at);
        names = λ k r x at. ⊎_elim
            (λ (y : (i : ℕ) × (p : FlatParam) × IsAt (flats_at t names def) i p × CanBeNamed p × (p.name ≡ x)).
            inl (y.0, record { param = y.1; there = y.2; can_be = y.3; name = y.4 }))
            (λ (y : (i : ℕ) × (p : FlatParam) × IsAt (flats_at t names def) i p × (p.mode ≡ mode_kwargs)).
            inr record { index = y.0; param = y.1; there = y.2; is = y.3 })
            (by_name k r x at);
        not_twice = λ k r s x i at p st q. not_twice k r s x i p.param q.param at p.there p.can_be p.name st
            q.there q.by_place;
        needed = needed;
      };
    }

-- "No refusal changes a buffer": the answer list
-- In words: if the job refuses, the list at exit is the list at entry.
pub refusal_keeps : (t names : List ℕ) (call def : ℕ) (list : List ℕ) {n : ℕ} {vs : List ℕ}
    → bind_of t names call def (length list) ≡ refused n vs
    → list_after t names call def list ≡ list
refusal_keeps = theorem_kept.refusal_keeps

-- "words past the answer stay"
-- In words: after an accepted call, each word from the number of flat parameters and arguments on is unchanged.
pub past_words_stay : (t names : List ℕ) (call def : ℕ) (list : List ℕ) {vs : List ℕ}
    → bind_of t names call def (length list) ≡ accepted vs
    → (i : ℕ)
    → length (flats_at t names def) + length (arguments_at t names call) ≤ i
    → get_or (list_after t names call def list) i 0 ≡ get_or list i 0
past_words_stay = theorem_kept.past_words_stay

-- the list keeps its length
-- In words: after an accepted call the list is as long as it was.
pub list_as_long : (t names : List ℕ) (call def : ℕ) (list : List ℕ) {vs : List ℕ}
    → bind_of t names call def (length list) ≡ accepted vs
    → length (list_after t names call def list) ≡ length list
list_as_long = theorem_kept.list_as_long

-- "80 at the first star or `**` of the call": an accepted call has no star
-- In words: no argument of an accepted call is a star argument.
pub no_star_lem : (t names : List ℕ) (call def : ℕ) (list : List ℕ) {vs : List ℕ}
    → bind_of t names call def (length list) ≡ accepted vs
    → (k : ℕ) (r : Node)
    → IsAt (arguments_at t names call) k (args r)
    → ⊥
no_star_lem = theorem_ruled.no_star_lem

-- "80 at the first star or `**` of the call": and no `**`
-- In words: no argument of an accepted call is a `**` argument.
pub no_star_star : (t names : List ℕ) (call def : ℕ) (list : List ℕ) {vs : List ℕ}
    → bind_of t names call def (length list) ≡ accepted vs
    → (k : ℕ) (r : Node)
    → IsAt (arguments_at t names call) k (kwargs r)
    → ⊥
no_star_star = theorem_ruled.no_star_star

-- "A call and a def that are accepted meet the rules (stated without the job)."
-- In words: the hypotheses of `accepted_by_rules` hold for each call and def that the job accepts.
pub accepted_has_rules : (t names : List ℕ) (call def : ℕ) (list : List ℕ) {vs : List ℕ}
    → bind_of t names call def (length list) ≡ accepted vs
    → (check_of t names ≡ accepted [])
    × (node_fits t call Call ≡ true)
    × (is_def t def ≡ true)
    × (length (list_of t names def) + length (arguments_at t names call) ≤ length list)
    × (length (list_of t names def) ≤ most_parameters)
    × (c : Cut)
    × (join c ≡ list_of t names def)
    × SlashGood c.before
    × StarGood c.star
    × Distinct (names_of (join c))
    × Defaulted (firsts c.before ++ c.middle)
    × (o : CallArgs)
    × (kinds_of (arguments_at t names call) ≡ in_order o)
    × Placed o.star (o.num_pos + o.num_named)
    × Placed o.star_star (o.num_pos + o.num_named + bit (given o.star))
    × Distinct (argument_names (arguments_at t names call))
    × ((k : ℕ) (r : Node) → IsAt (arguments_at t names call) k (args r) → ⊥)
    × ((k : ℕ) (r : Node) → IsAt (arguments_at t names call) k (kwargs r) → ⊥)
    × ((k : ℕ) (r : Node) → IsAt (arguments_at t names call) k (positional r)
    → ((p : FlatParam) × IsAt (flats_at t names def) k p × ByPlace p)
    ⊎ ((i : ℕ) × (p : FlatParam) × IsAt (flats_at t names def) i p × (p.mode ≡ mode_args)))
    × ((k : ℕ) (r : Node) (x : Name) → IsAt (arguments_at t names call) k (named r x)
    → ((i : ℕ) × (p : FlatParam) × IsAt (flats_at t names def) i p × CanBeNamed p × (p.name ≡ x))
    ⊎ ((i : ℕ) × (p : FlatParam) × IsAt (flats_at t names def) i p × (p.mode ≡ mode_kwargs)))
    × ((k : ℕ) (r s : Node) (x : Name) (i : ℕ) (p q : FlatParam) → IsAt (arguments_at t names call) k (named r x)
    → IsAt (flats_at t names def) i p → CanBeNamed p → p.name ≡ x
    → IsAt (arguments_at t names call) i (positional s)
    → IsAt (flats_at t names def) i q → ByPlace q → ⊥)
    × ((i : ℕ) (p : FlatParam) → IsAt (flats_at t names def) i p → p.default ≡ false
    → ((r : Node) × (IsAt (arguments_at t names call) i (positional r) × ByPlace p))
    ⊎ ((k : ℕ) × ((r : Node) × (IsAt (arguments_at t names call) k (named r p.name) × CanBeNamed p))))
accepted_has_rules t names call def list bound =
    let x = theorem_ruled.accepted_has_rules t names call def list bound in
    let g = x.cut.1.good in
    let o = x.order.1 in
    let m = x.matching in (
      x.sound,
      x.is_acall,
      x.is_adef,
      x.room,
      x.short,
      x.cut.0,
      x.cut.1.joins,
      g.slash,
      g.star,
      g.distinct,
      g.defaulted,
      x.order.0,
      o.kinds,
      o.star_at,
      o.kwargs_at,
      o.distinct,
      m.no_args,
      m.no_kwargs,
      λ k r at. ⊎_elim (λ (p : rule.Placed (flats_at t names def) k). inl (p.param, p.there, p.by_place))
          (λ (s : rule.Star (flats_at t names def) mode_args). inr (s.index, s.param, s.there, s.is))
          (m.places k r at),
      λ k r x at. ⊎_elim
          (λ (n : (i : ℕ) × rule.Named (flats_at t names def) x i).
          inl (n.0, n.1.param, n.1.there, n.1.can_be, n.1.name))
          (λ (s : rule.Star (flats_at t names def) mode_kwargs). inr (s.index, s.param, s.there, s.is))
          (m.names k r x at),
      λ k r s x i p q at ip cp np st iq bq. m.not_twice k r s x i at
          record { param = p; there = ip; can_be = cp; name = np } st record { param = q; there = iq; by_place = bq },
      m.needed,
    )

-- "then 80 at the first star or `**` of the call"
-- In words: 80 carries the node and span of a star or `**` argument of the call, and none comes before it.
pub star_is_first : (t names : List ℕ) (call def room : ℕ) {vs : List ℕ}
    → bind_of t names call def room ≡ refused star_argument vs
    → (k : ℕ) × (r : Node)
    × (IsAt (arguments_at t names call) k (args r) ⊎ IsAt (arguments_at t names call) k (kwargs r))
    × (vs ≡ r.at ∷ r.begin ∷ r.stop ∷ r.file ∷ [])
    × ((j : ℕ) (s : Node) → j < k → IsAt (arguments_at t names call) j (args s) → ⊥)
    × ((j : ℕ) (s : Node) → j < k → IsAt (arguments_at t names call) j (kwargs s) → ⊥)
star_is_first t names call def room e =
    let x = theorem_reported.star_is_first t names call def room e in
    (x.number, x.node, x.there, x.carries, x.no_args, x.no_kwargs)

-- "81 at the first positional too many without `*args`"
-- In words: 81 carries the node and span of a positional argument; there is no `*args` and no parameter that is filled
-- at its place, and there is one for each argument before it.
pub too_many_is_first : (t names : List ℕ) (call def room : ℕ) {vs : List ℕ}
    → bind_of t names call def room ≡ refused too_many_positional vs
    → (k : ℕ) × (r : Node)
    × IsAt (arguments_at t names call) k (positional r)
    × (vs ≡ r.at ∷ r.begin ∷ r.stop ∷ r.file ∷ [])
    × ((i : ℕ) (p : FlatParam) → IsAt (flats_at t names def) i p → p.mode ≡ mode_args → ⊥)
    × ((p : FlatParam) → IsAt (flats_at t names def) k p → ByPlace p → ⊥)
    × ((j : ℕ) → j < k → (p : FlatParam) × IsAt (flats_at t names def) j p × ByPlace p)
too_many_is_first t names call def room e =
    let x = theorem_reported.too_many_is_first t names call def room e in (
      x.number,
      x.node,
      x.there,
      x.carries,
      x.no_args,
      x.no_place,
      λ j h. let p = x.first j h in (p.param, p.there, p.by_place),
    )

-- "then 84 at the lowest ordinary parameter left empty without default"
-- In words: 84 carries the node and span of a parameter without default that no argument reaches, by position or by
-- name, and each such parameter before it has an argument.
pub empty_is_first : (t names : List ℕ) (call def room : ℕ) {vs : List ℕ}
    → bind_of t names call def room ≡ refused empty_parameter vs
    → (i : ℕ) × (p : FlatParam)
    × IsAt (flats_at t names def) i p
    × (vs ≡ p.node.at ∷ p.node.begin ∷ p.node.stop ∷ p.node.file ∷ [])
    × (p.default ≡ false)
    × ((r : Node) → IsAt (arguments_at t names call) i (positional r) → ByPlace p → ⊥)
    × ((k : ℕ) (r : Node) → IsAt (arguments_at t names call) k (named r p.name) → CanBeNamed p → ⊥)
    × ((j : ℕ) (q : FlatParam) → j < i → IsAt (flats_at t names def) j q → q.default ≡ false
    → ((r : Node) × (IsAt (arguments_at t names call) j (positional r) × ByPlace q))
    ⊎ ((k : ℕ) × ((r : Node) × (IsAt (arguments_at t names call) k (named r q.name) × CanBeNamed q))))
empty_is_first t names call def room e =
    let x = theorem_reported.empty_is_first t names call def room e in
    (x.index, x.param, x.there, x.carries, x.without, x.no_place, x.no_name, x.first)

-- W-203: "Refusals 11 and 22 carry that node besides what they carried; all other refusals carry none."
-- In words: of the refusals of this job 11 and 22 carry five numbers, the last an earlier node, and each other at most
-- four.
pub bind_carries : (t names : List ℕ) (call def room : ℕ) {n : ℕ} {vs : List ℕ}
    → bind_of t names call def room ≡ refused n vs
    → ((n ≡ duplicated_parameter) ⊎ (n ≡ repeated_named) → length vs ≡ 5)
    × ((n ≡ duplicated_parameter → ⊥) → (n ≡ repeated_named → ⊥) → length vs ≤ 4)
bind_carries = theorem_kept.bind_carries

-- the corner cases of W-204
-- In words: the definition of the job gives for the lists of each row the answer that the row shows, whatever the
-- record of the def.
pub corner_cases : (def : Node)
    → map (λ (r : Row). lists_bound def r.params r.arguments) rows ≡ map (λ (r : Row). r.shown) rows
corner_cases = theorem_cases.corner_cases

-- the number of the corner cases
-- In words: the table has eighteen rows.
pub how_many_cases : length rows ≡ 18
how_many_cases = theorem_cases.how_many_lem

-- W-208: "all answers with a span carry the file number": the binding job, which reads a call and a def
-- In words: the source file number is that of the record that the refusal names. For 10 to 19 and 84 it is the number
-- of the def, for 20 to 24 and 80 to 83 that of the call.
pub bind_file : (t names : List ℕ) (call def room : ℕ) {n : ℕ} {vs : List ℕ}
    → bind_of t names call def room ≡ refused n vs
    → slash_first ≤ n
    → (4 ≤ length vs)
    × (get_or vs 3 0 ≡ field 2 (drop (24 * get_or vs 0 0) t) 18)
    × ((n < positional_after_non_positional) ⊎ (n ≡ empty_parameter) → get_or vs 3 0 ≡ field 2 (drop (24 * def) t) 18)
    × (positional_after_non_positional ≤ n → (n ≡ empty_parameter → ⊥)
    → get_or vs 3 0 ≡ field 2 (drop (24 * call) t) 18)
bind_file t names call def room e late =
    let f = theorem_files.bind_files t names call def room e late in (f.there, f.named, f.of_def, f.of_call)

-- W-208: "A zone's table now joins its own script and the line's common one."
-- In words: in a table of a def of file 1 and two calls of file 2, a call without its argument is refused with 84 at
-- the parameter, in file 1, and one that repeats a name with 22 at the argument, in file 2, and with the earlier
-- argument's node.
pub two_files : (bind_of table_of_two names_of_two 5 1 4 ≡ refused empty_parameter (2 ∷ 6 ∷ 7 ∷ 1 ∷ []))
    × (bind_of table_of_two names_of_two 8 1 4 ≡ refused repeated_named (12 ∷ 11 ∷ 12 ∷ 2 ∷ 10 ∷ []))
two_files = theorem_two.two_files
