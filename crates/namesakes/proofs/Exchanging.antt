-- By position before `/`, exchanging the two arguments of an accepted call with nothing reported, whose names are those
-- of their parameters, is reported. The other call is accepted, because its arguments are alike (Alike). Positional
-- arguments reach the parameters of their places (reached's `positional_fills`), so that the two are exchanged, and
-- both are reported (Theorems' `exchanged_reported`). Cite `exchange_is_reported`. Assumes nothing.
use mathlib.Core.Path.{◌≡◌, refl, ◌∙◌}
use mathlib.Core.Logic.{inl}
use mathlib.Core.List.{List, [], ◌∷◌}
use Prim.Native.Nat.{ℕ, ◌*◌, ◌≤◌}
use native.Mathlib.Omega.{arith}
use lib.ListN.{length}
use borrow.Author.Tests.{le-leb}
use Rattle.table.specs.Answer.{Answer, accepted, refused, and_then}
use Rattle.table.proofs.Answers.{never_passed}
use Rattle.table.proofs.Entering.{sound_entry_lem}
use Rattle.table.specs.declared.Wanted.TheVariants.{Call}
use Rattle.arguments.specs.Written.{positional}
use Rattle.bind.specs.Job.{arguments_at, bind_of}
use Rattle.reached.specs.Said.{IsAt, flats_at, argument_word}
use Rattle.reached.specs.Rules.{Rules}
use Rattle.reached.proofs.Ruled.{accepted_has_rules}
use Rattle.reached.proofs.Reached.{accepted_by_rules, positional_fills}
use Rattle.namesakes.specs.Job.{entry_of, bound_at, bound_of, counted, reports_at, namesakes_of, list_after}
use Rattle.namesakes.specs.Said.{node_of, Reported, Exchanged, OwnName, Swapped}
use Rattle.namesakes.proofs.Whole.{enters}
use Rattle.namesakes.proofs.Alike.{alike_long, alike_rules, positional_over}
use Rattle.namesakes.proofs.Theorems.{argument_at, pass, bound_is, exchanged_reported}

-- an accepted answer had room
room_of : (t names : List ℕ) (call def room : ℕ) {vs : List ℕ} → namesakes_of t names call def room ≡ accepted vs
    → 4 * length (arguments_at t names call) ≤ room
unfolding namesakes_of bound_of
room_of t names call def room {vs} e = go (entry_of t names call def room) refl e
  where
    go : (a : Answer) → entry_of t names call def room ≡ a
        → counted (and_then a (λ _. bound_at t names call def)) (reports_at t names call def) ≡ accepted vs
        → 4 * length (arguments_at t names call) ≤ room
    go (accepted us) f e = (enters t names call def room f).1
    go (refused n us) f e = never_passed e

module _ (t names : List ℕ) (call other def : ℕ) (words : List ℕ) {vs : List ℕ}
    (bound : bind_of t names call def (length words) ≡ accepted vs) (list : List ℕ)
    (none : namesakes_of t names call def (length list) ≡ accepted (0 ∷ [])) (j l : ℕ)
    (s : Swapped t names call other def j l) where
  rules : Rules t names other def (length words)
  rules = alike_rules t names call other def (length words) s.is_acall s.alike
      (accepted_has_rules t names call def words bound)

  -- the other call is accepted too, by both jobs
  pub also_bound : bind_of t names other def (length words)
      ≡ accepted (length (flats_at t names def) ∷ length (arguments_at t names other) ∷ [])
  also_bound = accepted_by_rules t names other def words rules

  also_let_in : entry_of t names other def (length list) ≡ accepted []
  unfolding entry_of
  also_let_in = rw (
    sound_entry_lem Call t names other rules.sound s.is_acall,
    rules.is_adef,
    le-leb (4 * length (arguments_at t names other)) (length list) (omega (
      arith,
      room_of t names call def (length list) none,
      alike_long (arguments_at t names call) (arguments_at t names other) s.alike,
    )),
  ) refl

  also_found : (m : ℕ) × (namesakes_of t names other def (length list) ≡ accepted (m ∷ []))
  unfolding namesakes_of bound_of
  also_found = (
    length (reports_at t names other def (pass t names other def words also_bound).words),
    rw (also_let_in, bound_is t names other def words also_bound) refl,
  )

  -- its positional arguments reach the parameters of their places
  own_place : (k : ℕ) → OwnName t names call def k → argument_word t names other def words k ≡ k
  own_place k x =
      let at : IsAt (arguments_at t names call) k (positional x.node) =
      rw x.by_place at (argument_at t names call k x.argument x.there) in
      let o = positional_over (arguments_at t names call) (arguments_at t names other) s.alike k x.node at in
      positional_fills t names other def words also_bound k o.0 x.param o.1 x.param_there (inl x.pos_only)

  exchanged : Exchanged t names other def words j l
  exchanged = record {
    apart = s.apart;
    first = s.first;
    second = s.second;
    first_there = s.first_there;
    second_there = s.second_there;
    param = s.own.param;
    other = s.owns.param;
    param_there = rw (own_place j s.own) s.own.param_there;
    other_there = rw (own_place l s.owns) s.owns.param_there;
    ordinary = inl s.own.pos_only;
    other_ordinary = inl s.owns.pos_only;
    first_name = s.first_name ∙ s.owns.name;
    second_name = s.second_name ∙ s.own.name;
  }

  -- THEOREM: "by position before `/`, exchanging the two arguments of an accepted call with nothing reported, whose
  -- names are those of their parameters, is reported"
  pub exchange_is_reported : (m : ℕ) × ((namesakes_of t names other def (length list) ≡ accepted (m ∷ []))
      × (Reported (list_after t names other def list) m (node_of s.first ∷ j ∷ l ∷ node_of s.second ∷ [])
      × Reported (list_after t names other def list) m (node_of s.second ∷ l ∷ j ∷ node_of s.first ∷ [])))
  unfolding exchanged
  exchange_is_reported =
      let f = also_found in
      let e = exchanged_reported t names other def words also_bound list f.1 j l exchanged in
      (f.0, (f.1, rw (own_place j s.own, own_place l s.owns) at e))
