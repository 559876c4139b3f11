-- What an accepted answer of the job says. It has passed every step: the table check, the node, the buffer's length,
-- the limit, and `unpack` (`accepted_passed`, step by step; the record `Passed` names what is then known), and a list
-- that passes them all is accepted (`passed_accepted`). Its numbers are small: a list is shorter than its stretch has
-- records, and no count is larger than the list is long (deflist's `accepted_bounded`), so each is at most 2,100
-- (`accepted_small`). The same holds of every list on the way, accepted or refused (`list_short`, `counts_small`).
-- Assumes nothing.
use Rattle.std.specs.Prelude.{None, Option, Some}
use Rattle.deflist.specs.declared.Flat.{Flat}
use mathlib.Core.Path.{◌≡◌, refl, ◌∙◌}
use mathlib.Core.Bool.{true}
use mathlib.Core.List.{List, [], ◌∷◌}
use Prim.Native.Nat.{ℕ, ◌+◌, ◌<◌, ◌≤◌}
use native.Mathlib.Omega.{arith}
use lib.ListN.{length}
use borrow.Author.Tests.{le-leb, leb-true}
use Rattle.table.proofs.Answers.{never_passed, passed_both, test_passed}
use Rattle.forest.specs.Forest.{node_of}
use Rattle.table.specs.Answer.{accepted}
use Rattle.table.specs.Check.{check_of, node_fits, stretch_of, entry_check, on_node}
use Rattle.table.specs.declared.Wanted.TheVariants.{Parameters}
use Rattle.table.proofs.Checking.{accepted_clean}
use Rattle.table.proofs.Handed.{stretch_within}
use Rattle.table.proofs.Entering.{entry_sound, sound_entry_lem}
use Rattle.deflist.specs.Written.{written}
use Rattle.deflist.specs.Unpack as def
use Rattle.deflist.specs.Limited.{most_parameters, limited}
use Rattle.parameters.specs.Indices.{place_range, place_of, values_of, counted_of}
use Rattle.deflist.specs.Reading.{PlaceBelow, Bounded}
use Rattle.deflist.specs.declared.Counts.{Counts}
use Rattle.deflist.specs.Reached.{reached, AllAtMost}
use Rattle.deflist.proofs.Theorems.{accepted_bounded, written_short}
use Rattle.deflist.proofs.Limited.{limited_short, limited_accepted}
use Rattle.deflist.proofs.Counted.{counted_at_most, at_most_wider}
use Rattle.parameters.specs.Params.{AllBelow, answer_of, room_check, list_answer, list_of, params_of}

-- an accepted answer: the table is sound, the node fits, the buffer is long enough, the list is within the limit, and
-- unpack accepts it with these values
pub record Passed (t ns : List ℕ) (node room : ℕ) (vs : List ℕ) : Type 0 where
  pub sound : check_of t ns ≡ accepted []
  pub fits : node_fits t node Parameters ≡ true
  pub enough : length (list_of t ns node) ≤ room
  pub few : length (list_of t ns node) ≤ most_parameters
  pub counts : Counts
  pub outcome : def.unpack (list_of t ns node) ≡ def.accepted counts
  pub values : vs ≡ values_of (counted_of counts)

-- LAW: and such an answer is accepted
pub passed_accepted : (t ns : List ℕ) (node room : ℕ) {c : Counts} → check_of t ns ≡ accepted []
    → node_fits t node Parameters ≡ true → length (list_of t ns node) ≤ room
    → length (list_of t ns node) ≤ most_parameters → def.unpack (list_of t ns node) ≡ def.accepted c
    → params_of t ns node room ≡ accepted (values_of (counted_of c))
unfolding params_of on_node list_answer list_of written
passed_accepted t ns node room sound fits enough few outcome = rw (
  sound_entry_lem Parameters t ns node sound fits,
  le-leb (length (list_of t ns node)) room enough,
  limited_short (node_of node (stretch_of t node)) (list_of t ns node) few ∙ outcome,
) refl

-- LAW: an accepted answer has passed every check
pub accepted_passed : (t ns : List ℕ) (node room : ℕ) {vs : List ℕ} → params_of t ns node room ≡ accepted vs
    → Passed t ns node room vs
unfolding params_of on_node list_answer list_of written
accepted_passed t ns node room {vs} e =
    let entered = passed_both (entry_check Parameters t ns node) _ e in
    let roomy = passed_both (room_check room (list_of t ns node)) _ entered.2 in
    go (entry_sound Parameters t ns node entered.1)
    (leb-true (length (list_of t ns node)) room (test_passed _ _ roomy.1))
    (limited (node_of node (stretch_of t node)) (list_of t ns node)) refl roomy.2
  where
    go : (check_of t ns ≡ accepted []) × (node_fits t node Parameters ≡ true) → length (list_of t ns node) ≤ room
        → (o : def.Outcome) → limited (node_of node (stretch_of t node)) (list_of t ns node) ≡ o
        → answer_of o ≡ accepted vs → Passed t ns node room vs
    go s m (def.accepted c) u e = record {
      sound = s.0;
      fits = s.1;
      enough = m;
      few = (limited_accepted _ (list_of t ns node) u).0;
      counts = c;
      outcome = (limited_accepted _ (list_of t ns node) u).1;
      values = cc;
    }
    go s m (def.refused n r) u e = never_passed e
    go s m (def.repeated i r) u e = never_passed e
    go s m (def.internal i r) u e = never_passed e

place_below : (p : Option Flat) (n m : ℕ) → PlaceBelow m p → n ≤ m
    → ((place_range (place_of p) n).from ≤ m) × ((place_range (place_of p) n).upto ≤ m + 1)
place_below (Some i) n m h g = (h, omega arith)
place_below None n m h g = (g, omega arith)

values_below : (m : ℕ) (c : Counts) → Bounded m m c → AllBelow (m + 1) (values_of (counted_of c))
unfolding counted_of
values_below m c b =
    let a = place_below c.args c.num_positional.0 m b.args b.positional in
    let k = place_below c.kwargs c.flat.0 m b.kwargs b.flat in
    let only : c.num_positional_only.0 ≤ m + 1 = omega (arith, b.only) in
    let positional : c.num_positional.0 ≤ m + 1 = omega (arith, b.positional) in
    let flat : c.flat.0 ≤ m + 1 = omega (arith, b.flat) in
    let args : (place_range (place_of c.args) c.num_positional.0).from ≤ m + 1 = omega (arith, a.0) in
    let kwargs : (place_range (place_of c.kwargs) c.flat.0).from ≤ m + 1 = omega (arith, k.0) in
    (omega arith, (only, (only, (positional, (args, (a.1, (a.1, (kwargs, (kwargs, (k.1, (flat, tt)))))))))))

all_wider : (m n : ℕ) (vs : List ℕ) → m ≤ n → AllBelow m vs → AllBelow n vs
all_wider m n [] h a = tt
all_wider m n (v ∷ vs) h a = (omega (arith, a.0), all_wider m n vs h a.1)

-- THEOREM: "Too many parameters" (def.rs:171) and the unwraps (280, 305, 346) cannot fire: in a table that passes the
-- check every list, accepted or refused, has fewer than 2,100 parameters, and so has every number that unpack counts on
-- the way
module _ (t ns : List ℕ) (node : ℕ) (sound : check_of t ns ≡ accepted [])
    (fits : node_fits t node Parameters ≡ true) where
  pub list_short : length (list_of t ns node) < 2100
  unfolding list_of
  list_short = omega (
    arith,
    stretch_within t ns node Parameters (accepted_clean t ns sound) fits,
    written_short ns node (stretch_of t node),
  )

  pub counts_small : AllAtMost 2100 (reached (list_of t ns node))
  counts_small = at_most_wider _ 2100 (omega (arith, list_short)) _ (counted_at_most (list_of t ns node))

-- THEOREM: every number of an accepted answer is at most 2,100
pub accepted_small : (t ns : List ℕ) (node room : ℕ) {vs : List ℕ} → params_of t ns node room ≡ accepted vs
    → AllBelow 2100 vs
accepted_small t ns node room e =
    let p = accepted_passed t ns node room e in
    let l = list_of t ns node in
    rw p.values (all_wider (length l + 1) 2100 (values_of (counted_of p.counts))
    (omega (arith, list_short t ns node p.sound p.fits))
    (values_below (length l) p.counts (accepted_bounded l p.outcome)))
