-- The job, return by return, in the terms of code. `unpack_into` gives 7 for a short buffer (`into_short`), else the
-- answer for what `unpack` says of the list (`into_told`): a refusal leaves the buffer, an accepted list has its modes
-- at the front (`Kept`). The modes that code writes from the first state on are those of the list, because that state
-- follows from the count (`same_modes`). All numbers fit 32 bits (`told_small`), since a list is shorter than its
-- stretch. `params` puts 1 to 4 and 6 before it: cite `params_refused`, `params_left`, `params_answer`, `params_modes`.
-- Assumes nothing.
use Rattle.std.specs.Prelude.{Err, None, Ok, Option, Result, Some, ℕ}
use Rattle.deflist.specs.declared.Flat.{Flat}
use mathlib.Core.Path.{◌≡◌, refl, sym, ap, ◌∙◌}
use mathlib.Core.Bool.{Bool, true, false}
use mathlib.Core.List.{List, [], ◌∷◌, ◌++◌}
use Prim.Native.Nat.{ℕ, ◌+◌, ◌/◌, ◌<◌, ◌≤◌}
use native.Mathlib.Nat.{zero-add}
use native.Mathlib.Omega.{arith}
use lib.ListN.{length, drop}
use lib.Seq.{sets, sets-eq}
use lib.Dec.{ltb}
use borrow.Author.Tests.{le-leb, lt-leb, ltb-true, ltb-false}
use Rattle.fields.proofs.Basics.{clash}
use Rattle.forest.specs.Forest.{node_of, kids_of, forest}
use Rattle.table.specs.Numbers.{short_buffer}
use Rattle.table.specs.Answer.{Answer, accepted, refused, refusal, checked, earlier_values, span_values}
use Rattle.table.specs.Check.{Headed, stretch_of, entry_check}
use Rattle.table.specs.declared.Refusal.{Refusal}
use Rattle.table.specs.declared.Wanted.TheVariants.{Parameters}
use Rattle.table.proofs.Entering.{job_refused, job_is}
use Rattle.deflist.specs.Written.{params_in, root_in, written_in, written}
use Rattle.deflist.specs.Unpack as def
use Rattle.deflist.specs.Unpack.{modes}
use Rattle.deflist.specs.Limited.{limited}
use Rattle.deflist.specs.Told.{told}
use Rattle.deflist.specs.Reading.{NotPast, Inside, PlaceBelow, Bounded, Exceeds}
use Rattle.deflist.specs.declared.State.{State}
use Rattle.deflist.specs.declared.Counts.{Counts}
use Rattle.deflist.proofs.Theorems.{accepted_bounded, accepted_only, written_short, modes_short, told_accepted}
use Rattle.deflist.proofs.Limited.{limited_accepted}
use Rattle.parameters.specs.declared.Counted.{Counted}
use Rattle.deflist.specs.declared.Fault.{Fault}
use Rattle.parameters.specs.Indices.{values_of, counted_of}
use Rattle.parameters.specs.Params.{answer_of, list_answer, list_of, params_of, afterwards, modes_after}
use Rattle.parameters.specs.Writing.{is_refused, first_of, judged_answer, Small, AtMost, Modes, Kept}
use Rattle.parameters.specs.Writing.{Leaves, earlier_place, fault_answer, SmallFault}

-- wider bounds
place_wider : {m n : ℕ} (p : Option Flat) → PlaceBelow m p → m ≤ n → PlaceBelow n p
place_wider None h g = tt
place_wider (Some i) h g = omega arith

bounded_wider : {m n : ℕ} (c : Counts) → Bounded m m c → m ≤ n → Bounded n n c
bounded_wider c b h = record {
  positional = omega (arith, b.positional);
  only = omega (arith, b.only);
  args = place_wider c.args b.args h;
  kwargs = place_wider c.kwargs b.kwargs h;
  flat = omega (arith, b.flat);
}

not_past_wider : {m n : ℕ} (f : Option ℕ) → NotPast m f → m ≤ n → NotPast n f
not_past_wider (Some i) h g = omega arith
not_past_wider None h g = tt

-- a refusal at a parameter, as the table has it
module _ (found : Option ℕ) where
  pub earlier_at : {i : ℕ} → found ≡ Some i → Some i ≡ earlier_place found
  earlier_at h = rw h refl

  pub earlier_small : NotPast 4294967295 found → {i : ℕ} → found ≡ Some i → i < 4294967296
  earlier_small small h = omega (arith, rw h at small)

pub fault_answer_lem : (f : Fault) {p : Option ℕ} {u : Answer} → p ≡ earlier_place f.earlier
    → u ≡ refused f.number (f.node ∷ span_values f.span ++ earlier_values p) → u ≡ fault_answer f
fault_answer_lem f p-is u-is = u-is ∙ rw p-is refl

-- the job's answer for what unpack says
judged_answer_lem : (o : def.Outcome) → judged_answer (told o) ≡ answer_of o
judged_answer_lem (def.accepted c) = refl
judged_answer_lem (def.refused n r) = refl
judged_answer_lem (def.repeated i r) = refl
judged_answer_lem (def.internal e r) = refl

-- an accepted answer of unpack, and a refused one
module _ {j : Result Counts Fault} {c : Counts} (j-is : j ≡ Ok c) where
  pub accepted_small : Small j → Bounded 4294967295 4294967295 c
  accepted_small h = rw j-is at h

  pub accepted_answer : {r : Counted} → r ≡ counted_of c → accepted (values_of r) ≡ judged_answer j
  accepted_answer r-is = rw (j-is, r-is) refl

  pub accepted_first : {s : State} → s ≡ def.first_state c.num_positional_only → s ≡ first_of j
  accepted_first s-is = s-is ∙ sym (ap first_of j-is)

module _ {j : Result Counts Fault} {f : Fault} (j-is : j ≡ Err f) where
  pub refused_small : Small j → SmallFault f
  refused_small h = rw j-is at h

  pub refused_answer : {u : Answer} → u ≡ fault_answer f → u ≡ judged_answer j
  refused_answer u-is = u-is ∙ sym (ap judged_answer j-is)

-- the modes are kept by a refusal, and written where the list is accepted
module _ (kids ms : List ℕ) {j : Result Counts Fault} {b : Bool} (b_is : b ≡ is_refused j) where
  pub kept_left : b ≡ true → Kept kids j ms ms
  kept_left h = record { left = λ e. refl; wrote = λ e. clash (sym b_is ∙ h) e }

  pub kept_wrote : b ≡ false → {s : State} → s ≡ first_of j → {ms' : List ℕ} → Modes kids s ms ms'
      → Kept kids j ms ms'
  kept_wrote h s-is w = record { left = λ e. clash e (sym b_is ∙ h); wrote = λ e. rw (← s-is) w }

-- room for as many as are listed
pub listed_most : {kids : List ℕ} {n : ℕ} {b : Bool} → Exceeds n kids b → b ≡ false → AtMost kids n
listed_most {kids} {n} b_is b-no = record {
  most = λ names i. ltb-false n (length (params_in names (forest i kids))) (sym (b_is.says names i) ∙ b-no);
}

-- the outcome of a node's list, and what follows for unpack's where it is accepted
abbrev outcome : List ℕ → List ℕ → ℕ → def.Outcome
outcome ns t node = limited (node_of node t) (written ns node t)

told_counts : (ns t : List ℕ) (node : ℕ) {c : Counts} → Ok c ≡ told (outcome ns t node)
    → def.unpack (written ns node t) ≡ def.accepted c
told_counts ns t node h =
    (limited_accepted (node_of node t) (written ns node t) (told_accepted (outcome ns t node) (sym h))).1

-- every number of the answer is small
pub told_small : (ns t : List ℕ) (node : ℕ) (j : Result Counts Fault)
    → j ≡ told (limited (node_of node t) (written ns node t)) → Inside (node + 1 + length t / 24) j → Headed node t
    → Small j
told_small ns t node (Ok c) j-is h short =
    bounded_wider c (accepted_bounded (written ns node t) (told_counts ns t node j-is))
    (omega (arith, written_short ns node t))
told_small ns t node (Err f) j-is h short =
    (omega (arith, h.0), not_past_wider f.earlier h.1 (omega arith))

-- the list of a node: b is whether it is longer than the buffer
module _ (ns t ms : List ℕ) (node : ℕ) {kids : List ℕ} (kids_are : kids ≡ kids_of t) {b : Bool}
    (b_is : Exceeds (length ms) kids b) where
  list_long : b ≡ ltb (length ms) (length (written ns node t))
  unfolding written
  list_long = rw kids_are at (b_is.says ns (node + 1))

  pub into_short : b ≡ true → Leaves (node_of node t) (written ns node t) ms (refused short_buffer []) ms
  unfolding list_answer
  into_short h =
      let more = ltb-true (length ms) (length (written ns node t)) (sym list_long ∙ h) in
      let short = lt-leb (length (written ns node t)) (length ms) more in
      record { answer = rw short refl; buffer = rw short refl }

  same_modes : {c : Counts} → def.unpack (written ns node t) ≡ def.accepted c
      → def.modes_from (def.first_state c.num_positional_only) (params_in ns (forest (node + 1) kids))
      ≡ modes (written ns node t)
  unfolding modes written
  same_modes outcome = rw (accepted_only (written ns node t) outcome, kids_are) refl

  module _ (b-no : b ≡ false) where
    room : length (written ns node t) ≤ length ms
    room = ltb-false (length ms) (length (written ns node t)) (sym list_long ∙ b-no)

    stored : sets ms 0 (modes (written ns node t))
        ≡ modes (written ns node t) ++ drop (length (modes (written ns node t))) ms
    stored =
        rw zero-add at (sets-eq (modes (written ns node t)) ms 0
        (omega (arith, modes_short (written ns node t), room)))

    pub into_told : {j : Result Counts Fault} → j ≡ told (limited (node_of node t) (written ns node t)) → {ms' : List ℕ}
        → Kept kids j ms ms' → {u : Answer} → u ≡ judged_answer j
        → Leaves (node_of node t) (written ns node t) ms u ms'
    unfolding list_answer
    into_told {j} j-is {ms'} k u-is =
        let enough = le-leb (length (written ns node t)) (length ms) room in
        let answer_is = ap judged_answer j-is ∙ judged_answer_lem (outcome ns t node) in
        record {
          answer = rw enough (u-is ∙ answer_is);
          buffer = rw (enough, ← answer_is) (go j j-is k);
        }
      where
        go : (x : Result Counts Fault) → x ≡ told (outcome ns t node) → Kept kids x ms ms'
            → ms' ≡ afterwards (judged_answer x) (modes (written ns node t)) ms
        go (Ok c) e k = (k.wrote refl).wrote ns (node + 1)
            ∙ ap (sets ms 0) (same_modes (told_counts ns t node e)) ∙ stored
        go (Err f) e k = k.left refl

-- 1 to 4, 6, then the list
module _ (t ns : List ℕ) (node : ℕ) {e : Result (Unit {0}) Refusal}
    (e-is : checked e ≡ entry_check Parameters t ns node) where
  module _ {why : Refusal} (h : e ≡ Err why) where
    pub params_refused : (room : ℕ) → refusal why ≡ params_of t ns node room
    unfolding params_of
    params_refused room =
        job_refused Parameters t ns node e-is (λ tree. list_answer (root_in tree) (written_in ns tree) room) h

    pub params_left : (ms : List ℕ) → ms ≡ modes_after t ns node ms
    unfolding modes_after
    params_left ms = rw (← (params_refused (length ms))) refl

  module _ (good : e ≡ Ok tt) {s : List ℕ} (s-is : s ≡ stretch_of t node) {ms : List ℕ} {u : Answer} {ms' : List ℕ}
      (h : Leaves (node_of node s) (written ns node s) ms u ms') where
    params_is : params_of t ns node (length ms) ≡ list_answer (node_of node s) (written ns node s) (length ms)
    unfolding params_of written
    params_is = rw s-is (job_is Parameters t ns node e-is good
        (λ tree. list_answer (root_in tree) (written_in ns tree) (length ms)))

    pub params_answer : u ≡ params_of t ns node (length ms)
    params_answer = h.answer ∙ sym params_is

    pub params_modes : ms' ≡ modes_after t ns node ms
    unfolding modes_after list_of
    params_modes = rw (params_is, ← s-is) h.buffer
