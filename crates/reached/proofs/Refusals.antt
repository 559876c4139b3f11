-- A refusal of 80 or more is of the binding itself (`late`), and there of one of its three steps (`steps`): the search
-- for a star, which gives 80, the walk along the arguments, or the search for an empty parameter, which gives 84. So 81
-- to 83 are the walk's (`walking`). Assumes nothing.
use mathlib.Core.Path.{◌≡◌, refl, ◌∙◌}
use mathlib.Core.Bool.{Bool, true, false, not, ◌&&◌}
use mathlib.Core.Logic.{◌⊎◌, inl, inr}
use mathlib.Core.List.{List, [], ◌∷◌}
use Prim.Native.Nat.{ℕ, ◌+◌, ◌<◌, ◌≤◌}
use native.Mathlib.Omega.{arith}
use lib.ListN.{get_or}
use lib.Dec.{eqb}
use Rattle.fields.proofs.Basics.{never}
use Rattle.fields.specs.Choice.{if'}
use Rattle.table.specs.Numbers.{empty_parameter}
use Rattle.forest.specs.Forest.{node_of}
use Rattle.table.specs.Answer.{Answer, accepted, refused, and_then, refused_at}
use Rattle.table.specs.Check.{stretch_of}
use Rattle.deflist.specs.Unpack as outcome
use Rattle.deflist.specs.Unpack.{unpack}
use Rattle.deflist.specs.Limited.{limited}
use Rattle.deflist.proofs.Limited.{limited_accepted}
use Rattle.deflist.specs.declared.Counts.{Counts}
use Rattle.parameters.specs.Indices.{counted_of}
use Rattle.parameters.specs.Params.{list_of}
use Rattle.arguments.specs.Written.{Argument, positional, named, args, kwargs}
use Rattle.arguments.specs.Call as calling
use Rattle.arguments.specs.Job.{outcome_answer}
use Rattle.bind.specs.FlatList.{FlatParam}
use Rattle.bind.specs.Binding.{and_with, along}
use Rattle.bind.specs.Binding.{star_check, empty_check, binding}
use Rattle.bind.specs.Job.{counting, no_words, lists_bound, arguments_at, entry_of, words_of, answered_at, bind_of}
use Rattle.reached.specs.Said.{flats_at}
use Rattle.reached.proofs.Early.{Early, early_entry, EarlyOutcome, early_limited, early_call}

-- a refusal of two checks in order is one of them
-- the first of two steps refuses, or it is passed and the second does
abbrev pub OneRefuses : Answer → (List ℕ → Answer) → ℕ → List ℕ → Type 0
OneRefuses a next n vs = (a ≡ refused n vs) ⊎ ((us : List ℕ) × ((a ≡ accepted us) × (next us ≡ refused n vs)))

either : (a : Answer) (next : Unit {0} → Answer) {n : ℕ} {vs : List ℕ} → and_then a next ≡ refused n vs
    → OneRefuses a (λ us. next tt) n vs
either (accepted us) next e = inr (us, (refl, e))
either (refused m us) next e = inl e

not_early : (a : Answer) (n : ℕ) {vs : List ℕ} → Early a → a ≡ refused n vs → 80 ≤ n → ⊥
not_early (accepted us) n e f h = never (cc)
not_early (refused m us) n e f h = let same : m ≡ n = cc in absurd (omega arith)

with_refused : (a : Answer) (next : List ℕ → Answer) {n : ℕ} {vs : List ℕ} → and_with a next ≡ refused n vs
    → OneRefuses a next n vs
with_refused (accepted us) next e = inr (us, (refl, e))
with_refused (refused m us) next e = inl e

-- 80 and 84 are other numbers
pub star_number : (l : List Argument) (n : ℕ) {vs : List ℕ} → star_check l ≡ refused n vs → n ≡ 80
unfolding star_check
star_number [] n e = never (cc)
star_number (positional r ∷ l) n e = star_number l n e
star_number (named r x ∷ l) n e = star_number l n e
star_number (args r ∷ l) n e = cc
star_number (kwargs r ∷ l) n e = cc

pub empty_number : (k : ℕ) (fs : List FlatParam) (us : List ℕ) (n : ℕ) {vs : List ℕ}
    → empty_check k fs us ≡ refused n vs
    → n ≡ 84
unfolding empty_check
empty_number k [] us n e = never (cc)
empty_number k (p ∷ fs) us n {vs} e = go (not p.default && eqb (get_or us k 0) 0) e
    (λ f. empty_number (k + 1) fs us n f)
  where
    go : (b : Bool) → if' b (λ _. refused_at empty_parameter p.node) (λ _. empty_check (k + 1) fs us) ≡ refused n vs
        → (empty_check (k + 1) fs us ≡ refused n vs → n ≡ 84) → n ≡ 84
    go true e rest = cc
    go false e rest = rest e

-- the lists keep their own rules, and the binding refuses
pub record Late (t ns : List ℕ) (call def : ℕ) (n : ℕ) (vs : List ℕ) : Type 0 where
  pub counts : Counts
  pub outcome : unpack (list_of t ns def) ≡ outcome.accepted counts
  pub call_values : List ℕ
  pub in_order : outcome_answer (calling.unpack (arguments_at t ns call)) ≡ accepted call_values
  pub refuses : binding (counted_of counts) (flats_at t ns def)
      (no_words (counted_of counts) (arguments_at t ns call)) (arguments_at t ns call) ≡ refused n vs

-- a refusal 81 to 83 is the walk's
pub record Walking (t ns : List ℕ) (call def : ℕ) (n : ℕ) (vs : List ℕ) : Type 0 where
  pub counts : Counts
  pub outcome : unpack (list_of t ns def) ≡ outcome.accepted counts
  pub call_values : List ℕ
  pub in_order : outcome_answer (calling.unpack (arguments_at t ns call)) ≡ accepted call_values
  pub stops : along (counted_of counts).flat (counted_of counts).indices (flats_at t ns def) 0
      (no_words (counted_of counts) (arguments_at t ns call)) (arguments_at t ns call) ≡ refused n vs

module _ (t ns : List ℕ) (call def : ℕ) where
  abbrev qs : List Argument
  qs = arguments_at t ns call

  -- the def's list, then the call's arguments, then the binding: the first two give no number of 80 or more
  late_lists : (n : ℕ) {vs : List ℕ} → 80 ≤ n → (o : outcome.Outcome)
      → limited (node_of def (stretch_of t def)) (list_of t ns def) ≡ o → EarlyOutcome o
      → counting o (λ c. and_then (outcome_answer (calling.unpack qs)) (λ _.
      binding c (flats_at t ns def) (no_words c qs) qs)) ≡ refused n vs → Late t ns call def n vs
  late_lists n {vs} low (outcome.accepted c) u early b = go (either (outcome_answer (calling.unpack qs)) _ b)
    where
      go : OneRefuses (outcome_answer (calling.unpack qs))
          (λ _. binding (counted_of c) (flats_at t ns def) (no_words (counted_of c) qs) qs) n vs
          → Late t ns call def n vs
      go (inl y) = absurd (not_early (outcome_answer (calling.unpack qs)) n (early_call qs) y low)
      go (inr (values, (ordered, refuses))) = record {
        counts = c;
        outcome = (limited_accepted _ (list_of t ns def) u).1;
        call_values = values;
        in_order = ordered;
        refuses = refuses;
      }
  late_lists n low (outcome.refused m r) u early b = let same : m ≡ n = cc in absurd (omega arith)
  late_lists n low (outcome.repeated i r) u early b = let same : n ≡ 11 = cc in absurd (omega arith)
  late_lists n low (outcome.internal x r) u early b = let same : n ≡ 0 = cc in absurd (omega arith)

  -- LAW: nor does the entry, so such a refusal is the binding's
  pub late : (room n : ℕ) {vs : List ℕ} → bind_of t ns call def room ≡ refused n vs → 80 ≤ n → Late t ns call def n vs
  unfolding bind_of words_of lists_bound
  late room n {vs} e low = by_words (words_of t ns call def room) refl e
    where
      by_words : (a : Answer) → words_of t ns call def room ≡ a → answered_at a t ns call def ≡ refused n vs
          → Late t ns call def n vs
      by_words (accepted ws) w e = never (cc)
      by_words (refused m us) w e = go (either (entry_of t ns call def room) _ (w ∙ e))
        where
          go : OneRefuses (entry_of t ns call def room)
              (λ _. lists_bound (node_of def (stretch_of t def)) (list_of t ns def) qs) n vs → Late t ns call def n vs
          go (inl y) = absurd
              (not_early (entry_of t ns call def room) n (early_entry t ns call def room) y low)
          go (inr (us, (entered, refuses))) = late_lists n low
              (limited (node_of def (stretch_of t def)) (list_of t ns def)) refl
              (early_limited _ (list_of t ns def)) refuses

  abbrev fold : Counts → Answer
  fold c = along (counted_of c).flat (counted_of c).indices (flats_at t ns def) 0 (no_words (counted_of c) qs) qs

  -- the step that refuses: those before it accept
  abbrev pub Steps : Counts → ℕ → List ℕ → Type 0
  Steps c n vs = (star_check qs ≡ refused n vs)
      ⊎ ((us : List ℕ) × ((star_check qs ≡ accepted us)
      × OneRefuses (fold c) (λ ws. empty_check 0 (flats_at t ns def) ws) n vs))

  -- the last step: what follows it accepts
  last_step : (us : List ℕ) (n : ℕ) {vs : List ℕ}
      → and_then (empty_check 0 (flats_at t ns def) us) (λ _. accepted us) ≡ refused n vs
      → empty_check 0 (flats_at t ns def) us ≡ refused n vs
  last_step us n {vs} x = go (either (empty_check 0 (flats_at t ns def) us) _ x)
    where
      go : OneRefuses (empty_check 0 (flats_at t ns def) us) (λ _. accepted us) n vs
          → empty_check 0 (flats_at t ns def) us ≡ refused n vs
      go (inl y) = y
      go (inr (ws, (s, y))) = never (cc)

  -- LAW: one of the three steps refuses
  pub steps : (c : Counts) (n : ℕ) {vs : List ℕ}
      → binding (counted_of c) (flats_at t ns def) (no_words (counted_of c) qs) qs ≡ refused n vs → Steps c n vs
  unfolding binding
  steps c n {vs} b = first (either (star_check qs) _ b)
    where
      rest : List ℕ → Answer
      rest ws = and_then (empty_check 0 (flats_at t ns def) ws) (λ _. accepted ws)

      second : (us : List ℕ) → star_check qs ≡ accepted us → OneRefuses (fold c) rest n vs → Steps c n vs
      second us s (inl y) = inr (us, (s, inl y))
      second us s (inr (ws, (walked, y))) = inr (us, (s, inr (ws, (walked, last_step ws n y))))

      first : OneRefuses (star_check qs) (λ _. and_with (fold c) rest) n vs → Steps c n vs
      first (inl y) = inl y
      first (inr (us, (s, y))) = second us s (with_refused (fold c) rest y)

  pub walking : (room n : ℕ) {vs : List ℕ} → bind_of t ns call def room ≡ refused n vs → 80 < n
      → n < 84 → Walking t ns call def n vs
  walking room n {vs} e low high = let l = late room n e (omega arith) in go l (steps l.counts n l.refuses)
    where
      go : (l : Late t ns call def n vs) → Steps l.counts n vs → Walking t ns call def n vs
      go l (inl y) = absurd (omega (arith, star_number qs n y))
      go l (inr (us, (s, inl y))) = record {
        counts = l.counts;
        outcome = l.outcome;
        call_values = l.call_values;
        in_order = l.in_order;
        stops = y;
      }
      go l (inr (us, (s, inr y))) = absurd (omega (arith, empty_number 0 (flats_at t ns def) y.0 n y.1.1))
