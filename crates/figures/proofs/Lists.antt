-- The modes of an accepted list are counted from its ranges. An accepted list has a cut (demand 3); unpack counts the
-- lengths of its parts, and its modes are runs of equal modes, one for each part. So the lengths of the ranges are
-- the numbers of occurrences of the modes (`modes_counted`). The ranges follow one another (`ranged`), so no
-- subtraction goes below 0. Assumes nothing.
use Rattle.std.specs.Prelude.{Err, Ok, Result}
use mathlib.Core.Path.{◌≡◌, refl, sym, ap, ◌∙◌}
use mathlib.Core.List.{List, [], ◌∷◌, ◌++◌}
use Prim.Native.Nat.{ℕ, ◌+◌, ◌-◌}
use native.Mathlib.Omega.{arith}
use lib.ListN.{length, replicate}
use lib.Dec.{eqb}
use Rattle.fields.specs.Choice.{if'}
use Rattle.forest.specs.Forest.{Node}
use Rattle.deflist.specs.Written.{Param}
use Rattle.deflist.specs.Unpack.{Outcome, accepted, refused, repeated, internal, unpack, modes}
use Rattle.deflist.specs.Limited.{limited}
use Rattle.deflist.specs.Told.{told}
use Rattle.deflist.specs.declared.Counts.{Counts}
use Rattle.deflist.specs.declared.Fault.{Fault}
use Rattle.deflist.proofs.Limited.{limited_accepted}
use Rattle.demand3.specs.Cut.{Star, no_star, bare, starred, Last, no_kwargs, with_kwargs, Cut, args_part, kwargs_part}
use Rattle.demand3.specs.Cut.{firsts, after_star, ordinary, parts_of, part_modes}
use Rattle.demand3.proofs.Counting.{args_place, kwargs_place}
use Rattle.demand3.proofs.Cuts.{cut_counts, cut_accepted, accepted_cut, cut_modes}
use Rattle.table.specs.Answer.{Answer}
use Rattle.table.specs.declared.Refusal.{Refusal}
use Rattle.arguments.specs.Job.{called}
use Rattle.arguments.specs.declared.CallArgs.{CallArgs}
use Rattle.figures.specs.Adding.{added}
use Rattle.figures.specs.Counting.{occurrences}
use Rattle.figures.specs.Walking.{only, plus, places, Ranged, RangedIn, range_counts, judged_counts}
use Rattle.figures.specs.Walking.{list_figures, call_figures}
use Rattle.figures.proofs.Additions.{added_twice, added_next, added_trailing}
use Rattle.figures.proofs.Occurring.{occurs_append, occurs_run}

-- `*args` and `**kwargs` of a cut
args_places : (s : Star) (m : ℕ) → places (args_place s m) ≡ length (args_part s)
args_places no_star m = refl
args_places (bare r qs) m = refl
args_places (starred r n qs) m = refl

kwargs_places : (k : Last) (m : ℕ) → places (kwargs_place k m) ≡ length (kwargs_part k)
kwargs_places no_kwargs m = refl
kwargs_places (with_kwargs r n) m = refl

-- five numbers that are the same
row : {p q r t u p' q' r' t' u' : ℕ} → p ≡ p' → q ≡ q' → r ≡ r' → t ≡ t' → u ≡ u'
    → ◌≡◌ {A = List ℕ} (p ∷ q ∷ r ∷ t ∷ u ∷ []) (p' ∷ q' ∷ r' ∷ t' ∷ u' ∷ [])
row e f g h i = rw (e, f, g, h, i) refl

-- five runs of equal modes, in the order of the parts
five_runs : (m a b s n k : ℕ) → occurrences m (replicate a 1 ++ (replicate b 2 ++ (replicate s 4 ++ (replicate n 3
    ++ replicate k 5)))) ≡ if' (eqb 1 m) (λ _. a) (λ _. 0) + (if' (eqb 2 m) (λ _. b) (λ _. 0)
    + (if' (eqb 4 m) (λ _. s) (λ _. 0) + (if' (eqb 3 m) (λ _. n) (λ _. 0) + if' (eqb 5 m) (λ _. k) (λ _. 0))))
five_runs m a b s n k = simp (occurs_append, occurs_run)

-- the occurrences of the modes 1 to 5
abbrev pub mode_counts : List ℕ → List ℕ
mode_counts ms = occurrences 1 ms ∷ occurrences 2 ms ∷ occurrences 3 ms ∷ occurrences 4 ms ∷ occurrences 5 ms ∷ []

runs_counted : (a b s n k : ℕ) → mode_counts (replicate a 1 ++ (replicate b 2 ++ (replicate s 4 ++ (replicate n 3
    ++ replicate k 5)))) ≡ a ∷ b ∷ n ∷ s ∷ k ∷ []
runs_counted a b s n k = row (at 1 ∙ omega arith) (at 2 ∙ omega arith) (at 3 ∙ omega arith) (at 4 ∙ omega arith)
    (at 5 ∙ omega arith)
  where
    at : (m : ℕ) → occurrences m (replicate a 1 ++ (replicate b 2 ++ (replicate s 4 ++ (replicate n 3
        ++ replicate k 5)))) ≡ if' (eqb 1 m) (λ _. a) (λ _. 0) + (if' (eqb 2 m) (λ _. b) (λ _. 0)
        + (if' (eqb 4 m) (λ _. s) (λ _. 0) + (if' (eqb 3 m) (λ _. n) (λ _. 0) + if' (eqb 5 m) (λ _. k) (λ _. 0))))
    at m = five_runs m a b s n k

-- what a cut counts
module _ (c : Cut) where
  abbrev positional : ℕ
  positional = length (ordinary (firsts c.before)) + length (ordinary c.middle)

  abbrev before_kwargs : ℕ
  before_kwargs = positional + length (args_part c.star) + length (ordinary (after_star c.star))

  cut_ranged : Ranged (cut_counts c)
  cut_ranged = record {
    before = omega arith;
    behind = omega (arith, args_places c.star positional, kwargs_places c.last before_kwargs);
  }

  cut_counted : range_counts (cut_counts c) ≡ mode_counts (part_modes (parts_of c))
  cut_counted =
      let args = args_places c.star positional in
      let kwargs = kwargs_places c.last before_kwargs in
      let named : ℕ = length (ordinary (after_star c.star)) in
      let second : positional - length (ordinary (firsts c.before)) ≡ length (ordinary c.middle) = omega arith in
      let third : before_kwargs + length (kwargs_part c.last) - (positional
      + places (args_place c.star positional) + places (kwargs_place c.last before_kwargs)) ≡ named =
      omega (arith, args, kwargs) in
      row refl second third args kwargs ∙ sym (runs_counted _ _ _ named _)

-- an accepted list is joined from a cut, which has its counts and its modes
record Joined (l : List Param) (c : Counts) : Type 0 where
  cut : Cut
  counts_are : c ≡ cut_counts cut
  modes_are : modes l ≡ part_modes (parts_of cut)

module _ (l : List Param) {c : Counts} (h : unpack l ≡ accepted c) where
  joined : Joined l c
  joined =
      let (d, is, rules) = accepted_cut l h in
      let same : accepted c ≡ accepted (cut_counts d) = sym h ∙ ap unpack (sym is) ∙ cut_accepted d rules in
      record { cut = d; counts_are = cc; modes_are = ap modes (sym is) ∙ cut_modes d rules.slash }

  -- LAW: the ranges follow one another
  pub ranged : Ranged c
  ranged = rw joined.counts_are (cut_ranged joined.cut)

-- five counters, added one after another by the code
pub modes_added : (a : List ℕ) {b c d e f : List ℕ} (v w x y z : ℕ) → b ≡ added a (only 3 v) → c ≡ added b (only 4 w)
    → d ≡ added c (only 5 x) → e ≡ added d (only 6 y) → f ≡ added e (only 7 z)
    → f ≡ added a (0 ∷ 0 ∷ 0 ∷ v ∷ w ∷ x ∷ y ∷ z ∷ [])
unfolding only
modes_added a {b} {c} {d} {e} {f} v w x y z b_is c-is d-is e-is f-is =
    let one : c ≡ added a (0 ∷ 0 ∷ 0 ∷ v ∷ w ∷ []) = c-is ∙ rw b_is (added_next a (0 ∷ 0 ∷ 0 ∷ v ∷ []) w) in
    let two : d ≡ added a (0 ∷ 0 ∷ 0 ∷ v ∷ w ∷ x ∷ []) = d-is ∙ rw one (added_next a (0 ∷ 0 ∷ 0 ∷ v ∷ w ∷ []) x) in
    let three : e ≡ added a (0 ∷ 0 ∷ 0 ∷ v ∷ w ∷ x ∷ y ∷ []) =
    e-is ∙ rw two (added_next a (0 ∷ 0 ∷ 0 ∷ v ∷ w ∷ x ∷ []) y) in
    f-is ∙ rw three (added_next a (0 ∷ 0 ∷ 0 ∷ v ∷ w ∷ x ∷ y ∷ []) z)

-- if a list is accepted, its ranges follow one another
pub told_ranged : (owner : Node) (l : List Param) {j : Result Counts Fault} → j ≡ told (limited owner l) → RangedIn j
told_ranged owner l j-is = rw j-is (go (limited owner l) refl)
  where
    go : (o : Outcome) → limited owner l ≡ o → RangedIn (told o)
    go (accepted c) e = ranged l (limited_accepted owner l e).1
    go (refused n r) e = tt
    go (repeated k r) e = tt
    go (internal k r) e = tt

pub ranged_accepted : {j : Result Counts Fault} → RangedIn j → {c : Counts} → j ≡ Ok c → Ranged c
ranged_accepted r e = rw e at r

-- what the code counts from the ranges, with its own counts of `*args` and `**kwargs`
pub ranges_are : (c : Counts) {a k : ℕ} → a ≡ places c.args → k ≡ places c.kwargs
    → c.num_positional_only.0 ∷ (c.num_positional.0 - c.num_positional_only.0)
    ∷ (c.flat.0 - (c.num_positional.0 + a + k)) ∷ a ∷ k ∷ [] ≡ range_counts c
ranges_are c a-is k_is = rw (a-is, k_is) refl

pub counts_accepted : {j : Result Counts Fault} {c : Counts} → j ≡ Ok c → {l : List ℕ} → l ≡ range_counts c
    → l ≡ judged_counts j
counts_accepted e l-is = rw e l-is

pub counts_refused : {j : Result Counts Fault} {f : Fault} → j ≡ Err f → 0 ∷ 0 ∷ 0 ∷ 0 ∷ 0 ∷ [] ≡ judged_counts j
counts_refused e = rw e refl

-- what the code adds for a list
pub list_added : (start : List ℕ) {j k : Result Counts Fault} → j ≡ k → {xs : List ℕ} → xs ≡ added start (only 2 1)
    → {m n q r s : ℕ} → m ∷ n ∷ q ∷ r ∷ s ∷ [] ≡ judged_counts j
    → {ys : List ℕ} → ys ≡ added xs (0 ∷ 0 ∷ 0 ∷ m ∷ n ∷ q ∷ r ∷ s ∷ []) → ys ≡ added start (list_figures k)
unfolding only plus
list_added start {j} {k} j-is xs-is {m} {n} {q} {r} {s} e ys-is =
    let figures : 0 ∷ 0 ∷ 1 ∷ m ∷ n ∷ q ∷ r ∷ s ∷ [] ≡ list_figures k =
    ap (λ (x : List ℕ). 0 ∷ 0 ∷ 1 ∷ x) e ∙ ap list_figures j-is in
    ys-is ∙ rw xs-is (added_twice start (only 2 1) _ ∙ ap (added start) figures)

-- what the code adds for a call
module _ (start : List ℕ) {r : Result CallArgs Refusal} {a : Answer} (r-is : called r ≡ a) {ys : List ℕ} where
  pub call_accepted : {x : CallArgs} → r ≡ Ok x → ys ≡ added start (only 8 1)
      → ys ≡ added start (call_figures a)
  unfolding only
  call_accepted h ys-is = ys-is ∙ sym (added_trailing start (only 8 1) 1)
      ∙ ap (λ (b : Answer). added start (call_figures b)) (ap called (sym h) ∙ r-is)

  pub call_refused : {why : Refusal} → r ≡ Err why → ys ≡ added start (only 9 1)
      → ys ≡ added start (call_figures a)
  unfolding only
  call_refused h ys-is = ys-is ∙ ap (λ (b : Answer). added start (call_figures b)) (ap called (sym h) ∙ r-is)

-- LAW: the lengths of the ranges are the numbers of occurrences of the modes
pub modes_counted : (l : List Param) {c : Counts} → unpack l ≡ accepted c → range_counts c ≡ mode_counts (modes l)
modes_counted l h = let j = joined l h in rw (j.counts_are, j.modes_are) (cut_counted j.cut)
