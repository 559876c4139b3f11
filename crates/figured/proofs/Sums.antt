-- The report of two joined inputs is the sum of their reports. Two reports over the same bytes, from other counters
-- and another place, take the same steps as long as 76 ends neither: a step reads only the counter of files, and only
-- for 76. So both add the same figures (`run_both`), and both end at the same distance from their beginning. With the
-- report of the second input from zeros this is the sum (`report_sums`): adding figures that were limited to 64 bits
-- from zeros is adding the figures (`added_held`). The inductions are over the steps (Induction). Assumes nothing.
use Rattle.std.specs.Prelude.{Err, Ok}
use mathlib.Core.Path.{◌≡◌, refl, sym, ap, ap₂, ◌∙◌}
use mathlib.Core.Bool.{Bool, true, false}
use mathlib.Core.List.{List, [], ◌∷◌, ◌++◌}
use Prim.Native.Nat.{ℕ, zero, suc, ◌+◌, ◌<◌, ◌≤◌}
use native.Mathlib.Omega.{arith}
use lib.ListN.{length, get_or, drop, replicate}
use lib.Dec.{ltb}
use borrow.Author.Tests.{ne_eqb, lt-ltb, ltb-true}
use Rattle.fields.proofs.Basics.{never, clash}
use Rattle.table.specs.Answer.{Answer, accepted, refused}
use Rattle.tablefile.specs.Reading.{header_at, content_at}
use Rattle.figures.specs.Counting.{figures_of}
use Rattle.figures.specs.Adding.{held, added}
use Rattle.figures.specs.Walking.{plus}
use Rattle.table.specs.Numbers.{too_many_files}
use Rattle.figures.specs.Reporting.{most_files, step_check, told, counted, step_of}
use Rattle.figures.specs.Reporting.{figures_after, whole, ended_by, report_from, zeros, report_of}
use Rattle.figures.specs.declared.Ending.{Ending}
use Rattle.figures.specs.declared.Ending.TheVariants.{Whole, Refused as RefusedAt}
use Rattle.figures.specs.declared.Reported.{Reported}
use Rattle.figures.proofs.Additions.{added_none, added_zeros, added_twice, added_length}
use Rattle.figures.proofs.Running.{report_none, report_on, report_stop}
use Rattle.figured.specs.Said.{later, summed, ended_by76}
use Rattle.figured.proofs.Induction.{report_induction}
use Rattle.figured.proofs.Joins.{report_joined}

-- a step from other counters
module _ (w fs : List ℕ) (some : length w ≡ 0 → ⊥) where
  pub step_is : step_of w fs ≡ told (step_check w fs) (header_at w).taken
  unfolding step_of
  step_is = rw (ne_eqb (length w) 0 some) refl

  -- a step that continues adds the figures of the file at the front
  pub taken_adds : {n : ℕ} → step_of w fs ≡ Ok n → figures_after w fs ≡ added fs (figures_of (content_at w))
  unfolding figures_after
  taken_adds {n} e = rw (ne_eqb (length w) 0 some) (go (step_check w fs) (sym step_is ∙ e))
    where
      go : (a : Answer) → told a (header_at w).taken ≡ Ok n
          → counted a fs (figures_of (content_at w)) ≡ added fs (figures_of (content_at w))
      go (accepted vs) h = refl
      go (refused k vs) h = never (cc)

  -- a step that is not 76 is not 76 from counters with fewer files
  step_alike : (gs : List ℕ) → get_or gs 0 0 ≤ get_or fs 0 0 → (step_of w fs ≡ Err too_many_files → ⊥)
      → step_of w gs ≡ step_of w fs
  unfolding step_of step_check
  step_alike gs fewer not = go (ltb (get_or fs 0 0) most_files) refl
    where
      go : (b : Bool) → ltb (get_or fs 0 0) most_files ≡ b → step_of w gs ≡ step_of w fs
      go true e =
          let below : get_or gs 0 0 < most_files = omega (arith, ltb-true (get_or fs 0 0) most_files e, fewer) in
          rw (e, lt-ltb (get_or gs 0 0) most_files below) refl
      go false e = absurd (not (rw (ne_eqb (length w) 0 some, e) refl))

-- the counter of files, and the number of counters
held_more : (x y z : ℕ) → x ≤ y → held x z ≤ held y z
unfolding held
held_more x y z h = omega (arith, h)

files_more : (fs gs xs : List ℕ) → length gs ≤ length fs → get_or gs 0 0 ≤ get_or fs 0 0
    → get_or (added gs xs) 0 0 ≤ get_or (added fs xs) 0 0
unfolding added
files_more fs [] xs long h = omega arith
files_more [] (g ∷ gs) xs long h = absurd (omega (arith, long))
files_more (f ∷ fs) (g ∷ gs) [] long h = h
files_more (f ∷ fs) (g ∷ gs) (x ∷ xs) long h = held_more g f x h

-- adding figures that were limited to 64 bits from zeros is adding the figures
held_held : (x y : ℕ) → held x (held 0 y) ≡ held x y
unfolding held
held_held x y = omega arith

pub added_held : (n : ℕ) (fs xs : List ℕ) → length fs ≤ n → added fs (added (replicate n 0) xs) ≡ added fs xs
unfolding added
added_held n [] xs h = refl
added_held zero (f ∷ fs) xs h = absurd (omega (arith, h))
added_held (suc n) (f ∷ fs) [] h = added_zeros_there
  where
    added_zeros_there : added (f ∷ fs) (replicate (suc n) 0) ≡ f ∷ fs
    added_zeros_there = added_zeros (f ∷ fs) (suc n)
added_held (suc n) (f ∷ fs) (x ∷ xs) h =
    ap₂ ◌∷◌ (held_held f x) (added_held n fs xs (omega (arith, h)))

-- endings
later_add : (m n : ℕ) (e : Ending) → later m (later n e) ≡ later (m + n) e
later_add m n Whole = refl
later_add m n (RefusedAt k p) = ap (RefusedAt k) (omega arith)

-- a report with its figures and its ending
abbrev ended : List ℕ → Ending → Reported
ended fs e = record { figures = fs; ending = e }

-- two reports over the same bytes
record Both (at from : ℕ) (fs gs b : List ℕ) : Type 0 where
  more : List ℕ
  end : Ending
  one : report_from at fs b ≡ ended (added fs more) (later at end)
  other : report_from from gs b ≡ ended (added gs more) (later from end)

both_none : (at from : ℕ) (fs gs b : List ℕ) → length b ≡ 0 → Both at from fs gs b
both_none at from fs gs b none = record {
  more = [];
  end = Whole;
  one = report_none at fs b none ∙ ap whole (sym (added_none fs));
  other = report_none from gs b none ∙ ap whole (sym (added_none gs));
}

both_stop : (at from : ℕ) (fs gs b : List ℕ) (some : length b ≡ 0 → ⊥) (m : ℕ) → step_of b fs ≡ Err m
    → step_of b gs ≡ Err m → Both at from fs gs b
both_stop at from fs gs b some m e f = record {
  more = [];
  end = RefusedAt m 0;
  one = report_stop at fs b some e ∙ same at fs;
  other = report_stop from gs b some f ∙ same from gs;
}
  where
    same : (n : ℕ) (hs : List ℕ) → ended_by m n hs ≡ ended (added hs []) (RefusedAt m (n + 0))
    same n hs = let p : n + 0 ≡ n = omega arith in rw (p, added_none hs) refl

both_on : (at from : ℕ) (fs gs b : List ℕ) (some : length b ≡ 0 → ⊥) (n : ℕ) → step_of b fs ≡ Ok n
    → step_of b gs ≡ Ok n → Both (at + n) (from + n) (figures_after b fs) (figures_after b gs) (drop n b)
    → Both at from fs gs b
both_on at from fs gs b some n e f rest = record {
  more = plus (figures_of (content_at b)) rest.more;
  end = later n rest.end;
  one = report_on at fs b some e ∙ rest.one ∙ rw (taken_adds b fs some e) (same at fs);
  other = report_on from gs b some f ∙ rest.other ∙ rw (taken_adds b gs some f) (same from gs);
}
  where
    same : (p : ℕ) (hs : List ℕ)
        → ended (added (added hs (figures_of (content_at b))) rest.more) (later (p + n) rest.end)
        ≡ ended (added hs (plus (figures_of (content_at b)) rest.more)) (later p (later n rest.end))
    same p hs = rw (added_twice hs (figures_of (content_at b)) rest.more, later_add p n rest.end) refl

-- 76 ends neither report if it does not end the one with more files
abbrev Not76 : Reported → Type 0
Not76 r = ended_by76 r.ending ≡ false

not_76 : (at : ℕ) (fs b : List ℕ) → (length b ≡ 0 → ⊥) → Not76 (report_from at fs b)
    → step_of b fs ≡ Err too_many_files → ⊥
not_76 at fs b some not e =
    let ends : ended_by76 (report_from at fs b).ending ≡ true
    = ap (λ (r : Reported). ended_by76 r.ending) (report_stop at fs b some e) in
    clash ends not

-- LAW: two reports over the same bytes add the same figures, if 76 does not end the one with more files
abbrev AddSame : ℕ → List ℕ → List ℕ → Type 0
AddSame at fs b = (from : ℕ) (gs : List ℕ) → length gs ≤ length fs → get_or gs 0 0 ≤ get_or fs 0 0
    → Not76 (report_from at fs b) → Both at from fs gs b

run_both : (at : ℕ) (fs b : List ℕ) → AddSame at fs b
run_both = report_induction AddSame record {
  none = λ at fs b none from gs long fewer not. both_none at from fs gs b none;
  stop = λ at fs b some m e from gs long fewer not.
      both_stop at from fs gs b some m e (step_alike b fs some gs fewer (not_76 at fs b some not) ∙ e);
  on = λ at fs b some n e rest from gs long fewer not.
      let xs : List ℕ = figures_of (content_at b) in
      let f : step_of b gs ≡ Ok n = step_alike b fs some gs fewer (not_76 at fs b some not) ∙ e in
      both_on at from fs gs b some n e f (rest (from + n) (figures_after b gs)
      (rw (taken_adds b fs some e, taken_adds b gs some f, added_length fs xs, added_length gs xs) long)
      (rw (taken_adds b fs some e, taken_adds b gs some f) (files_more fs gs xs long fewer))
      (rw (← report_on at fs b some e) not));
}

-- a report has as many counters as it began with
pub report_long : (at : ℕ) (fs b : List ℕ) → length (report_from at fs b).figures ≡ length fs
report_long = report_induction (λ at fs b. length (report_from at fs b).figures ≡ length fs) record {
  none = λ at fs b none. rw (report_none at fs b none) refl;
  stop = λ at fs b some m e. rw (report_stop at fs b some e) refl;
  on = λ at fs b some n e rest. rw (report_on at fs b some e)
      (rest ∙ rw (taken_adds b fs some e) (added_length fs (figures_of (content_at b))));
}

-- THEOREM: two inputs joined give the sums of their two reports, if the first has no refused file and 76 does not arise
pub report_sums : (a b : List ℕ) → (report_of a).ending ≡ Whole → ended_by76 (report_of (a ++ b)).ending ≡ false
    → report_of (a ++ b) ≡ summed (length a) (report_of a) (report_of b)
unfolding report_of
report_sums a b all not =
    let fs : List ℕ = (report_from 0 zeros a).figures in
    let whole-a : report_from 0 zeros a ≡ whole fs = ap (ended fs) all in
    let here : 0 + length a ≡ length a = omega arith in
    let joins : report_from 0 zeros (a ++ b) ≡ report_from (length a) fs b
    = report_joined 0 zeros a b fs whole-a ∙ ap (λ (p : ℕ). report_from p fs b) here in
    let long : length fs ≡ 32 = report_long 0 zeros a in
    let both = run_both (length a) fs b 0 zeros (omega (arith, long)) (omega arith) (rw (← joins) not) in
    joins ∙ both.one ∙ rw both.other (sums fs both.more both.end (omega (arith, long)))
  where
    sums : (fs more : List ℕ) (e : Ending) → length fs ≤ 32
        → ended (added fs more) (later (length a) e)
        ≡ ended (added fs (added zeros more)) (later (length a) (later 0 e))
    sums fs more e few =
        let here : length a + 0 ≡ length a = omega arith in
        rw (added_held 32 fs more few, later_add (length a) 0 e, here) refl
