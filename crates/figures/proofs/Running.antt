-- One step, and the loop of steps. A step that continues takes at least one byte, and no more than there are
-- (`taken_fits`). So as many steps as there are bytes are enough (`enough`), and after a step the report continues as
-- a report from that place: `report_none`, `report_on` and `report_stop` are its three cases, and callers need no
-- others. The loop's invariant is that the counters so far, with the report of the rest, make the report of the input
-- (`Running`). Assumes nothing.
use Rattle.std.specs.Prelude.{Err, Ok, Result, ℕ}
use mathlib.Core.Path.{◌≡◌, refl, sym, ap, ◌∙◌}
use mathlib.Core.Bool.{Bool, true, false}
use mathlib.Core.List.{List, []}
use Prim.Native.Nat.{ℕ, zero, suc, ◌+◌, ◌-◌, ◌<◌, ◌≤◌}
use native.Mathlib.Omega.{arith}
use lib.ListN.{length, get_or, take, drop, length-drop}
use lib.Seq.{drop-drop}
use lib.Dec.{eqb, ltb}
use borrow.Author.Tests.{eq-eqb, ne_eqb, eqb-false, lt-ltb, le-ltb}
use Rattle.fields.specs.Choice.{if'}
use Rattle.fields.proofs.Basics.{never}
use Rattle.fields.proofs.Fields.{tail_part}
use Rattle.table.specs.Answer.{Answer, accepted, refused}
use Rattle.table.proofs.Answers.{passed_both}
use Rattle.blocks.specs.Block.{demand}
use Rattle.tablefile.specs.Reading.{header_at, content_at, front_check, sound_check}
use Rattle.tablefile.proofs.Fronts.{fronted_then, taken_there}
use Rattle.figures.specs.Counting.{figures_of}
use Rattle.table.specs.Numbers.{too_many_files}
use Rattle.figures.specs.Reporting.{most_files, window_check, step_check, told, counted, step_of}
use Rattle.figures.specs.Reporting.{figures_after, whole, ended_by, after_step, report_in, report_from, zeros}
use Rattle.figures.specs.Reporting.{report_of}
use Rattle.figures.proofs.Windows.{taken_least}

-- each return of `step`: no byte; 76; the file at the front
module _ (w fs : List ℕ) where
  pub step_empty : length w ≡ 0 → (Ok 0 ≡ step_of w fs) × (fs ≡ figures_after w fs)
  unfolding step_of figures_after
  step_empty e = rw (eq-eqb (length w) 0 e) (refl, refl)

  module _ (some : length w ≡ 0 → ⊥) where
    step_is : step_of w fs ≡ told (step_check w fs) (header_at w).taken
    unfolding step_of
    step_is = rw (ne_eqb (length w) 0 some) refl

    after_is : figures_after w fs ≡ counted (step_check w fs) fs (figures_of (content_at w))
    unfolding figures_after
    after_is = rw (ne_eqb (length w) 0 some) refl

    pub step_many : most_files ≤ get_or fs 0 0 → (Err too_many_files ≡ step_of w fs) × (fs ≡ figures_after w fs)
    unfolding step_check
    step_many h = rw (step_is, after_is, le-ltb (get_or fs 0 0) most_files h) (refl, refl)

    pub step_front : get_or fs 0 0 < most_files → {s : Result ℕ ℕ} {ys : List ℕ}
        → s ≡ told (window_check w) (header_at w).taken → ys ≡ counted (window_check w) fs (figures_of (content_at w))
        → (s ≡ step_of w fs) × (ys ≡ figures_after w fs)
    unfolding step_check
    step_front h s-is ys-is = rw (step_is, after_is, lt-ltb (get_or fs 0 0) most_files h) (s-is, ys-is)

    -- LAW: a step that continues takes the file at the front, which is present whole
    pub taken_fits : {n : ℕ} → step_of w fs ≡ Ok n → (1 ≤ n) × (n ≤ length w)
    unfolding step_check window_check
    taken_fits {n} e = go (step_check w fs) refl (sym step_is ∙ e)
      where
        go : (a : Answer) → step_check w fs ≡ a → told a (header_at w).taken ≡ Ok n → (1 ≤ n) × (n ≤ length w)
        go (accepted vs) c f =
            let is : (header_at w).taken ≡ n = cc in
            let behind = passed_both (demand (ltb (get_or fs 0 0) most_files) too_many_files) (λ _. window_check w) c in
            let front = passed_both (front_check w) (λ _. sound_check (content_at w)) behind.2 in
            let there = taken_there w (fronted_then w (λ _. accepted []) (rw front.1 refl)).0 in
            (omega (arith, is, taken_least w), omega (arith, is, there))
        go (refused k vs) c f = never (cc)

    -- LAW: a refusal changes nothing
    pub refused_keeps : {k : ℕ} → step_of w fs ≡ Err k → figures_after w fs ≡ fs
    refused_keeps {k} e = rw after_is (go (step_check w fs) (sym step_is ∙ e))
      where
        go : (a : Answer) → told a (header_at w).taken ≡ Err k → counted a fs (figures_of (content_at w)) ≡ fs
        go (accepted vs) f = never (cc)
        go (refused m vs) f = refl

-- LAW: as many steps as there are bytes are enough
enough : (k m at : ℕ) (fs bs : List ℕ) → length bs ≤ k → length bs ≤ m → report_in k at fs bs ≡ report_in m at fs bs
unfolding report_in
enough zero zero at fs bs h g = refl
enough zero (suc m) at fs bs h g = rw (eq-eqb (length bs) 0 (omega arith)) refl
enough (suc k) zero at fs bs h g = rw (eq-eqb (length bs) 0 (omega arith)) refl
enough (suc k) (suc m) at fs bs h g =
    go (eqb (length bs) 0) refl (step_of bs fs) refl (λ n ds i j. enough k m (at + n) ds (drop n bs) i j)
  where
    go : (z : Bool) → eqb (length bs) 0 ≡ z → (s : Result ℕ ℕ) → step_of bs fs ≡ s
        → ((n : ℕ) (ds : List ℕ) → length (drop n bs) ≤ k → length (drop n bs) ≤ m
        → report_in k (at + n) ds (drop n bs) ≡ report_in m (at + n) ds (drop n bs))
        → if' z (λ _. whole fs) (λ _. after_step s at fs (λ n. report_in k (at + n) (figures_after bs fs) (drop n bs)))
        ≡ if' z (λ _. whole fs) (λ _. after_step s at fs (λ n. report_in m (at + n) (figures_after bs fs) (drop n bs)))
    go true z s e rest = refl
    go false z (Err n) e rest = refl
    go false z (Ok n) e rest =
        let t = taken_fits bs fs (eqb-false (length bs) 0 z) e in
        rest n (figures_after bs fs) (omega (arith, t, length-drop n bs)) (omega (arith, t, length-drop n bs))

-- the three cases of a report from a place on
module _ (at : ℕ) (fs bs : List ℕ) where
  pub report_none : length bs ≡ 0 → report_from at fs bs ≡ whole fs
  unfolding report_from report_in
  report_none e = rw e refl

  module _ (some : length bs ≡ 0 → ⊥) where
    one : report_from at fs bs ≡ after_step (step_of bs fs) at fs (λ n.
        report_in (length bs - 1) (at + n) (figures_after bs fs) (drop n bs))
    unfolding report_from report_in
    one =
        let k : length bs ≡ suc (length bs - 1) = omega (arith, some) in
        ap (λ (m : ℕ). report_in m at fs bs) k ∙ rw (ne_eqb (length bs) 0 some) refl

    pub report_on : {n : ℕ} → step_of bs fs ≡ Ok n
        → report_from at fs bs ≡ report_from (at + n) (figures_after bs fs) (drop n bs)
    unfolding report_from
    report_on {n} e =
        let t = taken_fits bs fs some e in
        one ∙ rw e (enough (length bs - 1) (length (drop n bs)) (at + n) (figures_after bs fs) (drop n bs)
        (omega (arith, t, length-drop n bs)) (omega arith))

    pub report_stop : {k : ℕ} → step_of bs fs ≡ Err k → report_from at fs bs ≡ ended_by k at fs
    report_stop e = one ∙ rw e refl

-- the invariant of the loop over the files: the report of the rest decides
pub record Running (input fs : List ℕ) (at : ℕ) : Type 0 where
  pub upto : at ≤ length input
  pub same : report_from at fs (drop at input) ≡ report_of input

pub run_start : (input : List ℕ) → Running input zeros 0
unfolding report_of
run_start input = record { upto = omega arith; same = refl }

-- the turn of the loop: the part of the input that a step gets, its answer, and the counters at its exit
module _ {input fs : List ℕ} {at : ℕ} (r : Running input fs at) where
  pub run_end : length input ≤ at → whole fs ≡ report_of input
  run_end h = sym (report_none at fs (drop at input) (omega (arith, length-drop at input))) ∙ r.same

  module _ (h : at < length input) {s : Result ℕ ℕ} {ys : List ℕ}
      (s-is : s ≡ step_of (take (length input - at) (drop at input)) fs)
      (ys-is : ys ≡ figures_after (take (length input - at) (drop at input)) fs) where
    some : length (drop at input) ≡ 0 → ⊥
    some z = absurd (omega (arith, length-drop at input))

    s_so : s ≡ step_of (drop at input) fs
    s_so = s-is ∙ rw (tail_part at input) refl

    ys_so : ys ≡ figures_after (drop at input) fs
    ys_so = ys-is ∙ rw (tail_part at input) refl

    pub run_fits : {n : ℕ} → s ≡ Ok n → (1 ≤ n) × (at + n ≤ length input)
    run_fits {n} e =
        let t = taken_fits (drop at input) fs some (sym s_so ∙ e) in
        (t.0, omega (arith, t, length-drop at input))

    pub run_on_lem : {n : ℕ} → s ≡ Ok n → Running input ys (at + n)
    run_on_lem {n} e =
        let t = run_fits e in
        let next : drop n (drop at input) ≡ drop (at + n) input = drop_behind n in
        record {
          upto = t.1;
          same = rw (← next, ys_so) (sym (report_on at fs (drop at input) some (sym s_so ∙ e)) ∙ r.same);
        }
      where
        drop_behind : (n : ℕ) → drop n (drop at input) ≡ drop (at + n) input
        drop_behind n = rw (drop-drop n at input) refl

    pub run_stop : {k : ℕ} → s ≡ Err k → ended_by k at ys ≡ report_of input
    run_stop {k} e =
        let stays : ys ≡ fs = ys_so ∙ refused_keeps (drop at input) fs some (sym s_so ∙ e) in
        rw stays (sym (report_stop at fs (drop at input) some (sym s_so ∙ e)) ∙ r.same)
