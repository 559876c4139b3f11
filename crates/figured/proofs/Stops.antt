-- A report that ended at a refused file. The input before that file has a whole report with the same counters
-- (`report_before`), because each earlier step is the same without the bytes that follow. A refusal other than 70
-- stays, with its place and counters, whatever bytes follow (`report_same`): a check that is not 70 has read only
-- blocks that are complete (`front_more`). Both are by induction over the steps (Induction). Assumes nothing.
use Rattle.std.specs.Prelude.{Err, Ok, Result, ℕ}
use mathlib.Core.Path.{◌≡◌, refl, sym, ap, ◌∙◌}
use mathlib.Core.List.{List, [], ◌++◌}
use mathlib.Core.Logic.{◌⊎◌, inl, inr}
use Prim.Native.Nat.{ℕ, zero, suc, ◌+◌, ◌*◌, ◌-◌, ◌<◌, ◌≤◌, min}
use native.Mathlib.Omega.{arith}
use lib.ListN.{length, get_or, take, drop, length-drop, length-take, length-append}
use lib.Seq.{take-append_seam, drop-append-le}
use lib.Dec.{ltb}
use borrow.Author.Tests.{ne_eqb}
use Rattle.fields.proofs.Basics.{never, drop_take, le_or_lt}
use Rattle.table.specs.Numbers.{block_short, block_counts, too_many_files}
use Rattle.table.specs.Answer.{Answer, accepted, refused, and_then}
use Rattle.blocks.specs.Block.{demand, judge}
use Rattle.blocks.specs.Run.{blocks_for, judge_blocks, judge_run}
use Rattle.blocks.proofs.Judging.{judge_short}
use Rattle.blocks.proofs.Parts.{judge_front}
use Rattle.tablefile.specs.Reading.{header_at, used_of, content_at, counts_fit, blocks_check, front_check, sound_check}
use Rattle.tablefile.proofs.Fronts.{header_front, first_is, fronted_then, taken_there}
use Rattle.figures.specs.Reporting.{most_files, window_check, step_check, told, step_of, figures_after, whole}
use Rattle.figures.specs.Reporting.{ended_by, report_from, zeros, report_of}
use Rattle.figures.specs.declared.Ending.{Ending}
use Rattle.figures.specs.declared.Ending.TheVariants.{Whole, Refused as RefusedAt}
use Rattle.figures.specs.declared.Reported.{Reported}
use Rattle.figures.proofs.Running.{taken_fits, report_none, report_on, report_stop}
use Rattle.figured.proofs.Induction.{report_induction}
use Rattle.figured.proofs.Parts.{taken_asked, part_step, part_after, part_content}
use Rattle.figured.proofs.Joins.{not_both, report_more}

-- a report that ended with a refusal: its number, its place, its counters
abbrev number_in : Ending → ℕ
number_in Whole = 0
number_in (RefusedAt k at) = k

abbrev place_in : Ending → ℕ
place_in Whole = 0
place_in (RefusedAt k at) = at

record SameEnd (k m p q : ℕ) (fs gs : List ℕ) : Type 0 where
  number : k ≡ m
  place : p ≡ q
  figures : fs ≡ gs

same_end : {k m p q : ℕ} {fs gs : List ℕ} → ended_by k p fs ≡ ended_by m q gs → SameEnd k m p q fs gs
same_end e = record {
  number = ap (λ (r : Reported). number_in r.ending) e;
  place = ap (λ (r : Reported). place_in r.ending) e;
  figures = ap (λ (r : Reported). r.figures) e;
}

-- a place within the rest is within the whole
place_most : (at n p l d : ℕ) → d ≡ l - n → n ≤ l → p ≤ at + n + d → p ≤ at + l
place_most at n p l d d-is fits h = omega (arith, d-is, fits, h)

-- the input before the refused file
pub record Before (at p : ℕ) (fs a gs : List ℕ) : Type 0 where
  pub least : at ≤ p
  pub most : p ≤ at + length a
  pub whole_there : report_from at fs (take (p - at) a) ≡ whole gs

module _ (at : ℕ) (fs a : List ℕ) (some : length a ≡ 0 → ⊥) {n p : ℕ} {gs : List ℕ} (takes : step_of a fs ≡ Ok n)
    (rest : Before (at + n) p (figures_after a fs) (drop n a) gs) where
  before_on : Before at p fs a gs
  before_on =
      let m : ℕ = p - at in
      let fits = taken_fits a fs some takes in
      let asked : (header_at a).taken ≡ n = taken_asked a fs some takes in
      let holds : (header_at a).taken ≤ m = omega (arith, asked, rest.least) in
      let long = length-take m a in
      let part_some : length (take m a) ≡ 0 → ⊥ = λ e. absurd (omega (arith, e, long, fits, rest.least)) in
      let here : step_of (take m a) fs ≡ Ok n = part_step m a holds fs some ∙ takes in
      let left : m - n ≡ p - (at + n) = omega arith in
      record {
        least = omega (arith, rest.least);
        most = place_most at n p (length a) (length (drop n a)) (length-drop n a) fits.1 rest.most;
        whole_there = report_on at fs (take m a) part_some here
            ∙ rw (part_after m a holds fs some, drop_take n m a, left) rest.whole_there;
      }

before_stop : (at : ℕ) (fs a : List ℕ) → (length a ≡ 0 → ⊥) → {m n p : ℕ} {gs : List ℕ} → step_of a fs ≡ Err m
    → report_from at fs a ≡ ended_by n p gs → Before at p fs a gs
before_stop at fs a some {p = p} h e =
    let end = same_end (sym (report_stop at fs a some h) ∙ e) in
    let nothing : p - at ≡ 0 = omega (arith, end.place) in
    record {
      least = omega (arith, end.place);
      most = omega (arith, end.place);
      whole_there = rw (nothing, ← end.figures) (report_none at fs [] refl);
    }

-- LAW: the report of the input before the refused file
pub before_refused : (at : ℕ) (fs a : List ℕ) {n p : ℕ} {gs : List ℕ} → report_from at fs a ≡ ended_by n p gs
    → Before at p fs a gs
before_refused at fs a {n} {p} {gs} = report_induction
    (λ at fs a. report_from at fs a ≡ ended_by n p gs → Before at p fs a gs) record {
      none = λ at fs a none e. not_both (sym e ∙ report_none at fs a none);
      stop = λ at fs a some m h e. before_stop at fs a some h e;
      on = λ at fs a some m h rest e. before_on at fs a some h (rest (sym (report_on at fs a some h) ∙ e));
    } at fs a

-- a check that is not 70
abbrev pub NotShort : Answer → Type 0
NotShort (accepted vs) = Unit {0}
NotShort (refused k vs) = k ≡ block_short → ⊥

-- checks in order: the first is not 70 either, and what follows must be the same only if the first passes
first_long : (x : Answer) (next : Unit {0} → Answer) → NotShort (and_then x next) → NotShort x
first_long (accepted vs) next h = tt
first_long (refused k vs) next h = h

then_more : (x : Answer) (next more : Unit {0} → Answer) → NotShort (and_then x next)
    → ((vs : List ℕ) → x ≡ accepted vs → NotShort (next tt) → more tt ≡ next tt) → and_then x more ≡ and_then x next
then_more (accepted vs) next more h f = f vs refl h
then_more (refused k vs) next more h f = refl

-- a block that is complete, with more bytes after it
judge_more : (number used : ℕ) (bs more : List ℕ) → 512 ≤ length bs
    → judge number used (bs ++ more) ≡ judge number used bs
judge_more number used bs more long =
    sym (judge_front number used (length bs) (bs ++ more) long) ∙ ap (judge number used) (take-append_seam bs more)

-- LAW: blocks whose answer is not 70 have the same answer with more bytes after them
blocks_more : (n number total : ℕ) (bs more : List ℕ) → NotShort (judge_blocks n number total bs)
    → judge_blocks n number total (bs ++ more) ≡ judge_blocks n number total bs
unfolding judge_blocks
blocks_more zero number total bs more h = refl
blocks_more (suc n) number total bs more h =
    go (le_or_lt 512 (length bs)) (λ g. blocks_more n (number + 1) (total - 504) (drop 512 bs) more g)
  where
    go : (512 ≤ length bs) ⊎ (length bs < 512)
        → (NotShort (judge_blocks n (number + 1) (total - 504) (drop 512 bs))
        → judge_blocks n (number + 1) (total - 504) (drop 512 bs ++ more)
        ≡ judge_blocks n (number + 1) (total - 504) (drop 512 bs))
        → and_then (judge number (min 504 total) (bs ++ more))
        (λ _. judge_blocks n (number + 1) (total - 504) (drop 512 (bs ++ more)))
        ≡ and_then (judge number (min 504 total) bs) (λ _. judge_blocks n (number + 1) (total - 504) (drop 512 bs))
    go (inl long) rest =
        rw (judge_more number (min 504 total) bs more long, drop-append-le 512 bs more long)
        (then_more (judge number (min 504 total) bs) _ _ h (λ vs e g. rest g))
    go (inr short) rest = absurd ((rw (← judge_short number (min 504 total) bs short) at h) refl)

-- LAW: blocks that pass are complete
blocks_long : (n number total : ℕ) (bs : List ℕ) (vs : List ℕ) → judge_blocks n number total bs ≡ accepted vs
    → 512 * n ≤ length bs
unfolding judge_blocks
blocks_long zero number total bs vs e = omega arith
blocks_long (suc n) number total bs vs e =
    go (le_or_lt 512 (length bs)) (judge number (min 504 total) bs) refl e
    (λ f. blocks_long n (number + 1) (total - 504) (drop 512 bs) vs f)
  where
    go : (512 ≤ length bs) ⊎ (length bs < 512) → (x : Answer) → judge number (min 504 total) bs ≡ x
        → and_then x (λ _. judge_blocks n (number + 1) (total - 504) (drop 512 bs)) ≡ accepted vs
        → (judge_blocks n (number + 1) (total - 504) (drop 512 bs) ≡ accepted vs → 512 * n ≤ length (drop 512 bs))
        → 512 * suc n ≤ length bs
    go (inr short) (accepted us) x-is f rest =
        let bad : refused block_short [] ≡ judge number (min 504 total) bs
        = judge_short number (min 504 total) bs short in
        never (cc)
    go (inl long) (accepted us) x-is f rest =
        let behind : 512 * n ≤ length (drop 512 bs) = rest f in
        omega (arith, behind, length-drop 512 bs, long)
    go (inl long) (refused k us) x-is f rest = never (cc)
    go (inr short) (refused k us) x-is f rest = never (cc)

-- LAW: the file at the front, if it is not 70
module _ (a b : List ℕ) where
  more_header : 512 ≤ length a → header_at (a ++ b) ≡ header_at a
  more_header long =
      sym (header_front (length a) (a ++ b) (omega (arith, long))) ∙ ap header_at (take-append_seam a b)

  -- the names, then the nodes after them
  runs_front : (names nodes f k m : ℕ) → f ≡ 1 + k → 512 ≤ length a
      → NotShort (and_then (judge_blocks k 1 names (drop 512 a)) (λ _. judge_blocks m f nodes (drop (512 * f) a)))
      → and_then (judge_blocks k 1 names (drop 512 a ++ b)) (λ _. judge_blocks m f nodes (drop (512 * f) (a ++ b)))
      ≡ and_then (judge_blocks k 1 names (drop 512 a)) (λ _. judge_blocks m f nodes (drop (512 * f) a))
  runs_front names nodes f k m f-is long h =
      rw (blocks_more k 1 names (drop 512 a) b (first_long (judge_blocks k 1 names (drop 512 a)) _ h))
      (then_more (judge_blocks k 1 names (drop 512 a)) _ _ h (λ vs e g.
      let there : 512 * k ≤ length (drop 512 a) = blocks_long k 1 names (drop 512 a) vs e in
      let upto : 512 * f ≤ length a = omega (arith, there, length-drop 512 a, long, f-is) in
      rw (drop-append-le (512 * f) a b upto) (blocks_more m f nodes (drop (512 * f) a) b g)))

  blocks_front : NotShort (front_check a) → 512 ≤ length a → front_check (a ++ b) ≡ front_check a
  unfolding blocks_check judge_run
  blocks_front h long =
      rw (more_header long, judge_more 0 (used_of (header_at a)) a b long, drop-append-le 512 a b long)
      (then_more (judge 0 (used_of (header_at a)) a) _ _ h (λ _ _ g.
      then_more (demand (counts_fit (header_at a).nodes (header_at a).names) block_counts) _ _ g (λ _ _ i.
      runs_front (header_at a).names (24 * (header_at a).nodes) (header_at a).first (blocks_for (header_at a).names)
      (blocks_for (24 * (header_at a).nodes)) (first_is a) long i)))

  front_short : length a < 512 → NotShort (front_check a) → ⊥
  unfolding blocks_check
  front_short short h = (rw (← judge_short 0 (used_of (header_at a)) a short) at h) refl

  pub front_more : NotShort (front_check a) → front_check (a ++ b) ≡ front_check a
  front_more h = go (le_or_lt 512 (length a))
    where
      go : (512 ≤ length a) ⊎ (length a < 512) → front_check (a ++ b) ≡ front_check a
      go (inl long) = blocks_front h long
      go (inr short) = absurd (front_short short h)

  -- the same with its content
  more_content : (us : List ℕ) → front_check a ≡ accepted us → content_at (a ++ b) ≡ content_at a
  more_content us e =
      let f = (fronted_then a (λ _. accepted []) (rw e refl)).0 in
      let same : header_at (a ++ b) ≡ header_at a = more_header f.header.long in
      let holds : (header_at (a ++ b)).taken ≤ length a = rw same (taken_there a f) in
      sym (part_content (length a) (a ++ b) holds) ∙ ap content_at (take-append_seam a b)

  pub window_stays : NotShort (window_check a) → window_check (a ++ b) ≡ window_check a
  unfolding window_check
  window_stays h =
      rw (front_more (first_long (front_check a) _ h)) (then_more (front_check a) _ _ h (λ us e g.
      ap sound_check (more_content us e)))

  -- LAW: a step that is refused with a number other than 70 is refused with it if more bytes follow
  module _ (fs : List ℕ) (some : length a ≡ 0 → ⊥) {k : ℕ} (stops : step_of a fs ≡ Err k) (other : k ≡ 70 → ⊥) where
    stay_some : length (a ++ b) ≡ 0 → ⊥
    stay_some e = some (omega (arith, e, length-append a b))

    told_stops : told (step_check a fs) (header_at a).taken ≡ Err k
    unfolding step_of
    told_stops = rw (ne_eqb (length a) 0 some) at stops

    check_long : (x : Answer) (n : ℕ) → told x n ≡ Err k → NotShort x
    check_long (accepted vs) n e = tt
    check_long (refused m vs) n e = λ h. other (m_is ∙ h)
      where
        number : Result ℕ ℕ → ℕ
        number (Ok n) = 0
        number (Err m) = m

        m_is : k ≡ m
        m_is = sym (ap number e)

    check_stays : step_check (a ++ b) fs ≡ step_check a fs
    unfolding step_check
    check_stays =
        let h = check_long (step_check a fs) (header_at a).taken told_stops in
        then_more (demand (ltb (get_or fs 0 0) most_files) too_many_files) _ _ h (λ _ _ g. window_stays g)

    pub stop_stays : step_of (a ++ b) fs ≡ Err k
    unfolding step_of
    stop_stays =
        rw (ne_eqb (length (a ++ b)) 0 stay_some, check_stays) (go (step_check a fs) told_stops)
      where
        go : (x : Answer) → told x (header_at a).taken ≡ Err k → told x (header_at (a ++ b)).taken ≡ Err k
        go (accepted vs) e = never (cc)
        go (refused m vs) e = e

-- LAW: the same for the report
pub report_stays : (at : ℕ) (fs a b : List ℕ) (k p : ℕ) (gs : List ℕ) → (k ≡ 70 → ⊥)
    → report_from at fs a ≡ ended_by k p gs → report_from at fs (a ++ b) ≡ ended_by k p gs
report_stays at fs a b k p gs other = report_induction
    (λ at fs a. report_from at fs a ≡ ended_by k p gs → report_from at fs (a ++ b) ≡ ended_by k p gs) record {
      none = λ at fs a none e. not_both (sym e ∙ report_none at fs a none);
      stop = λ at fs a some m h e.
          let ends : ended_by m at fs ≡ ended_by k p gs = sym (report_stop at fs a some h) ∙ e in
          let differs : m ≡ 70 → ⊥ = λ f. other (sym (same_end ends).number ∙ f) in
          report_stop at fs (a ++ b) (stay_some a b fs some h differs) (stop_stays a b fs some h differs) ∙ ends;
      on = λ at fs a some m h rest e.
          report_more a b fs some h at ∙ rest (sym (report_on at fs a some h) ∙ e);
    } at fs a

-- an input whose report ended with a refusal
module _ (a : List ℕ) {k p : ℕ} (ends : (report_of a).ending ≡ RefusedAt k p) where
  ended_there : report_from 0 zeros a ≡ ended_by k p (report_of a).figures
  unfolding report_of
  ended_there = ap (λ (e : Ending). record { figures = (report_from 0 zeros a).figures; ending = e }) ends

  -- THEOREM: the input before the refused file has a whole report, with the same counters
  pub report_before : report_of (take p a) ≡ whole (report_of a).figures
  unfolding report_of
  report_before =
      let here : p - 0 ≡ p = omega arith in
      rw here at (before_refused 0 zeros a ended_there).whole_there

  -- THEOREM: the place is within the input
  pub report_place : p ≤ length a
  report_place = omega (arith, (before_refused 0 zeros a ended_there).most)

  -- THEOREM: a refusal other than 70 stays, with its place and the counters, whatever bytes follow
  pub report_same : (k ≡ 70 → ⊥) → (b : List ℕ) → report_of (a ++ b) ≡ report_of a
  unfolding report_of
  report_same other b =
      report_stays 0 zeros a b k p (report_of a).figures other ended_there ∙ sym ended_there
