-- The words of figures in C. The end of a report is one value of an enum, so its words are shown by cases
-- (`ending_put`), and the counters are those of the report (`report_put`). A step that accepts writes one word, the
-- number of bytes taken. It fits, because a file takes at most 59,904 bytes (`step_fits`, from the limits of the
-- counts). Assumes nothing.
use Rattle.std.specs.Prelude.{Ok, Result, ℕ}
use mathlib.Core.Path.{◌≡◌, refl, sym, ap, ◌∙◌}
use mathlib.Core.Bool.{Bool, true, false}
use mathlib.Core.List.{List, []}
use Prim.Native.Nat.{ℕ, ◌*◌, ◌^◌, ◌<◌, ◌≤◌}
use native.Mathlib.Omega.{arith}
use lib.ListN.{length, get_or}
use lib.Dec.{eqb, ltb}
use Rattle.fields.specs.Choice.{if'}
use Rattle.fields.proofs.Basics.{never}
use Rattle.table.specs.Answer.{Answer, accepted, refused}
use Rattle.table.proofs.Answers.{passed_both}
use Rattle.blocks.specs.Block.{demand}
use Rattle.blocks.specs.Run.{blocks_for}
use Rattle.tablefile.specs.Reading.{header_at, content_at, front_check, sound_check}
use Rattle.tablefile.proofs.Fronts.{first_is, taken_is, Fronted, fronted_then}
use Rattle.figures.specs.declared.Ending.{Ending}
use Rattle.figures.specs.declared.Ending.TheVariants.{Refused as RefusedAt}
use Rattle.figures.specs.declared.Reported.{Reported}
use Rattle.table.specs.Numbers.{too_many_files}
use Rattle.figures.specs.Reporting.{most_files, window_check, step_check, told, step_of}
use Rattle.starlark_checks.specs.Words.{laid}
use Rattle.starlark_checks.specs.FormatWords.{two_words}
use Rattle.starlark_checks.specs.FigureWords.{ending_number, ending_words}

-- the number and the words for the end of a report, from a place on
abbrev pub EndPut : Ending → ℕ → ℕ → List ℕ → List ℕ → Type 0
EndPut e n place xs ys = (n ≡ ending_number e) × (ys ≡ laid (ending_words e) place xs)

-- LAW: a refusal's number, and its position in two words
pub ending_put : {e : Ending} (n at place : ℕ) (xs : List ℕ) {ys : List ℕ} → e ≡ RefusedAt n at
    → ys ≡ laid (two_words at) place xs → EndPut e n place xs ys
ending_put n at place xs q p = rw q (refl, p)

-- LAW: the words for the report of the code are those for the promised report
pub report_put : (v w : Reported) {n : ℕ} (xs : List ℕ) {ys : List ℕ} → v ≡ w → EndPut v.ending n 0 xs ys
    → (n ≡ ending_number w.ending) × ((ys ≡ laid (ending_words w.ending) 0 xs) × (v.figures ≡ w.figures))
report_put v w xs q (i, p) =
    let k = ap (λ (r : Reported). r.ending) q in
    let words : laid (ending_words v.ending) 0 xs ≡ laid (ending_words w.ending) 0 xs
    = ap (λ (e : Ending). laid (ending_words e) 0 xs) k in
    (i ∙ ap ending_number k, (p ∙ words, ap (λ (r : Reported). r.figures) q))

-- a file whose blocks pass takes at most 59,904 bytes: block 0, 16 of names and 100 of nodes
front_most : (w : List ℕ) → Fronted w → (header_at w).taken ≤ 59904
unfolding blocks_for
front_most w f =
    let names : blocks_for (header_at w).names ≤ 16 = omega (arith, f.counts) in
    let nodes : blocks_for (24 * (header_at w).nodes) ≤ 100 = omega (arith, f.counts) in
    omega (arith, taken_is w, first_is w, names, nodes)

-- LAW: the bytes that a step takes fit a word
pub step_fits : (w figures : List ℕ) {a : Result ℕ ℕ} {n : ℕ} → a ≡ step_of w figures → a ≡ Ok n → n < 2 ^ 32
unfolding step_of step_check window_check
step_fits w figures {n = n} a-is e = start (eqb (length w) 0) (sym a-is ∙ e)
  where
    go : (a : Answer) → step_check w figures ≡ a → told a (header_at w).taken ≡ Ok n → n < 2 ^ 32
    go (accepted vs) c f =
        let is : (header_at w).taken ≡ n = cc in
        let rest = passed_both (demand (ltb (get_or figures 0 0) most_files) too_many_files) (λ _. window_check w) c in
        let front = passed_both (front_check w) (λ _. sound_check (content_at w)) rest.2 in
        omega (arith, is, front_most w (fronted_then w (λ _. accepted []) (rw front.1 refl)).0)
    go (refused k vs) c f = never (cc)

    start : (t : Bool) → if' t (λ _. Ok 0) (λ _. told (step_check w figures) (header_at w).taken) ≡ Ok n
        → n < 2 ^ 32
    start true f = let z : 0 ≡ n = cc in omega (arith, z)
    start false f = go (step_check w figures) refl f
