-- Files are counted: the file of a content that passes 1 to 5, at the front of any bytes, is taken by a step, which
-- adds the content's figures (`file_step`, `file_after_lem`). Such a file passes its blocks, holds the content, and has
-- the length that its header states (tablefile's `file_passes`, `file_holds`, `file_taken`). So its report is whole
-- and has the content's figures (`file_report`); from zeros no sum reaches the limit (Bounds). So the hypotheses of
-- the theorems on steps can be met: `example_report` is the report of the file of `x = 1`. Assumes nothing.
use Rattle.std.specs.Prelude.{Ok}
use mathlib.Core.Path.{◌≡◌, refl, sym, ap, ap₂, ◌∙◌}
use mathlib.Core.List.{List, [], ◌∷◌, ◌++◌, append-nil}
use Prim.Native.Nat.{ℕ, zero, suc, ◌+◌, ◌<◌}
use native.Mathlib.Omega.{arith}
use lib.ListN.{length, get_or, replicate, length-append}
use lib.Seq.{drop-append_seam}
use borrow.Author.Tests.{lt-ltb}
use Rattle.fields.specs.Field.{field}
use Rattle.dialect.specs.Bytes.{within, valid_bytes, from_bytes}
use Rattle.forest.specs.Forest.{size_of, kids_of, rest_of, forest_in, forest, count, count_tree}
use Rattle.forest.specs.Names.{same}
use Rattle.soundness.specs.Kinds.{kind_in, kind_of}
use Rattle.soundness.specs.Files.{file_sound, ends_by, top_of, files_of}
use Rattle.soundness.specs.Sound.{name_sound, span_sound, source_sound, fields_sound, whole_trees, classes, permitted}
use Rattle.soundness.specs.Sound.{wanted, permits, kids_sound, sound_node, sound_at, root_sound, context_of, record_sound}
use Rattle.soundness.specs.Sound.{first_false, first_unsound}
use Rattle.table.specs.Check.{length_sound, check_of, given_of, wants, node_fits, entry_check, on_node}
use Rattle.table.specs.Depth.{class_weight, weight, first_deep, deep_in}
use Rattle.parameters.specs.Params.{params_of}
use Rattle.validate.specs.Module.{arm_of, f, expr_errors, expr}
use Rattle.validate.specs.Job.{errors_of}
use Rattle.table.specs.Answer.{accepted}
use Rattle.tablefile.specs.File.{Content, file_of}
use Rattle.tablefile.specs.Reading.{header_at, content_at}
use Rattle.tablefile.proofs.Files.{file_passes, file_holds, file_taken}
use Rattle.tablefile.proofs.Accepted.{SoundContent, sound_fits}
use Rattle.tablefile.proofs.Example.{content, meets}
use Rattle.figures.specs.Counting.{occurrences, occurrences_from, total, mode_at, accepted_at, refused_at, numbers_of}
use Rattle.figures.specs.Counting.{error_counts, table_figures, figures_of}
use Rattle.figures.specs.Adding.{added}
use Rattle.figures.specs.Walking.{plus}
use Rattle.figures.specs.Reporting.{most_files, window_check, step_check, step_of, figures_after, whole, zeros}
use Rattle.figures.specs.Reporting.{report_from, report_of}
use Rattle.figures.proofs.Running.{report_none, report_on}
use Rattle.figures.proofs.Windows.{taken_least}
use Rattle.figured.proofs.Sums.{step_is, taken_adds}
use Rattle.figured.proofs.Bounds.{step_sum, zeros_small, file_long}

-- zeros add nothing
plus_zeros : (n : ℕ) (xs : List ℕ) → length xs ≡ n → plus (replicate n 0) xs ≡ xs
unfolding plus
plus_zeros zero xs e = refl
plus_zeros (suc n) [] e = absurd (omega (arith, e))
plus_zeros (suc n) (x ∷ xs) e = ap₂ ◌∷◌ (omega arith) (plus_zeros n xs (omega (arith, e)))

-- the file of a sound content at the front of some bytes
module _ (c : Content) (s : SoundContent c) (rest : List ℕ) where
  abbrev joined : List ℕ
  joined = file_of c ++ rest

  asked : (header_at joined).taken ≡ length (file_of c)
  asked = file_taken c (sound_fits c s) rest

  some_byte : length joined ≡ 0 → ⊥
  some_byte e = absurd (omega (arith, e, asked, taken_least joined, length-append (file_of c) rest))

  window_passes : window_check joined ≡ accepted []
  unfolding window_check
  window_passes = rw (file_passes c (sound_fits c s) rest, file_holds c (sound_fits c s) rest) s.sound

  module _ (fs : List ℕ) (room : get_or fs 0 0 < most_files) where
    -- THEOREM: a step takes it
    pub file_step : step_of joined fs ≡ Ok (length (file_of c))
    unfolding step_check
    file_step =
        step_is joined fs some_byte ∙ rw (lt-ltb (get_or fs 0 0) most_files room, window_passes, asked) refl

    -- THEOREM: the step adds its figures
    pub file_after_lem : figures_after joined fs ≡ added fs (figures_of c)
    file_after_lem = taken_adds joined fs some_byte file_step ∙ rw (file_holds c (sound_fits c s) rest) refl

    -- LAW: the report continues after it
    pub file_counted : (at : ℕ) → report_from at fs joined
        ≡ report_from (at + length (file_of c)) (added fs (figures_of c)) rest
    file_counted at =
        report_on at fs joined some_byte file_step
        ∙ rw (file_after_lem, drop-append_seam (file_of c) rest) refl

-- THEOREM: the report of one file is whole, with the figures of its content
pub file_report : (c : Content) → SoundContent c → report_of (file_of c) ≡ whole (figures_of c)
unfolding report_of
file_report c s =
    let w : List ℕ = file_of c ++ [] in
    let few : get_or zeros 0 0 < most_files = omega arith in
    let some = some_byte c s [] in
    let takes = file_step c s [] zeros few in
    let holds : content_at w ≡ c = file_holds c (sound_fits c s) [] in
    let sum : added zeros (figures_of c) ≡ figures_of c
    = sym (file_after_lem c s [] zeros few) ∙ step_sum w zeros some takes zeros_small
    ∙ plus_zeros 32 (figures_of (content_at w)) (file_long w zeros some takes) ∙ ap figures_of holds in
    ap (λ (l : List ℕ). report_from 0 zeros l) (sym (append-nil (file_of c)))
    ∙ file_counted c s [] zeros few 0 ∙ report_none _ _ [] refl ∙ ap whole sum

-- the figures of `x = 1`: a file of four nodes, with no list, call or error
example_figures : figures_of content ≡ 1 ∷ 4 ∷ replicate 30 0
unfolding table_figures total mode_at accepted_at refused_at node_fits wants params_of on_node entry_check numbers_of
    error_counts occurrences_from occurrences errors_of arm_of f expr_errors expr given_of from_bytes valid_bytes within
    check_of
    length_sound field size_of kids_of rest_of forest_in forest count count_tree same kind_in kind_of name_sound
    span_sound
    source_sound fields_sound whole_trees classes permitted wanted permits kids_sound sound_node sound_at root_sound
    file_sound
    ends_by top_of files_of context_of record_sound first_false first_unsound class_weight weight first_deep deep_in
example_figures = refl

-- THEOREM: the report of the file of `x = 1`
pub example_report : report_of (file_of content) ≡ whole (1 ∷ 4 ∷ replicate 30 0)
example_report = file_report content meets ∙ ap whole example_figures
