-- The file at the front of a window is read by the reader of single files, on the bytes whose number its header
-- gives. This part has the header, the blocks and the content of the window (`header_window`, `front_window`,
-- `content_window`), because a file's blocks lie within it, and it is no longer than the file, so 75 does not arise
-- (`read_window`). A refusal of `tablefile::unpack` is then that of the step (`window_refused`), and else 1 to 5 on
-- the unpacked table decide (`window_answer`, `window_figures`). Assumes nothing.
use Rattle.std.specs.Prelude.{Err, Ok, Option, Result, ℕ}
use Rattle.dialect.specs.declared.Edition.{Edition}
use mathlib.Core.Path.{◌≡◌, refl, sym, ap, ◌∙◌}
use mathlib.Core.List.{List}
use Prim.Native.Nat.{ℕ, ◌+◌, ◌*◌, ◌-◌, ◌^◌, ◌<◌, ◌≤◌}
use native.Mathlib.Omega.{arith}
use lib.ListN.{length, take, drop, replicate, length-take}
use lib.Seq.{take-take}
use borrow.Author.Tests.{le-leb}
use Rattle.fields.proofs.Basics.{drop_take}
use Rattle.table.specs.Answer.{Answer, and_then, number_of, refusal, checked}
use Rattle.dialect.specs.Editions.{stated_bytes, edition_held}
use Rattle.table.specs.Check.{rules_check}
use Rattle.table.specs.declared.Refusal.{Refusal}
use Rattle.blocks.specs.Run.{blocks_for}
use Rattle.blocks.proofs.Parts.{judge_front, run_front, content_front}
use Rattle.tablefile.specs.File.{Content}
use Rattle.tablefile.specs.Reading.{header_at, used_of, content_at, blocks_check, front_check, sound_check, read_check}
use Rattle.tablefile.specs.Loading.{verdict}
use Rattle.tablefile.specs.Lending.{file_check, handed}
use Rattle.tablefile.specs.declared.Heading.{Heading}
use Rattle.tablefile.proofs.Fronts.{header_front, first_is, taken_is, dialect_few, edition_few}
use Rattle.tablefile.proofs.Lends.{read_steps, unpacked_few, unpacked_table_long, unpacked_names_long}
use Rattle.tablefile.proofs.Lends.{unpacked_table, unpacked_names}
use Rattle.figures.specs.Counting.{table_figures, figures_of}
use Rattle.figures.specs.Reporting.{window_check, told, counted}

-- the bytes whose number the header of a window gives
abbrev pub file_in : List ℕ → List ℕ
file_in w = take (header_at w).taken w

module _ (w : List ℕ) where
  pub taken_least : 512 ≤ (header_at w).taken
  taken_least = omega (arith, taken_is w, first_is w)

  pub header_window : header_at (file_in w) ≡ header_at w
  header_window = header_front (header_at w).taken w (omega (arith, taken_least))

  names_held : 512 + 512 * blocks_for (header_at w).names ≤ (header_at w).taken
  names_held = omega (arith, taken_is w, first_is w)

  nodes_held : 512 * (header_at w).first + 512 * blocks_for (24 * (header_at w).nodes) ≤ (header_at w).taken
  nodes_held = omega (arith, taken_is w)

  part_window : (k at : ℕ) → at + k ≤ 512 → take k (drop at (file_in w)) ≡ take k (drop at w)
  part_window k at h = rw (drop_take at (header_at w).taken w)
      (take-take k ((header_at w).taken - at) (drop at w) (omega (arith, taken_least)))

  pub content_window : content_at (file_in w) ≡ content_at w
  unfolding content_at
  content_window = rw (
    header_window,
    content_front (24 * (header_at w).nodes) (512 * (header_at w).first) (header_at w).taken w nodes_held,
    content_front (header_at w).names 512 (header_at w).taken w names_held,
    part_window (header_at w).dialect 8 (omega (arith, dialect_few w)),
    part_window (header_at w).edition 17 (omega (arith, edition_few w)),
  ) refl

  pub front_window : front_check (file_in w) ≡ front_check w
  unfolding blocks_check
  front_window = rw (
    header_window,
    judge_front 0 (used_of (header_at w)) (header_at w).taken w taken_least,
    run_front (header_at w).names 512 (header_at w).taken w names_held 1,
    run_front (24 * (header_at w).nodes) (512 * (header_at w).first) (header_at w).taken w nodes_held
        (header_at w).first,
  ) refl

  -- LAW: the check of a window is the reader's, on these bytes
  pub read_window : read_check (file_in w) ≡ window_check w
  unfolding read_check window_check
  read_window =
      let short : length (file_in w) ≤ (header_at w).taken = omega (arith, length-take (header_at w).taken w) in
      rw (
        front_window,
        header_window,
        content_window,
        le-leb (length (file_in w)) (header_at w).taken short,
      ) refl

  pub window_steps : window_check w ≡ and_then (file_check (file_in w)) (λ _. sound_check (content_at w))
  window_steps = sym read_window ∙ read_steps (file_in w) ∙ rw content_window refl

-- the returns of `add_front`: h is the header of the window, f the file, v the answer of `tablefile::unpack`
module _ (w : List ℕ) {h : Heading} (h-is : h ≡ header_at w) {f : List ℕ} (f-is : f ≡ take h.taken w)
    (v : Result (Unit {0}) Refusal)
    (v-is : verdict v ≡ file_check f) where
  f_so : f ≡ file_in w
  f_so = f-is ∙ rw h-is refl

  h_so : h ≡ header_at f
  h_so = h-is ∙ rw f_so (sym (header_window w))

  steps_so : window_check w ≡ and_then (verdict v) (λ _. sound_check (content_at w))
  steps_so = window_steps w ∙ rw (v-is, f_so) refl

  pub window_refused : {why : Refusal} → v ≡ Err why → {n : ℕ} → n ≡ number_of why → (start : List ℕ)
      → (Err n ≡ told (window_check w) (header_at w).taken)
      × (start ≡ counted (window_check w) start (figures_of (content_at w)))
  window_refused {why} e n_is start =
      let so : window_check w ≡ refusal why = steps_so ∙ rw e refl in
      rw (so, n_is) (refl, refl)

  module _ (good : v ≡ Ok tt) where
    pub window_fits : 24 * h.nodes < 2 ^ 64
    window_fits = omega (arith, unpacked_few f v v-is good h_so)

    module _ {x : List ℕ} where
      pub window_table_long : x ≡ handed (file_check f) (content_at f).table (replicate 50400 0) → 50400 ≡ length x
      window_table_long = unpacked_table_long f v v-is good h_so

      pub window_names_long : x ≡ handed (file_check f) (content_at f).names (replicate 8064 0) → 8064 ≡ length x
      window_names_long = unpacked_names_long f v v-is good h_so

    -- wt and wn are the arrays at its exit; t, names and bytes are the content of the file, and x its edition
    module _ {wt wn t names bytes : List ℕ}
        (wt_is : wt ≡ handed (file_check f) (content_at f).table (replicate 50400 0))
        (wn-is : wn ≡ handed (file_check f) (content_at f).names (replicate 8064 0))
        (t-is : t ≡ take (24 * h.nodes) wt) (names-is : names ≡ take h.names wn)
        (bytes_is : bytes ≡ (content_at f).dialect) {stated : Option ℕ} (stated_is : stated ≡ (content_at f).edition)
        {x : Option Edition} (x-is : x ≡ edition_held bytes (stated_bytes stated)) where
      same : content_at f ≡ content_at w
      same = ap content_at f_so ∙ content_window w

      t_so : t ≡ (content_at w).table
      t_so = t-is ∙ unpacked_table f v v-is good h_so wt_is ∙ ap (λ (c : Content). c.table) same

      names_so : names ≡ (content_at w).names
      names_so = names-is ∙ unpacked_names f v v-is good h_so wn-is ∙ ap (λ (c : Content). c.names) same

      bytes_so : bytes ≡ (content_at w).dialect
      bytes_so = bytes_is ∙ ap (λ (c : Content). c.dialect) same

      stated_so : stated ≡ (content_at w).edition
      stated_so = stated_is ∙ ap (λ (c : Content). c.edition) same

      sound_so : rules_check t names bytes x ≡ window_check w
      sound_so = rw (x-is, stated_so, t_so, names_so, bytes_so) (sym (steps_so ∙ rw good refl))

      pub window_answer : {a : Answer} {s : Result ℕ ℕ} → a ≡ rules_check t names bytes x → s ≡ told a h.taken
          → s ≡ told (window_check w) (header_at w).taken
      window_answer a-is s-is = s-is ∙ rw (a-is, sound_so, h-is) refl

      pub window_figures : (start : List ℕ) {ys : List ℕ}
          → ys ≡ counted (rules_check t names bytes x) start (table_figures t names bytes)
          → ys ≡ counted (window_check w) start (figures_of (content_at w))
      window_figures start ys-is = ys-is ∙ rw (sound_so, t_so, names_so, bytes_so) refl

-- the answer of a step, from that of 1 to 5
pub answer_sound : (j : Result (Unit {0}) Refusal) (n : ℕ) → j ≡ Ok tt → Ok n ≡ told (checked j) n
answer_sound j n e = rw e refl

pub answer_refused : (j : Result (Unit {0}) Refusal) (n : ℕ) {why : Refusal} → j ≡ Err why → {k : ℕ} → k ≡ number_of why
    → Err k ≡ told (checked j) n
answer_refused j n e k_is = rw (e, k_is) refl
