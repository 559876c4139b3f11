-- Soundness by parts, as the rescue needs it, which judges each top-level statement by itself. Sound with the numbers
-- that a record may have is the same as sound with any number and having one of these (`node_parts`). So a table has no
-- unsound record exactly where its root covers it, its nodes are sound with any number, and the numbers are sound down
-- the tree (`any_clean`, `clean_any`). And a statement's stretch has no unsound record exactly where its nodes are
-- sound with any number and the numbers are those of a top-level statement (`statement_parts`; the induction is on the
-- records under it). The last two do not depend on the index of the first record (sound_anywhere, `files_anywhere`).
-- Assumes nothing.
use Rattle.std.specs.Prelude.{None}
use mathlib.Core.Path.{◌≡◌, refl, sym, ap, ◌∙◌}
use mathlib.Core.Bool.{Bool, true, false, ◌&&◌, and-false}
use mathlib.Core.List.{List}
use Prim.Native.Nat.{ℕ, ◌+◌, ◌*◌, ◌/◌, ◌<◌, ◌≤◌}
use native.Mathlib.Omega.{arith}
use lib.ListN.{length, drop}
use lib.Dec.{eqb}
use borrow.Author.Tests.{le-leb, ne_eqb}
use Rattle.fields.specs.Choice.{if'}
use Rattle.fields.proofs.Basics.{and_both, and_left, and_right, both_ways}
use Rattle.forest.specs.Forest.{Node, node_of, span_of, kids_of, rest_of, Forest, none, forest}
use Rattle.forest.proofs.Stretch.{forest_none, forest_tree, forest_induction, length_rest}
use Rattle.soundness.specs.Files.{Range, range, file_numbers, any_file, file_sound, record_at, files_in, files_top}
use Rattle.soundness.specs.Files.{files_sound}
use Rattle.soundness.specs.Sound.{context, context_of, context_in, sound_node, sound_at, root_sound, record_sound}
use Rattle.soundness.specs.Sound.{first_unsound, sound_in, unsound_in, clear}
use Rattle.soundness.proofs.Search.{none_found_lem, all_found, clear_is}
use Rattle.soundness.proofs.Records.{sound_covers}
use Rattle.soundness.proofs.SoundTables.{all_sound, Sound, record_clean, root_covers, clear_sound}
use Rattle.soundness.proofs.Files.{only_one, node_file, node_numbers, most_number, clean_number, files_clean}

any_number_lem : (n : ℕ) → n ≤ 65535 → file_sound any_file n ≡ true
unfolding file_sound
any_number_lem n h = and_both _ _ (le-leb 0 n (omega arith)) (le-leb n 65535 h)

-- LAW: a sound node is sound with any number, and has one that it may have
pub node_parts : (m : ℕ) (f : Range) (r : Node) (ks : Forest) → f.most ≤ 65535
    → sound_node (context m f) r ks ≡ (sound_node (context m any_file) r ks && file_sound f r.file)
node_parts m f r ks few = both_ways _ _
    (λ e. let fits = node_file (context m f) r ks e in
    let most = most_number f r.file fits in
    and_both _ _ (node_numbers m f any_file r ks e (any_number_lem r.file (omega arith))) fits)
    (λ e. node_numbers m any_file f r ks (and_left _ _ e) (and_right (sound_node (context m any_file) r ks) _ e))

-- LAWS: a table with no unsound record, by parts
module _ (t names : List ℕ) where
  any_sound : first_unsound t names ≡ None → (j : ℕ) → j < length t / 24
      → sound_at (context (length names) any_file) j (drop (24 * j) t) ≡ true
  unfolding record_sound context_of sound_at
  any_sound e j h =
      let most = clean_number t names e j h in
      node_numbers (length names) _ any_file (record_at t j) (forest (j + 1) (kids_of (drop (24 * j) t)))
      (and_right (if' (eqb j 0) (λ _. root_sound t) (λ _. true)) _ (record_clean t names e j h))
      (any_number_lem (record_at t j).file (omega arith))

  pub clean_any : first_unsound t names ≡ None → 24 ≤ length t
      → Sound (λ i. context (length names) any_file) 0 t
  unfolding sound_in
  clean_any e some =
      let covers = root_covers t names e some in
      let none = all_found (sound_in (λ i. context (length names) any_file) t) (length t / 24) (any_sound e) in
      record {
        records = omega arith;
        nodes = sym (clear_sound (λ i. context (length names) any_file) t (omega arith) (omega arith)) ∙ ap clear none;
      }

  pub any_clean : root_sound t ≡ true → Sound (λ i. context (length names) any_file) 0 t
      → files_sound (forest 0 t) ≡ true → first_unsound t names ≡ None
  unfolding sound_in
  any_clean root s files =
      let covers = sound_covers t root in
      let none = clear_is _
      (clear_sound (λ i. context (length names) any_file) t (omega arith) s.records ∙ s.nodes) in
      files_clean t names root (none_found_lem (sound_in (λ i. context (length names) any_file) t) (length t / 24) none)
      files

-- LAW: the index of the first record does not matter to file numbers
pub files_anywhere : (n i : ℕ) (bs : List ℕ) (j : ℕ) → files_in n (forest i bs) ≡ files_in n (forest j bs)
unfolding files_in
files_anywhere n = forest_induction (λ i bs. (j : ℕ) → files_in n (forest i bs) ≡ files_in n (forest j bs))
    (λ i bs s j. rw (forest_none i bs s, forest_none j bs s) refl)
    (λ i bs big ks rs j. rw (
      forest_tree i bs big,
      forest_tree j bs big,
      ks (j + 1),
      rs (j + span_of bs / 24),
    ) refl)

-- sound and numbered, of a first node, of what is under it and of what is behind, taken together
parted : (s e a b c d : Bool) → (((s && e) && (a && b)) && (c && d)) ≡ (((s && a) && c) && ((e && b) && d))
parted false e a b c d = refl
parted true false false b c d = refl
parted true false true b false d = refl
parted true false true b true d = refl
parted true true false b c d = refl
parted true true true false false d = refl
parted true true true false true d = refl
parted true true true true c d = refl

-- a stretch that is one top-level statement, with the number n
module _ (names : ℕ) (c : List ℕ) where
  abbrev n : ℕ
  n = (node_of 0 c).file

  -- the records under it
  under_parts : n ≤ 65535 → (i : ℕ) (bs : List ℕ) → 1 ≤ i → all_sound (context_in names c) (forest i bs)
      ≡ (all_sound (λ k. context names any_file) (forest i bs) && files_in n (forest i bs))
  unfolding all_sound files_in context_in
  under_parts few = forest_induction (λ i bs. 1 ≤ i → all_sound (context_in names c) (forest i bs)
      ≡ (all_sound (λ k. context names any_file) (forest i bs) && files_in n (forest i bs)))
      (λ i bs s h. rw (forest_none i bs s) refl)
      (λ i bs big ks rs h. rw (
        forest_tree i bs big,
        ks (omega arith),
        rs (omega arith),
        ne_eqb i 0 (λ z. omega arith),
        node_parts names (range n n) (node_of i bs) (forest (i + 1) (kids_of bs)) few,
        only_one (node_of i bs).file n,
      ) (parted (sound_node (context names any_file) (node_of i bs) (forest (i + 1) (kids_of bs)))
      (eqb (node_of i bs).file n) (all_sound (λ k. context names any_file) (forest (i + 1) (kids_of bs)))
      (files_in n (forest (i + 1) (kids_of bs)))
      (all_sound (λ k. context names any_file) (forest (i + span_of bs / 24) (rest_of bs)))
      (files_in n (forest (i + span_of bs / 24) (rest_of bs)))))

  module _ (one : span_of c ≡ length c) (records : 24 * (length c / 24) ≡ length c) (big : 24 ≤ length c) where
    alone : forest (0 + span_of c / 24) (rest_of c) ≡ none
    alone = forest_none (0 + span_of c / 24) (rest_of c) (omega (arith, length_rest c))

    all_parts : all_sound (context_in names c) (forest 0 c)
        ≡ (all_sound (λ k. context names any_file) (forest 0 c) && files_top (forest 0 c))
    unfolding all_sound files_top context_in
    all_parts = rw (
      forest_tree 0 c big,
      alone,
      node_parts names file_numbers (node_of 0 c) (forest 1 (kids_of c)) (omega arith),
    ) (go (file_sound file_numbers n) refl)
      where
        here : Bool
        here = sound_node (context names any_file) (node_of 0 c) (forest 1 (kids_of c))

        kids : Bool
        kids = all_sound (λ k. context names any_file) (forest 1 (kids_of c))

        go : (b : Bool) → file_sound file_numbers n ≡ b
            → (((here && b) && all_sound (context_in names c) (forest 1 (kids_of c))) && true)
            ≡ (((here && kids) && true) && ((b && files_in n (forest 1 (kids_of c))) && true))
        go true e =
            let most = most_number file_numbers n e in
            rw (under_parts (omega arith) 1 (kids_of c) (omega arith))
            (parted here true kids (files_in n (forest 1 (kids_of c))) true true)
        go false e = rw (and-false here) (sym (and-false ((here && kids) && true)))

    -- LAW: it has no unsound record exactly where its nodes are sound with any number, and have one of a file
    pub statement_parts : clear (unsound_in names c)
        ≡ (all_sound (λ k. context names any_file) (forest 0 c) && files_top (forest 0 c))
    unfolding unsound_in
    statement_parts = clear_sound (context_in names c) c one records ∙ all_parts
