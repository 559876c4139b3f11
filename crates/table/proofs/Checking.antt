-- The table check, return by return, and what it shows. Each return of `check` is a law of its own (`check_length` to
-- `check_sound`): the tests before it are known, so the definition computes. The other way round, an accepted table has
-- passed all four steps (`accepted_clean`; Answers' `passed_both`, step by step), and the record `Clean` names what it
-- then knows. In a clean table the stretch of a node is sound and as long as its record says (`stretch_sound`,
-- `stretch_size`, from soundness), and begins with that record (`record_kept`). Assumes nothing.
use Rattle.std.specs.Prelude.{None, Option, Some, ℕ}
use mathlib.Core.Path.{◌≡◌, refl, sym, ap, ◌∙◌}
use mathlib.Core.Bool.{Bool, true, false}
use mathlib.Core.List.{List, [], ◌∷◌}
use Prim.Native.Nat.{ℕ, ◌+◌, ◌*◌, ◌/◌, ◌%◌, ◌<◌, ◌≤◌}
use native.Mathlib.Omega.{arith}
use lib.ListN.{length, take, drop}
use lib.Dec.{leb}
use borrow.Author.Tests.{le-leb, lt-leb, leb-true, eqb-true, lt-ltb}
use Rattle.fields.proofs.Basics.{and_left, and_right}
use Rattle.table.proofs.Answers.{never_passed, passed_both, test_passed}
use Rattle.forest.specs.Forest.{Node, node_of, size_of, forest}
use Rattle.forest.proofs.Stretch.{node_take}
use Rattle.table.specs.Numbers.{table_length, name_bytes, unsound_record, too_deep}
use Rattle.soundness.specs.Sound.{context_of, record_sound, first_unsound}
use Rattle.table.specs.Depth.{first_deep}
use Rattle.table.specs.Answer.{accepted, refused}
use Rattle.table.specs.Check.{length_sound, length_check, names_check, none_found, check_of, stretch_of}
use Rattle.soundness.proofs.Search.{found}
use Rattle.soundness.proofs.SoundTables.{Sound, sound_subtree, here_size}
use Rattle.table.proofs.Deep.{deep_inside}

-- a length that is sound
pub length_whole : (n : ℕ) → length_sound n ≡ true → (24 ≤ n) × (n ≤ 50400) × (24 * (n / 24) ≡ n)
unfolding length_sound
length_whole n e =
    let least = leb-true 24 n (and_left _ _ e) in
    let most = leb-true n 50400 (and_left _ _ (and_right (leb 24 n) _ e)) in
    let whole = eqb-true (n % 24) 0 (and_right (leb n 50400) _ (and_right (leb 24 n) _ e)) in
    omega arith

-- a node that a search finds is one of the table
unsound_inside : (t names : List ℕ) {i : ℕ} {f : Option ℕ} → f ≡ first_unsound t names → f ≡ Some i → i < length t / 24
unfolding first_unsound
unsound_inside t names {i} f-is at = omega
    (arith, (found (record_sound t names) (length t / 24) i (sym f-is ∙ at)).within)

-- the check, step by step
module _ (t names : List ℕ) {l : Bool} (l-is : l ≡ length_sound (length t)) where
  pub check_length : l ≡ false → refused table_length [] ≡ check_of t names
  unfolding check_of
  check_length l-no = let bad : length_sound (length t) ≡ false = cc in rw bad refl

  module _ (l-yes : l ≡ true) where
    good : length_sound (length t) ≡ true
    good = cc

    pub check_names : 8064 < length names → refused name_bytes [] ≡ check_of t names
    unfolding check_of
    check_names h = rw (good, lt-leb (length names) 8064 h) refl

    pub unsound_small : {u : Option ℕ} → u ≡ first_unsound t names → {i : ℕ} → u ≡ Some i → i < 4294967296
    unsound_small u-is at = omega (arith, unsound_inside t names u-is at, length_whole (length t) good)

    module _ (few : length names ≤ 8064) {u : Option ℕ} (u-is : u ≡ first_unsound t names) where
      pub check_unsound : {i : ℕ} → u ≡ Some i → refused unsound_record (i ∷ []) ≡ check_of t names
      unfolding check_of
      check_unsound at = rw (good, le-leb (length names) 8064 few, ← u-is, at) refl

      module _ (clean : u ≡ None) {d : Option ℕ} (d-is : d ≡ first_deep 0 (forest 0 t)) where
        pub check_deep : {i : ℕ} → d ≡ Some i → refused too_deep (i ∷ []) ≡ check_of t names
        unfolding check_of
        check_deep at = rw (good, le-leb (length names) 8064 few, ← u-is, clean, ← d-is, at) refl

        pub deep_small : {i : ℕ} → d ≡ Some i → i < 4294967296
        deep_small {i} at = omega (arith, deep_inside 0 t 0 i (sym d-is ∙ at), length_whole (length t) good)

        pub check_sound : d ≡ None → accepted [] ≡ check_of t names
        unfolding check_of
        check_sound flat = rw (good, le-leb (length names) 8064 few, ← u-is, clean, ← d-is, flat) refl

-- a search that is passed found nothing, and has no values
none_passed : (n : ℕ) (f : Option ℕ) {ws : List ℕ} → none_found n f ≡ accepted ws → (f ≡ None) × (ws ≡ [])
none_passed n (Some i) e = never_passed e
none_passed n None e = (refl, cc)

-- LAW: a table that the check accepts has a sound length, few name bytes, no unsound record and no node that is too
-- deep
pub record Clean (t names : List ℕ) : Type 0 where
  pub least : 24 ≤ length t
  pub most : length t ≤ 50400
  pub whole : 24 * (length t / 24) ≡ length t
  pub few : length names ≤ 8064
  pub unsound : first_unsound t names ≡ None
  pub deep : first_deep 0 (forest 0 t) ≡ None

module _ (t names : List ℕ) {vs : List ℕ} (e : check_of t names ≡ accepted vs) where
  passed_all : Clean t names × (vs ≡ [])
  unfolding check_of
  passed_all =
      let long = passed_both (length_check (length t)) _ e in
      let few = passed_both (names_check (length names)) _ long.2 in
      let sound = passed_both (none_found unsound_record (first_unsound t names)) _ few.2 in
      let flat = none_passed too_deep (first_deep 0 (forest 0 t)) sound.2 in
      let whole = length_whole (length t) (test_passed _ _ long.1) in (
        record {
          least = whole.0;
          most = whole.1;
          whole = whole.2;
          few = leb-true (length names) 8064 (test_passed _ _ few.1);
          unsound = (none_passed unsound_record (first_unsound t names) sound.1).0;
          deep = flat.0;
        },
        flat.1,
      )

  pub accepted_clean : Clean t names
  accepted_clean = passed_all.0

  -- LAW: a passed check has no values
  pub check_values : vs ≡ []
  check_values = passed_all.1

-- LAW: in such a table the stretch of a node is sound, and as long as its record says
module _ {t names : List ℕ} (c : Clean t names) (i : ℕ) (h : i < length t / 24) where
  pub stretch_is : stretch_of t i ≡ take (24 * size_of (drop (24 * i) t)) (drop (24 * i) t)
  unfolding stretch_of
  stretch_is = rw (lt-ltb i (length t / 24) h) refl

  pub stretch_sound : Sound (context_of t names) i (stretch_of t i)
  stretch_sound = rw stretch_is (sound_subtree t names c.unsound i h)

  pub stretch_size : (1 ≤ size_of (drop (24 * i) t)) × (24 * (i + size_of (drop (24 * i) t)) ≤ length t)
  stretch_size = here_size t names c.unsound i h

  -- the node's record is at the front of its stretch
  pub record_kept : node_of i (stretch_of t i) ≡ node_of i (drop (24 * i) t)
  record_kept = let size = stretch_size in
      rw stretch_is (node_take i (24 * size_of (drop (24 * i) t)) (drop (24 * i) t) (omega arith))

  pub kind_kept : (node_of i (stretch_of t i)).kind ≡ (node_of i (drop (24 * i) t)).kind
  kind_kept = ap (λ (r : Node). r.kind) record_kept
