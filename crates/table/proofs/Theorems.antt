-- What the table check means, over its whole definition. It accepts exactly the clean tables (`clean_accepted`; the
-- other direction is Checking's `accepted_clean`), in which every record is sound and no node is deeper than the
-- largest depth (`accepted_sound`, `accepted_flat`). A refusal with a node comes from one of the two searches
-- (`of_searches`, by cases on the four steps): 3 carries the first unsound record (`unsound_first`), 4 the first node
-- that is too deep (`deep_is_first`), which is a statement or an expression (`deep_is_counted`). Assumes nothing.
use Rattle.std.specs.Prelude.{None, Option, Some, ℕ}
use mathlib.Core.Path.{◌≡◌, refl}
use mathlib.Core.Bool.{Bool, true, false}
use mathlib.Core.List.{List, [], ◌∷◌}
use mathlib.Core.Logic.{◌⊎◌, inl, inr, ⊎_elim}
use Prim.Native.Nat.{ℕ, ◌*◌, ◌/◌, ◌%◌, ◌<◌, ◌≤◌}
use native.Mathlib.Omega.{arith}
use lib.ListN.{length, get_or, drop}
use lib.Dec.{leb}
use borrow.Author.Tests.{le-leb, eq-eqb}
use Rattle.fields.proofs.Basics.{never}
use Rattle.fields.specs.Choice.{if'}
use Rattle.forest.specs.Forest.{node_of, forest}
use Rattle.soundness.specs.Kinds.{statement, expression, class_of}
use Rattle.soundness.specs.Sound.{record_sound, first_unsound}
use Rattle.soundness.proofs.Search.{First, found, none_found_lem}
use Rattle.table.specs.Numbers.{table_length, name_bytes, unsound_record, too_deep}
use Rattle.table.specs.Depth.{most_depth, first_deep, depths, FirstDeeper}
use Rattle.table.specs.Answer.{accepted, refused, and_then}
use Rattle.table.specs.Check.{length_sound, none_found, check_of}
use Rattle.table.proofs.Checking.{Clean, accepted_clean}
use Rattle.table.proofs.Deep.{counted_class}
use Rattle.table.proofs.Depths.{deep_first, deep_nowhere, deep_counts}

module _ (t names : List ℕ) where
  -- THEOREM: a table is accepted exactly where its length is sound, its names are few, no record is unsound and no node
  -- too deep (the other direction is accepted_clean)
  pub clean_accepted : Clean t names → check_of t names ≡ accepted []
  unfolding check_of length_sound
  clean_accepted c = rw (
    le-leb 24 (length t) c.least,
    le-leb (length t) 50400 c.most,
    eq-eqb (length t % 24) 0 (omega (arith, c.whole)),
    le-leb (length names) 8064 c.few,
    c.unsound,
    c.deep,
  ) refl

  -- THEOREM: in an accepted table every record is sound, and no node is deeper than the largest depth
  pub accepted_sound : {vs : List ℕ} → check_of t names ≡ accepted vs → (j : ℕ) → j < length t / 24
      → record_sound t names j ≡ true
  unfolding first_unsound
  accepted_sound e = none_found_lem (record_sound t names) (length t / 24) (accepted_clean t names e).unsound

  pub accepted_flat : {vs : List ℕ} → check_of t names ≡ accepted vs → (j : ℕ)
      → get_or (depths 0 (forest 0 t)) j 0 ≤ most_depth
  accepted_flat e = deep_nowhere t (accepted_clean t names e).deep

  -- a refusal with a node is of one of the two searches, which found the node
  of_searches : {m k : ℕ} → check_of t names ≡ refused m (k ∷ [])
      → ((m ≡ unsound_record) × (first_unsound t names ≡ Some k))
      ⊎ ((m ≡ too_deep) × (first_unsound t names ≡ None) × (first_deep 0 (forest 0 t) ≡ Some k))
  unfolding check_of
  of_searches {m} {k} = go (length_sound (length t)) (leb (length names) 8064) (first_unsound t names)
      (first_deep 0 (forest 0 t))
    where
      go : (l n : Bool) (u d : Option ℕ)
          → and_then (if' l (λ _. accepted []) (λ _. refused table_length []))
          (λ _. and_then (if' n (λ _. accepted []) (λ _. refused name_bytes []))
          (λ _. and_then (none_found unsound_record u) (λ _. none_found too_deep d))) ≡ refused m (k ∷ [])
          → ((m ≡ unsound_record) × (u ≡ Some k)) ⊎ ((m ≡ too_deep) × (u ≡ None) × (d ≡ Some k))
      go true true (Some i) d e = inl (cc, cc)
      go true true None (Some i) e = inr (cc, refl, cc)
      go true true None None e = never (cc)
      go true false u d e = never (cc)
      go false n u d e = never (cc)

  -- THEOREM: 3 carries the first unsound record: it is unsound, and all before it are sound
  pub unsound_first : (k : ℕ) → check_of t names ≡ refused unsound_record (k ∷ [])
      → First (record_sound t names) 0 (length t / 24) k
  unfolding first_unsound
  unsound_first k e = ⊎_elim (λ h. found (record_sound t names) (length t / 24) k h.1)
      (λ h. absurd (omega (arith, h.0)))
      (of_searches e)

  -- THEOREM: 4 carries the first node that is deeper than the largest depth, in a table with no unsound record
  pub deep_is_first : (k : ℕ) → check_of t names ≡ refused too_deep (k ∷ [])
      → (first_unsound t names ≡ None) × FirstDeeper (forest 0 t) k
  deep_is_first k e = ⊎_elim (λ h. absurd (omega (arith, h.0))) (λ h. (h.1, deep_first t k h.2)) (of_searches e)

  -- THEOREM: that node is a statement or an expression, so no parameter and no argument
  pub deep_is_counted : (k : ℕ) → check_of t names ≡ refused too_deep (k ∷ [])
      → (class_of (node_of k (drop (24 * k) t)).kind ≡ statement)
      ⊎ (class_of (node_of k (drop (24 * k) t)).kind ≡ expression)
  deep_is_counted k e = ⊎_elim (λ h. absurd (omega (arith, h.0)))
      (λ h. counted_class (node_of k (drop (24 * k) t)).kind (deep_counts t k h.2))
      (of_searches e)
