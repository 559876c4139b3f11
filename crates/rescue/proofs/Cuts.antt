-- The cut of a table to k children: its root is the old one except for the size, and its children are the first k of
-- the old ones (`cut_children`, by forest's `forest_firsts`). The only premise is that the table has whole records
-- and begins with a Statements (`Rooted`), so no law here needs sound children. Changing the size touches bytes 16
-- and 17 of the root alone, which no other field and no child reads. Assumes nothing.
use mathlib.Core.Path.{◌≡◌, refl, sym, ap, ◌∙◌}
use mathlib.Core.Logic.{◌⊎◌, inl, inr, ⊎_elim}
use mathlib.Core.List.{List}
use Prim.Native.Nat.{ℕ, ◌+◌, ◌-◌, ◌*◌, ◌/◌, ◌%◌, ◌<◌, ◌≤◌}
use native.Mathlib.Omega.{arith}
use lib.ListN.{length, get_or, take, drop, set, length-set, get_or-eq_default}
use lib.Seq.{length-take-le, take-take, get_or-set_same, get_or-set_other, get_or-take, drop-set-lt}
use Rattle.fields.specs.Field.{field}
use Rattle.fields.proofs.Basics.{drop_take}
use Rattle.fields.proofs.Fields.{field_same}
use Rattle.forest.specs.Forest.{size_of, node_of, span_of, kids_of, rest_of, none, forest, firsts, count}
use Rattle.forest.proofs.Prefix.{firsts_count, forest_firsts}
use Rattle.forest.proofs.Stretch.{tree, record_or_none, forest_none, forest_tree, count_forest, length_kids}
use Rattle.forest.proofs.Stretch.{length_rest}
use Rattle.soundness.specs.KindNumbers.{kind_statements}
use Rattle.soundness.specs.Sound.{Context, fields_sound}
use Rattle.rescue.specs.Cut.{children, resized, cut_to}

-- a table with another size in its root
module _ (m : ℕ) (t : List ℕ) where
  pub length_resized : length (resized m t) ≡ length t
  unfolding resized
  length_resized = length-set (set t 16 (m % 256)) 17 (m / 256) ∙ length-set t 16 (m % 256)

  drop_resized : drop 24 (resized m t) ≡ drop 24 t
  unfolding resized
  drop_resized = drop-set-lt 24 (set t 16 (m % 256)) 17 (m / 256) (omega arith)
      ∙ drop-set-lt 24 t 16 (m % 256) (omega arith)

  byte_resized : (i : ℕ) → (i ≡ 16 → ⊥) → (i ≡ 17 → ⊥) → get_or (resized m t) i 0 ≡ get_or t i 0
  unfolding resized
  byte_resized i low high = get_or-set_other (set t 16 (m % 256)) 17 i (m / 256) 0 high
      ∙ get_or-set_other t 16 i (m % 256) 0 low

  size_resized : 24 ≤ length t → size_of (resized m t) ≡ m
  unfolding size_of field resized
  size_resized big =
      let u : List ℕ = set t 16 (m % 256) in
      let long : length u ≡ length t = length-set t 16 (m % 256) in
      let apart : ◌≡◌ {A = ℕ} 16 17 → ⊥ = λ e. omega arith in
      let low : get_or (set u 17 (m / 256)) 16 0 ≡ m % 256 = get_or-set_other u 17 16 (m / 256) 0 apart
      ∙ get_or-set_same t 16 (m % 256) 0 (omega arith) in
      let high : get_or (set u 17 (m / 256)) 17 0 ≡ m / 256 = get_or-set_same u 17 (m / 256) 0 (omega arith) in
      rw (low, high) (omega arith)

-- a table of whole records that begins with a Statements
pub record Rooted (t : List ℕ) : Type 0 where
  pub some : 24 ≤ length t
  pub whole : 24 * (length t / 24) ≡ length t
  pub kind : (node_of 0 t).kind ≡ kind_statements

pub rooted : {t : List ℕ} → 24 * (length t / 24) ≡ length t → (node_of 0 t).kind ≡ kind_statements → Rooted t
rooted {t} whole kind = record {
  some = record_or_none t
      (λ (h : length t < 24).
      let past : get_or t 0 0 ≡ 0 = get_or-eq_default t 0 (omega arith) in absurd (omega arith))
      (λ h. h);
  whole = whole;
  kind = kind;
}

-- the cut of such a table to k children
module _ (k : ℕ) {t : List ℕ} (r : Rooted t) where
  abbrev pub cut_nodes : ℕ
  cut_nodes = 1 + count (firsts k (children t))

  -- the first k children lie within those of the root
  inside : 24 * count (firsts k (children t)) ≤ span_of t - 24
  inside = omega (arith, r.some, r.whole, firsts_count k (children t), count_forest 1 (kids_of t), length_kids t)

  room : 24 * cut_nodes ≤ length t
  room = omega (arith, r.some, inside)

  long : length (take (24 * cut_nodes) t) ≡ 24 * cut_nodes
  long = length-take-le (24 * cut_nodes) t room

  pub cut_length : length (cut_to k t) ≡ 24 * cut_nodes
  unfolding cut_to
  cut_length = length_resized cut_nodes (take (24 * cut_nodes) t) ∙ long

  pub cut_short : length (cut_to k t) ≤ length t
  cut_short = omega (arith, cut_length, room)

  pub cut_size : size_of (cut_to k t) ≡ cut_nodes
  unfolding cut_to
  cut_size = size_resized cut_nodes (take (24 * cut_nodes) t) (omega (arith, long))

  -- LAW: in the root only the size changes
  pub cut_byte : (i : ℕ) → i < 24 * cut_nodes → (i ≡ 16 → ⊥) → (i ≡ 17 → ⊥) → get_or (cut_to k t) i 0 ≡ get_or t i 0
  unfolding cut_to
  cut_byte i h low high = byte_resized cut_nodes (take (24 * cut_nodes) t) i low high
      ∙ get_or-take (24 * cut_nodes) t i 0 h

  cut_field : (w at : ℕ) → (at + w ≤ 16) ⊎ (18 ≤ at) → at + w ≤ 24 → field w (cut_to k t) at ≡ field w t at
  cut_field w at apart fits = field_same w (cut_to k t) t at (λ i h g. ⊎_elim
      (λ (before : at + w ≤ 16). cut_byte i (omega arith) (λ e. omega arith) (λ e. omega arith))
      (λ (behind : 18 ≤ at). cut_byte i (omega arith) (λ e. omega arith) (λ e. omega arith))
      apart)

  pub cut_kind : (node_of 0 (cut_to k t)).kind ≡ (node_of 0 t).kind
  cut_kind = cut_byte 0 (omega arith) (λ e. omega arith) (λ e. omega arith)

  pub cut_file : (node_of 0 (cut_to k t)).file ≡ (node_of 0 t).file
  cut_file = cut_field 2 18 (inr (omega arith)) (omega arith)

  pub cut_fields : (x : Context) → fields_sound x (node_of 0 (cut_to k t)) ≡ fields_sound x (node_of 0 t)
  unfolding fields_sound
  cut_fields x = rw (
    cut_kind,
    cut_byte 1 (omega arith) (λ e. omega arith) (λ e. omega arith),
    cut_field 2 2 (inl (omega arith)) (omega arith),
    cut_field 4 4 (inl (omega arith)) (omega arith),
    cut_field 4 8 (inl (omega arith)) (omega arith),
    cut_field 4 12 (inl (omega arith)) (omega arith),
    cut_file,
    cut_field 4 20 (inr (omega arith)) (omega arith),
  ) refl

  -- LAW: the children of the cut are the first k
  kids_cut : kids_of (cut_to k t) ≡ take (24 * count (firsts k (children t))) (kids_of t)
  unfolding kids_of cut_to
  kids_cut =
      let span : span_of (cut_to k t) - 24 ≡ 24 * count (firsts k (children t)) = omega (arith, cut_size, cut_length) in
      let less : 24 * cut_nodes - 24 ≡ 24 * count (firsts k (children t)) = omega arith in
      rw (
        span,
        drop_resized cut_nodes (take (24 * cut_nodes) t),
        drop_take 24 (24 * cut_nodes) t,
        less,
        take-take (24 * count (firsts k (children t))) (24 * count (firsts k (children t))) (drop 24 t) (omega arith),
      ) (sym (take-take (24 * count (firsts k (children t))) (span_of t - 24) (drop 24 t) inside))

  pub cut_children : children (cut_to k t) ≡ firsts k (children t)
  cut_children = ap (forest 1) kids_cut ∙ forest_firsts k 1 (kids_of t) (omega (arith, r.some, r.whole, length_kids t))

  pub cut_forest : forest 0 (cut_to k t) ≡ tree (node_of 0 (cut_to k t)) (firsts k (children t)) none
  cut_forest = forest_tree 0 (cut_to k t) (omega (arith, cut_length))
      ∙ rw (
        cut_children,
        forest_none (0 + span_of (cut_to k t) / 24) (rest_of (cut_to k t))
            (omega (arith, length_rest (cut_to k t), cut_size, cut_length)),
      ) refl
