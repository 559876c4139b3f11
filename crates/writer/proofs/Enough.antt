-- 50,401 bytes of a table, 8,065 of names and 10 of a dialect are enough: one more than a file can have. The answer
-- for these first bytes is the answer for all, however long they are, and so is the buffer (`read_enough`). If
-- nothing was cut off, both are the same; if something was, it was too long before and after the cut, and both are
-- refused with the same number: 1 for the table, 2 for the names, 5 for the dialect (`away_alike`). A case
-- distinction for each of the three lengths; no induction. Assumes nothing.
use Rattle.std.specs.Prelude.{None, Option, ℕ}
use mathlib.Core.Path.{◌≡◌, refl, sym}
use mathlib.Core.Bool.{Bool, true, false}
use mathlib.Core.Logic.{⊎_elim}
use mathlib.Core.List.{List, []}
use Prim.Native.Nat.{ℕ, suc, ◌<◌, ◌≤◌}
use native.Mathlib.Omega.{arith}
use lib.ListN.{length, take, length-take}
use lib.Seq.{take_all}
use Rattle.fields.proofs.Basics.{le_or_lt}
use Rattle.dialect.specs.Bytes.{from_bytes}
use Rattle.dialect.proofs.Laws.{other_length}
use Rattle.table.specs.Numbers.{table_length, name_bytes, bad_dialect}
use Rattle.table.specs.Answer.{Answer, accepted, refused}
use Rattle.table.specs.Check.{most_bytes, most_names, length_sound, check_of, turned_away, given_of}
use Rattle.table.proofs.Checking.{length_whole, check_length, check_names}
use Rattle.table.proofs.Ruling.{away_rules}
use Rattle.tablefile.specs.File.{Content}
use Rattle.tablefile.specs.Reading.{edition_read}
use Rattle.writer.specs.Writing.{holding, write_of, file_after}

-- two contents with the same answer and the same buffer at exit, whatever the buffer
pub record Alike (c c' : Content) : Type 0 where
  pub answer : (room : ℕ) → write_of c room ≡ write_of c' room
  pub after : (buffer : List ℕ) → file_after c buffer ≡ file_after c' buffer

-- two contents that are refused alike
away_alike : (c c' : Content) {n : ℕ} {vs : List ℕ} → given_of c.table c.names c.dialect ≡ turned_away n vs
    → given_of c'.table c'.names c'.dialect ≡ turned_away n vs → Alike c c'
unfolding write_of
away_alike c c' e f =
    let here = away_rules c.table c.names c.dialect (edition_read c) e in
    let there = away_rules c'.table c'.names c'.dialect (edition_read c') f in
    record { answer = λ room. rw (here, there) refl; after = λ buffer. rw (here, there) refl }

module _ (t names ds : List ℕ) where
  bad_table : length_sound (length t) ≡ false → given_of t names ds ≡ turned_away table_length []
  unfolding given_of
  bad_table e = rw (← check_length t names (sym e) refl) refl

  long_table_lem : most_bytes < length t → given_of t names ds ≡ turned_away table_length []
  long_table_lem h = go (length_sound (length t)) refl
    where
      go : (b : Bool) → length_sound (length t) ≡ b → given_of t names ds ≡ turned_away table_length []
      go true e = absurd (omega (arith, length_whole (length t) e))
      go false e = bad_table e

  long_names : length_sound (length t) ≡ true → most_names < length names
      → given_of t names ds ≡ turned_away name_bytes []
  unfolding given_of
  long_names e h = rw (← check_names t names (sym e) refl h) refl

-- ten bytes or more are never a dialect
long_dialect : (ds : List ℕ) → 9 < length ds → from_bytes ds ≡ None
long_dialect ds h = other_length ds (λ e. omega arith) (λ e. omega arith)

-- the bytes that are cut off do not matter; the edition is the same
module _ (t names ds : List ℕ) (edition : Option ℕ) where
  abbrev cut : List ℕ → List ℕ → List ℕ → Content
  cut t' names' ds' = holding t' names' ds' edition

  bad_dialect_lem : {ds' : List ℕ} → from_bytes ds ≡ None → from_bytes ds' ≡ None
      → Alike (cut t names ds') (cut t names ds)
  unfolding given_of
  bad_dialect_lem {ds'} e f = go (check_of t names) refl
    where
      go : (x : Answer) → check_of t names ≡ x → Alike (cut t names ds') (cut t names ds)
      go (accepted vs) c = away_alike (cut t names ds') (cut t names ds) {n = bad_dialect} {vs = []} (rw (c, f) refl)
          (rw (c, e) refl)
      go (refused n vs) c = away_alike (cut t names ds') (cut t names ds) {n = n} {vs = vs} (rw c refl) (rw c refl)

  enough_dialect : Alike (cut t names (take 10 ds)) (cut t names ds)
  enough_dialect = ⊎_elim
      (λ (h : length ds ≤ 9). rw (take_all 10 ds (omega arith))
      record { answer = λ room. refl; after = λ buffer. refl })
      (λ (h : 9 < length ds). bad_dialect_lem (long_dialect ds h)
      (long_dialect (take 10 ds) (simp length-take (omega arith))))
      (le_or_lt (length ds) 9)

  enough_names : Alike (cut t (take (suc most_names) names) (take 10 ds)) (cut t names ds)
  enough_names = ⊎_elim
      (λ (h : length names ≤ most_names). rw (take_all (suc most_names) names (omega arith)) enough_dialect)
      (λ (h : most_names < length names). go (length_sound (length t)) refl h)
      (le_or_lt (length names) most_names)
    where
      part : List ℕ
      part = take (suc most_names) names

      go : (b : Bool) → length_sound (length t) ≡ b → most_names < length names
          → Alike (cut t part (take 10 ds)) (cut t names ds)
      go true e h = away_alike (cut t part (take 10 ds)) (cut t names ds)
          (long_names t part (take 10 ds) e (simp length-take (omega arith))) (long_names t names ds e h)
      go false e h = away_alike (cut t part (take 10 ds)) (cut t names ds)
          (bad_table t part (take 10 ds) e) (bad_table t names ds e)

  -- THEOREM: the first bytes of each decide
  pub read_enough : Alike (holding (take (suc most_bytes) t) (take (suc most_names) names) (take 10 ds) edition)
      (holding t names ds edition)
  read_enough = ⊎_elim
      (λ (h : length t ≤ most_bytes). rw (take_all (suc most_bytes) t (omega arith)) enough_names)
      (λ (h : most_bytes < length t). away_alike
      (cut (take (suc most_bytes) t) (take (suc most_names) names) (take 10 ds)) (cut t names ds)
      (long_table_lem (take (suc most_bytes) t) _ _ (simp length-take (omega arith))) (long_table_lem t names ds h))
      (le_or_lt (length t) most_bytes)
