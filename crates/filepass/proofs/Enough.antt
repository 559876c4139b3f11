-- At most `enough_bytes` bytes of a file are read: the blocks of the largest file, and one byte more. That is enough:
-- the answer for these first bytes is the answer for the file, however long it is (`read_enough`), and the same holds
-- for reading it into buffers (`into_enough`). If the file is not longer, nothing is cut off. If it is, its header is
-- within the first bytes; either its counts are beyond the limits, or its blocks are too, so both are refused alike,
-- at the latest with 75 for the byte more. Assumes nothing.
use mathlib.Core.Path.{◌≡◌, refl, sym, ap, ◌∙◌}
use mathlib.Core.Bool.{Bool, true, false}
use mathlib.Core.Logic.{⊎_elim}
use mathlib.Core.List.{List, []}
use Prim.Native.Nat.{ℕ, ◌+◌, ◌*◌, ◌<◌, ◌≤◌}
use native.Mathlib.Omega.{arith}
use lib.ListN.{length, take, drop, length-take}
use lib.Seq.{take_all}
use lib.Dec.{leb}
use borrow.Author.Tests.{lt-leb}
use Rattle.fields.proofs.Basics.{le_or_lt}
use Rattle.table.specs.Numbers.{block_counts, bytes_left_over}
use Rattle.table.specs.Answer.{Answer, accepted, refused, and_then}
use Rattle.table.specs.Check.{most_nodes, most_names, Ruling, by_rules, unruled, rules_of, in_rules}
use Rattle.table.proofs.Answers.{after_both}
use Rattle.blocks.specs.Block.{demand, judge}
use Rattle.blocks.specs.Run.{blocks_for, judge_run}
use Rattle.tablefile.specs.File.{Content, most_blocks}
use Rattle.tablefile.specs.Reading.{header_at, used_of, content_at, counts_fit, edition_read, blocks_check}
use Rattle.tablefile.specs.Reading.{front_check, sound_check, read_check}
use Rattle.tablefile.specs.Lending.{into_check, handed}
use Rattle.blocks.proofs.Parts.{judge_front, run_front}
use Rattle.tablefile.proofs.Fronts.{header_front, taken_is, counts_small, name_blocks, taken_few}
use Rattle.tablefile.proofs.Accepted.{read_whole, read_fronted}
use Rattle.filepass.specs.Sizes.{enough_bytes}
use Rattle.filepass.specs.Passing.{answer_of, if_read, words_after}

-- LAW: the largest number of blocks is that of the largest names and the largest table
pub most_blocks_lem : most_blocks ≡ 1 + blocks_for most_names + blocks_for (24 * most_nodes)
unfolding blocks_for
most_blocks_lem = refl

-- LAW: an accepted file has no more
pub accepted_short : (bs : List ℕ) → read_check bs ≡ accepted [] → length bs ≤ 512 * most_blocks
accepted_short bs e = omega (arith, read_whole bs e, taken_few bs (read_fronted bs e).counts)

-- the reader's check carries no values
Plain : Answer → Type 0
Plain (accepted vs) = vs ≡ []
Plain (refused n vs) = Unit {0}

after_plain : (x : Answer) (next : Unit {0} → Answer) → Plain (next tt) → Plain (and_then x next)
unfolding Plain
after_plain (accepted vs) next p = p
after_plain (refused n vs) next p = tt

rules_plain : (h : Ruling) → Plain (in_rules h (λ _ _. accepted []))
unfolding Plain
rules_plain (by_rules d e) = refl
rules_plain (unruled n vs) = tt

read_plain : (bs : List ℕ) → Plain (read_check bs)
unfolding read_check
read_plain bs =
    let c : Content = content_at bs in
    let sound : Unit {0} → Answer = λ _. sound_check c in
    let left : Answer = demand (leb (length bs) (header_at bs).taken) bytes_left_over in
    after_plain (front_check bs) (λ _. and_then left sound)
    (after_plain left sound (rules_plain (rules_of c.table c.names c.dialect (edition_read c))))

-- a file that is longer than the bytes read
module _ (m : ℕ) (bs : List ℕ) (enough : 512 * most_blocks < m) (longer : m < length bs) where
  header_part : header_at (take m bs) ≡ header_at bs
  header_part = header_front m bs (omega arith)

  -- the part of the check after the counts of block 0
  later : List ℕ → Answer
  later xs =
      and_then (and_then (judge_run 1 (header_at bs).names (drop 512 xs))
      (λ _. judge_run (header_at bs).first (24 * (header_at bs).nodes) (drop (512 * (header_at bs).first) xs))) (λ _.
      and_then (demand (leb (length xs) (header_at bs).taken) bytes_left_over) (λ _. sound_check (content_at xs)))

  later_part : counts_fit (header_at bs).nodes (header_at bs).names ≡ true → later (take m bs) ≡ later bs
  unfolding later
  later_part fit =
      let small = counts_small (header_at bs).nodes (header_at bs).names fit in
      let short : (header_at bs).taken ≤ 512 * most_blocks = taken_few bs small in
      let names = run_front (header_at bs).names 512 m bs (omega (arith, name_blocks small)) 1 in
      let nodes = run_front (24 * (header_at bs).nodes) (512 * (header_at bs).first) m bs
      (omega (arith, taken_is bs, short)) (header_at bs).first in
      let part_left = lt-leb (length (take m bs)) (header_at bs).taken (simp length-take (omega (arith, short))) in
      let left = lt-leb (length bs) (header_at bs).taken (omega (arith, short)) in
      rw (names, nodes, part_left, left) refl

  -- the whole check of some bytes with the same block 0
  whole : List ℕ → Bool → Answer
  whole xs fit = and_then (judge 0 (used_of (header_at bs)) xs)
      (λ _. and_then (demand fit block_counts) (λ _. later xs))

  whole_is : (xs : List ℕ) → header_at xs ≡ header_at bs
      → read_check xs ≡ whole xs (counts_fit (header_at bs).nodes (header_at bs).names)
  unfolding read_check blocks_check whole later
  whole_is xs header_is =
      let head : Answer = judge 0 (used_of (header_at bs)) xs in
      let counts : Answer = demand (counts_fit (header_at bs).nodes (header_at bs).names) block_counts in
      let runs : Unit {0} → Answer = λ _. and_then (judge_run 1 (header_at bs).names (drop 512 xs))
      (λ _. judge_run (header_at bs).first (24 * (header_at bs).nodes) (drop (512 * (header_at bs).first) xs)) in
      let next : Unit {0} → Answer = λ _. and_then (demand (leb (length xs) (header_at bs).taken) bytes_left_over)
      (λ _. sound_check (content_at xs)) in
      rw
      header_is
      (after_both head (λ _. and_then counts runs) next
      ∙ ap (λ (x : Answer). and_then head (λ _. x)) (after_both counts runs next))

  whole_part : (fit : Bool) → counts_fit (header_at bs).nodes (header_at bs).names ≡ fit
      → whole (take m bs) fit ≡ whole bs fit
  unfolding whole
  whole_part false e = rw (judge_front 0 (used_of (header_at bs)) m bs (omega arith)) refl
  whole_part true e = rw (judge_front 0 (used_of (header_at bs)) m bs (omega arith), later_part e) refl

  pub longer_part : read_check (take m bs) ≡ read_check bs
  longer_part =
      whole_is (take m bs) header_part
      ∙ whole_part (counts_fit (header_at bs).nodes (header_at bs).names) refl
      ∙ sym (whole_is bs refl)

  -- the file is refused, and so are the bytes read
  pub refused_both : {A : Type 0} (f : Answer → (Unit {0} → A) → A) → ((n : ℕ) (vs : List ℕ) (x y : Unit {0} → A)
      → f (refused n vs) x ≡ f (refused n vs) y) → (x y : Unit {0} → A)
      → f (read_check (take m bs)) x ≡ f (read_check bs) y
  unfolding Plain
  refused_both {A} f stops x y = rw longer_part (go (read_check bs) refl (read_plain bs))
    where
      go : (a : Answer) → read_check bs ≡ a → Plain a → f a x ≡ f a y
      go (accepted vs) e p = absurd (omega (arith, accepted_short bs (e ∙ ap accepted p)))
      go (refused n vs) e p = stops n vs x y

  pub longer_answer : answer_of (take m bs) ≡ answer_of bs
  unfolding answer_of
  longer_answer = refused_both and_then (λ n vs x y. refl) _ _

  pub longer_words : (xs : List ℕ) → words_after (take m bs) xs ≡ words_after bs xs
  unfolding words_after
  longer_words xs = refused_both (λ a next. if_read a xs next) (λ n vs x y. refl) _ _

  pub longer_into : (table names : ℕ) → into_check (take m bs) table names ≡ into_check bs table names
  unfolding into_check
  longer_into table names = refused_both and_then (λ n vs x y. refl) _ _

  -- if the reader refuses, a later check leaves the buffer unchanged
  handed_behind : (a : Answer) (next : Unit {0} → Answer) (held buffer : List ℕ)
      → handed (and_then a next) held buffer ≡ if_read a buffer (λ _. handed (next tt) held buffer)
  unfolding handed
  handed_behind (accepted vs) next held buffer = refl
  handed_behind (refused n vs) next held buffer = refl

  pub longer_handed : (table names : ℕ) (part held buffer : List ℕ)
      → handed (into_check (take m bs) table names) part buffer ≡ handed (into_check bs table names) held buffer
  unfolding into_check
  longer_handed table names part held buffer =
      handed_behind (read_check (take m bs)) _ part buffer
      ∙ refused_both (λ a next. if_read a buffer next) (λ n vs x y. refl) _ _
      ∙ sym (handed_behind (read_check bs) _ held buffer)

-- THEOREM: the answer for the first bytes of a file is the answer for the file, and the words are the same
pub read_enough : (file xs : List ℕ) → (answer_of (take enough_bytes file) ≡ answer_of file)
    × (words_after (take enough_bytes file) xs ≡ words_after file xs)
read_enough file xs =
    ⊎_elim
    (λ (h : length file ≤ enough_bytes). rw (take_all enough_bytes file h) (refl, refl))
    (λ (h : enough_bytes < length file). (
      longer_answer enough_bytes file (omega arith) h,
      longer_words enough_bytes file (omega arith) h xs,
    ))
    (le_or_lt (length file) enough_bytes)

-- THEOREM: the same if a file is read into buffers, with the table and the names at exit
pub into_enough : (file t ns : List ℕ) → let part = take enough_bytes file in
    let answer = into_check file (length t) (length ns) in
    let answer-part = into_check part (length t) (length ns) in
    (answer-part ≡ answer)
    × ((handed answer-part (content_at part).table t ≡ handed answer (content_at file).table t)
    × (handed answer-part (content_at part).names ns ≡ handed answer (content_at file).names ns))
into_enough file t ns =
    ⊎_elim
    (λ (h : length file ≤ enough_bytes). rw (take_all enough_bytes file h) (refl, (refl, refl)))
    (λ (h : enough_bytes < length file). (
      longer_into enough_bytes file (omega arith) h (length t) (length ns),
      (
        longer_handed enough_bytes file (omega arith) h (length t) (length ns) _ _ t,
        longer_handed enough_bytes file (omega arith) h (length t) (length ns) _ _ ns,
      ),
    ))
    (le_or_lt (length file) enough_bytes)
