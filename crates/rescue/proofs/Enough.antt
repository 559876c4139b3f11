-- A program reads the first 59,904 bytes of a file, or more; that is enough for a file of any length, because a
-- header describes at most 117 blocks. If the counts are within the limits, everything that is judged, read and kept
-- depends on the first n bytes alone (the laws of parts in blocks); if not, both answers are 90. So the answer is the
-- same but for the number of bytes after the last block, to which the unread bytes are added (`read_enough`), and the
-- buffer is the same (`file_enough`). Assumes nothing.
use Rattle.std.specs.Prelude.{Err, Ok, Result}
use Rattle.table.specs.declared.Refusal.{Refusal}
use Rattle.rescue.specs.declared.Kept.{Kept}
use mathlib.Core.Path.{◌≡◌, refl, sym, ap, ◌∙◌}
use mathlib.Core.Bool.{Bool, true, false, and-false}
use mathlib.Core.List.{List, [], ◌∷◌}
use Prim.Native.Nat.{ℕ, ◌+◌, ◌*◌, ◌-◌, ◌≤◌}
use native.Mathlib.Omega.{arith}
use lib.ListN.{length, get_or, take, drop, set, length-take}
use lib.Seq.{take-take}
use lib.Dec.{leb}
use Rattle.fields.proofs.Basics.{drop_take}
use Rattle.table.specs.Answer.{Answer, accepted, refused, passes}
use Rattle.blocks.specs.Block.{judge}
use Rattle.blocks.specs.Run.{blocks_for, judge_run}
use Rattle.blocks.proofs.Parts.{judge_front, run_front, goods_front, content_front}
use Rattle.tablefile.specs.File.{most_blocks, file_of}
use Rattle.tablefile.specs.Reading.{header_at, used_of, stated_in, content_at, counts_fit, blocks_check}
use Rattle.tablefile.proofs.Fronts.{header_front, taken_is, dialect_few, edition_few, Small, counts_small}
use Rattle.tablefile.proofs.Fronts.{name_blocks, taken_few}
use Rattle.writer.specs.Writing.{afterwards}
use Rattle.rescue.specs.Good.{head_good, blocks_pass, good_table}
use Rattle.rescue.specs.Job.{table_kept, kept, rescue_of, file_after, rescued}
use Rattle.rescue.proofs.Theorems.{steps, size, rescue_is, bad_head}

-- an answer with more bytes after the last block
abbrev pub counted_on : ℕ → List ℕ → List ℕ
counted_on d vs = set vs 4 (get_or vs 4 0 + d)

abbrev pub later : ℕ → Answer → Answer
later d (accepted vs) = accepted (counted_on d vs)
later d (refused n vs) = refused n vs

abbrev pub more_of : ℕ → Result Kept Refusal → Result Kept Refusal
more_of d (Ok k) = Ok record {
  bytes = k.bytes;
  statements = k.statements;
  nodes = k.nodes;
  dropped = k.dropped;
  after = k.after + d;
}
more_of d (Err why) = Err why

later_steps : (a b c : Bool) (d p q r s t : ℕ)
    → later d (steps a b c (p ∷ q ∷ r ∷ s ∷ t ∷ [])) ≡ steps a b c (p ∷ q ∷ r ∷ s ∷ (t + d) ∷ [])
later_steps true true true d p q r s t = refl
later_steps true true false d p q r s t = refl
later_steps true false c d p q r s t = refl
later_steps false b c d p q r s t = refl

-- the first n bytes of a file, where n is at least the length of the largest file
module _ (bs : List ℕ) (n : ℕ) (big : 512 * most_blocks ≤ n) where
  abbrev h : ℕ
  h = (header_at bs).first

  header_same : header_at (take n bs) ≡ header_at bs
  header_same = header_front n bs (omega arith)

  dialect_same : (content_at (take n bs)).dialect ≡ (content_at bs).dialect
  unfolding content_at
  dialect_same = rw (header_same, drop_take 8 n bs)
      (take-take (header_at bs).dialect (n - 8) (drop 8 bs) (omega (arith, dialect_few bs)))

  edition_same : (content_at (take n bs)).edition ≡ (content_at bs).edition
  unfolding content_at
  edition_same = rw (header_same, drop_take 17 n bs) (ap stated_in
      (take-take (header_at bs).edition (n - 17) (drop 17 bs) (omega (arith, edition_few bs))))

  zero_same : judge 0 (used_of (header_at bs)) (take n bs) ≡ judge 0 (used_of (header_at bs)) bs
  zero_same = judge_front 0 (used_of (header_at bs)) n bs (omega arith)

  -- if the counts are within the limits, these bytes contain the blocks
  module _ (fit : counts_fit (header_at bs).nodes (header_at bs).names ≡ true) where
    small : Small (header_at bs).nodes (header_at bs).names
    small = counts_small (header_at bs).nodes (header_at bs).names fit

    names_there : 512 + 512 * blocks_for (header_at bs).names ≤ n
    names_there = omega (arith, name_blocks small)

    names_run : judge_run 1 (header_at bs).names (drop 512 (take n bs)) ≡ judge_run 1 (header_at bs).names (drop 512 bs)
    names_run = run_front (header_at bs).names 512 n bs names_there 1

    names_same : (content_at (take n bs)).names ≡ (content_at bs).names
    unfolding content_at
    names_same = rw header_same (content_front (header_at bs).names 512 n bs names_there)

    nodes_there : 512 * h + 512 * blocks_for (24 * (header_at bs).nodes) ≤ n
    nodes_there = omega (arith, taken_few bs small, taken_is bs)

    nodes_run : judge_run h (24 * (header_at bs).nodes) (drop (512 * h) (take n bs))
        ≡ judge_run h (24 * (header_at bs).nodes) (drop (512 * h) bs)
    nodes_run = run_front (24 * (header_at bs).nodes) (512 * h) n bs nodes_there h

    table_same : (content_at (take n bs)).table ≡ (content_at bs).table
    unfolding content_at
    table_same = rw header_same (content_front (24 * (header_at bs).nodes) (512 * h) n bs nodes_there)

    good_same : good_table (take n bs) ≡ good_table bs
    unfolding good_table
    good_same = rw (table_same, header_same, goods_front (24 * (header_at bs).nodes) (512 * h) n bs nodes_there h) refl

    blocks_same : blocks_pass (take n bs) ≡ blocks_pass bs
    unfolding blocks_pass blocks_check
    blocks_same = rw (
      table_same,
      names_same,
      dialect_same,
      edition_same,
      header_same,
      zero_same,
      names_run,
      nodes_run,
    ) refl

    head_same : head_good (take n bs) ≡ head_good bs
    unfolding head_good
    head_same = rw (dialect_same, edition_same, header_same, zero_same, names_run) refl

    table_kept_lem : table_kept (take n bs) ≡ table_kept bs
    unfolding table_kept
    table_kept_lem = rw (blocks_same, table_same, good_same, names_same) refl

    kept_same : kept (take n bs) ≡ kept bs
    kept_same = rw (table_kept_lem, names_same, dialect_same, edition_same) refl

    answer_fit : (room : ℕ) → later (length bs - n) (rescue_of (take n bs) room) ≡ rescue_of bs room
    answer_fit room =
        let more : length (take n bs) - (header_at bs).taken + (length bs - n) ≡ length bs - (header_at bs).taken =
        omega (arith, length-take n bs, taken_few bs small) in
        rw (rescue_is (take n bs) room, head_same, table_kept_lem, header_same)
        (later_steps (head_good bs) (leb 1 (length (table_kept bs))) (leb (size bs room) room) _ _ _ _ _ _
        ∙ rw more (sym (rescue_is bs room)))

  -- if they are not, both answers are 90
  module _ (unfit : counts_fit (header_at bs).nodes (header_at bs).names ≡ false) where
    head_first : head_good (take n bs) ≡ false
    unfolding head_good
    head_first = rw (header_same, unfit) (and-false (passes (judge 0 (used_of (header_at bs)) (take n bs))))

    head_whole : head_good bs ≡ false
    unfolding head_good
    head_whole = rw unfit (and-false (passes (judge 0 (used_of (header_at bs)) bs)))

    answer_unfit : (room : ℕ) → later (length bs - n) (rescue_of (take n bs) room) ≡ rescue_of bs room
    answer_unfit room = rw (bad_head (take n bs) room head_first) (sym (bad_head bs room head_whole))

  -- LAW: the answer is the same except for the number of bytes after the last block
  pub answer_same : (room : ℕ) → later (length bs - n) (rescue_of (take n bs) room) ≡ rescue_of bs room
  answer_same room = go (counts_fit (header_at bs).nodes (header_at bs).names) refl
    where
      go : (b : Bool) → counts_fit (header_at bs).nodes (header_at bs).names ≡ b
          → later (length bs - n) (rescue_of (take n bs) room) ≡ rescue_of bs room
      go true fit = answer_fit fit room
      go false unfit = answer_unfit unfit room

  -- THEOREM: the answer for the first n bytes, with the number of the other bytes added, is the answer for all
  pub read_enough : (r : Result Kept Refusal) (room : ℕ) → rescued r ≡ rescue_of (take n bs) room
      → rescued (more_of (length bs - n) r) ≡ rescue_of bs room
  read_enough r room e = means r ∙ ap (later (length bs - n)) e ∙ answer_same room
    where
      means : (s : Result Kept Refusal) → rescued (more_of (length bs - n) s) ≡ later (length bs - n) (rescued s)
      means (Ok k) = refl
      means (Err why) = refl

  -- the buffer at exit is the same
  pub file_enough : (buffer : List ℕ) → file_after (take n bs) buffer ≡ file_after bs buffer
  unfolding file_after
  file_enough buffer = go (counts_fit (header_at bs).nodes (header_at bs).names) refl
    where
      alike : (x : Answer) (file : List ℕ) → afterwards x file buffer ≡ afterwards (later (length bs - n) x) file buffer
      alike (accepted vs) file = refl
      alike (refused m vs) file = refl

      go : (b : Bool) → counts_fit (header_at bs).nodes (header_at bs).names ≡ b
          → afterwards (rescue_of (take n bs) (length buffer)) (file_of (kept (take n bs))) buffer
          ≡ afterwards (rescue_of bs (length buffer)) (file_of (kept bs)) buffer
      go true fit = rw (kept_same fit)
          (alike (rescue_of (take n bs) (length buffer)) (file_of (kept bs)) ∙ rw (answer_same (length buffer)) refl)
      go false unfit = rw (
        bad_head (take n bs) (length buffer) (head_first unfit),
        bad_head bs (length buffer) (head_whole unfit),
      ) refl
