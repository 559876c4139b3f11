-- Runs of blocks: a content of any length, cut into pieces of 504 bytes. A run is its first block followed by the run
-- of the rest (`blocks_more`, `run_more`), so every induction is on the number of blocks and each step is a theorem
-- of Blocks. Theorems: a run that passes is the run of its content (`passed_is_run`), the run of a content passes
-- (`run_passes`) and holds that content (`run_holds`), and one changed byte makes it 72 (`changed_run`). The loop of
-- `judge_run` keeps that judging the remaining blocks gives the whole answer (`Running`). `content_none` to
-- `content_whole` are the four returns of `content`. Assumes nothing.
use Rattle.std.specs.Prelude.{Err, Ok, Result, ℕ}
use mathlib.Core.Path.{◌≡◌, refl, sym, ap, ◌∙◌}
use mathlib.Core.Logic.{⊎_elim}
use mathlib.Core.List.{List, [], ◌∷◌, ◌++◌, append_assoc, append-nil}
use Prim.Native.Nat.{ℕ, zero, suc, ◌+◌, ◌*◌, ◌-◌, ◌/◌, ◌<◌, ◌≤◌, ◌^◌, min}
use native.Mathlib.Omega.{arith}
use lib.ListN.{length, get_or, take, drop, set, replicate, length-append, length-take, length-drop, take-append-drop}
use lib.ListN.{drop_of_length-le}
use lib.Seq.{take_all, length-take-le, take_at, drop_at, take-append-le, take-append-add, take-take, take-add}
use lib.Seq.{get_or-drop, drop-set-add, drop-drop}
use Rattle.fields.proofs.Basics.{drop_take, le_or_lt}
use Rattle.fields.proofs.Fields.{tail_part}
use Rattle.table.specs.Numbers.{block_check}
use Rattle.table.specs.Answer.{Answer, accepted, refused, and_then}
use Rattle.table.proofs.Answers.{after_both}
use Rattle.blocks.specs.Block.{block_of, judge, judged}
use Rattle.blocks.specs.Run.{blocks_for, blocks_of, run_of, judge_blocks, judge_run, contents, content_in}
use Rattle.blocks.specs.Run.{content_of}
use Rattle.blocks.proofs.Blocks.{passing, passing_then, passes, take_min, length_block}
use Rattle.blocks.proofs.Blocks.{content_there, block_passes, passed_is_block, changed_block, judge_outside}
use Rattle.fields.proofs.Spelling.{Bytes, bytes_take, bytes_drop}

-- a change at or after byte n, seen from byte n on
pub drop_set : (n : ℕ) (l : List ℕ) (i v : ℕ) → n ≤ i → drop n (set l i v) ≡ set (drop n l) (i - n) v
drop_set n l i v h = let at : i ≡ n + (i - n) = omega arith in
    ap (λ (x : ℕ). drop n (set l x v)) at ∙ drop-set-add n l (i - n) v

pub get_d_behind : (n : ℕ) (l : List ℕ) (i : ℕ) → n ≤ i → get_or (drop n l) (i - n) 0 ≡ get_or l i 0
get_d_behind n l i h = let at : n + (i - n) ≡ i = omega arith in
    get_or-drop n l (i - n) 0 ∙ ap (λ (x : ℕ). get_or l x 0) at

-- the first block and the others
pub blocks_more : (total : ℕ) → 0 < total → blocks_for total ≡ suc (blocks_for (total - 504))
unfolding blocks_for
blocks_more total h = omega arith

pub run_more : (number total : ℕ) (bs : List ℕ) → 0 < total
    → judge_run number total bs ≡ and_then (judge number (min 504 total) bs)
    (λ _. judge_run (number + 1) (total - 504) (drop 512 bs))
unfolding judge_run judge_blocks
run_more number total bs h = rw (blocks_more total h) refl

pub run_none : (number : ℕ) (bs : List ℕ) → judge_run number 0 bs ≡ accepted []
unfolding judge_run judge_blocks blocks_for
run_none number bs = refl

-- the invariant of `judge_run`: judging the remaining blocks gives the whole answer, and they are those that are left
pub record Running (bs : List ℕ) (first total : ℕ) (left : List ℕ) (number more : ℕ) : Type 0 where
  pub same : judge_run number more left ≡ judge_run first total bs
  pub count : number + blocks_for more ≡ first + blocks_for total

pub running_start : (bs : List ℕ) (first total : ℕ) → Running bs first total bs first total
running_start bs first total = record { same = refl; count = refl }

-- the number after the last block fits
pub blocks_few : (first total : ℕ) {n : ℕ} → n ≡ blocks_for total → first < 65536 → total < 2 ^ 64
    → first + n < 2 ^ 64
unfolding blocks_for
blocks_few first total n_is f t = omega arith

-- bytes need blocks, and no bytes need none
pub some_more : (more : ℕ) → 0 < blocks_for more → 0 < more
unfolding blocks_for
some_more more h = omega arith

pub none_more : (more : ℕ) → blocks_for more ≡ 0 → more ≡ 0
unfolding blocks_for
none_more more h = omega arith

module _ {bs : List ℕ} {first total : ℕ} {left : List ℕ} {number more : ℕ}
    (s : Running bs first total left number more) {n : ℕ} (n_is : n ≡ blocks_for total) where
  pub running_end : first + n ≤ number → accepted [] ≡ judge_run first total bs
  running_end h =
      let e : more ≡ 0 = none_more more (omega (arith, s.count)) in
      sym (run_none number left) ∙ (rw e at s.same)

  module _ (h : number < first + n) {used : ℕ} (used-is : used ≡ min 504 more) (j : Result (Unit {0}) ℕ)
      (j-is : judged j ≡ judge number used left) where
    some : 0 < more
    some = some_more more (omega (arith, s.count))

    here : and_then (judged j) (λ _. judge_run (number + 1) (more - 504) (drop 512 left)) ≡ judge_run first total bs
    here = rw (j-is, used-is) (sym (run_more number more left some) ∙ s.same)

    pub running_stop : {why : ℕ} → j ≡ Err why → refused why [] ≡ judge_run first total bs
    running_stop e = rw e at here

    pub running_long : j ≡ Ok tt → 512 ≤ length left
    running_long e = (passing number used left (sym (rw e at j-is))).long

    pub running_on : j ≡ Ok tt → Running bs first total (take (length left - 512) (drop 512 left)) (number + 1)
        (more - used)
    running_on e =
        let m : more - used ≡ more - 504 = omega arith in
        record {
          same = rw (tail_part 512 left, m) (rw e at here);
          count = rw m (omega (arith, s.count, blocks_more more some));
        }

-- n blocks have 512 bytes each, whatever the content
pub length_blocks : (n number : ℕ) (content : List ℕ) → length (blocks_of n number content) ≡ 512 * n
unfolding blocks_of
length_blocks zero number content = refl
length_blocks (suc n) number content =
    let fits : length (take 504 content) ≤ 504 = simp length-take (omega arith) in
    simp (
      length-append,
      length_block number (take 504 content) fits,
      length_blocks n (number + 1) (drop 504 content),
    ) (omega arith)

pub length_run : (number : ℕ) (content : List ℕ) → length (run_of number content) ≡ 512 * blocks_for (length content)
unfolding run_of
length_run number content = length_blocks (blocks_for (length content)) number content

-- the contents of n blocks that are present: 504 bytes each
pub contents_long : (n : ℕ) (bs : List ℕ) → 512 * n ≤ length bs → length (contents n bs) ≡ 504 * n
unfolding contents
contents_long zero bs h = refl
contents_long (suc n) bs h =
    let r : length (contents n (drop 512 bs)) ≡ 504
    * n = contents_long n (drop 512 bs) (simp length-drop (omega arith)) in
    simp (length-append, length-take-le 504 (drop 4 bs) (simp length-drop (omega arith)), r) (omega arith)

-- the content of a run that is present has the expected length
pub content_long : (total : ℕ) (bs : List ℕ) → 512 * blocks_for total ≤ length bs
    → length (content_of total bs) ≡ total
unfolding content_of blocks_for
content_long total bs h = length-take-le total (contents (blocks_for total) bs)
    (omega (arith, contents_long (blocks_for total) bs h))

pub content_nothing : (bs : List ℕ) → content_of 0 bs ≡ []
unfolding content_of
content_nothing bs = refl

-- the content in the first block, and in the others
module _ (n total : ℕ) (bs : List ℕ) (h : 512 ≤ length bs) where
  full : length (take 504 (drop 4 bs)) ≡ 504
  full = length-take-le 504 (drop 4 bs) (simp length-drop (omega arith))

  first_part : take 504 (take total (contents (suc n) bs)) ≡ take (min 504 total) (drop 4 bs)
  unfolding contents
  first_part =
      let others : List ℕ = contents n (drop 512 bs) in
      take_min 504 total (take 504 (drop 4 bs) ++ others)
      ∙ take-append-le (min 504 total) (take 504 (drop 4 bs)) others (omega (arith, full))
      ∙ take-take (min 504 total) 504 (drop 4 bs) (omega arith)

  other_part : drop 504 (take total (contents (suc n) bs)) ≡ take (total - 504) (contents n (drop 512 bs))
  unfolding contents
  other_part =
      let others : List ℕ = contents n (drop 512 bs) in
      drop_take 504 total (take 504 (drop 4 bs) ++ others)
      ∙ ap (take (total - 504)) (drop_at (take 504 (drop 4 bs)) others 504 full)

-- LAW: the content of a run is that of its first block and then that of the others
content_more : (total : ℕ) (bs : List ℕ) → 0 < total → 512 ≤ length bs
    → content_of total bs ≡ take (min 504 total) (drop 4 bs) ++ content_of (total - 504) (drop 512 bs)
unfolding content_of
content_more total bs more h =
    let n : ℕ = blocks_for (total - 504) in
    rw (blocks_more total more) (sym (take-append-drop 504 (take total (contents (suc n) bs)))
    ∙ rw (first_part n total bs h, other_part n total bs h) refl)

-- LAW: the same with block numbers: the content of block `number`, then that of the blocks after it
pub content_next : (total number : ℕ) (file : List ℕ) → 0 < total → 512 * (number + 1) ≤ length file
    → content_of total (drop (512 * number) file)
    ≡ take (min 504 total) (content_in number file) ++ content_of (total - 504) (drop (512 * (number + 1)) file)
unfolding content_in
content_next total number file more h =
    let at : 512 * number + 512 ≡ 512 * (number + 1) = omega arith in
    content_more total (drop (512 * number) file) more (simp length-drop (omega arith))
    ∙ rw (
      take-take (min 504 total) 504 (drop 4 (drop (512 * number) file)) (omega arith),
      drop-drop 512 (512 * number) file,
      at,
    ) refl

-- a block that is present has 504 bytes of content
pub content_full : (number : ℕ) (file : List ℕ) → 512 * (number + 1) ≤ length file
    → length (content_in number file) ≡ 504
unfolding content_in
content_full number file h =
    length-take-le 504 (drop 4 (drop (512 * number) file)) (simp (length-drop, length-drop) (omega arith))

-- the returns of `content`: no block, fewer than 4 bytes, fewer than 508, all
module _ (file : List ℕ) (number : ℕ) where
  pub content_none : length file / 512 < number → take (0 - 0) file ≡ content_in number file
  unfolding content_in
  content_none h =
      let none : drop (512 * number) file ≡ [] = drop_of_length-le file {i = 512 * number} (omega arith) in
      rw none refl

  module _ (h : number ≤ length file / 512) where
    abbrev block : List ℕ
    block = take (length file - 512 * number) (drop (512 * number) file)

    cut : drop 4 block ≡ drop 4 (drop (512 * number) file)
    cut = ap (drop 4) (tail_part (512 * number) file)

    pub content_short : length block < 4 → take (0 - 0) block ≡ content_in number file
    unfolding content_in
    content_short k =
        let none : drop 4 block ≡ [] = drop_of_length-le block {i = 4} (omega arith) in
        rw (← cut, none) refl

    pub content_cut : length block < 508 → take (length block - 4) (drop 4 block) ≡ content_in number file
    unfolding content_in
    content_cut k = rw (tail_part 4 block, ← cut) (sym (take_all 504 (drop 4 block) (simp length-drop (omega arith))))

    pub content_whole : take (508 - 4) (drop 4 block) ≡ content_in number file
    unfolding content_in
    content_whole = rw cut refl

-- LAW: a run that passes is present whole
blocks_long : (n number total : ℕ) (bs : List ℕ) → judge_blocks n number total bs ≡ accepted [] → 512 * n ≤ length bs
unfolding judge_blocks
blocks_long zero number total bs e = omega arith
blocks_long (suc n) number total bs e =
    let step = passing_then number (min 504 total) bs (λ _. judge_blocks n (number + 1) (total - 504) (drop 512 bs))
    e in
    omega (
      arith,
      step.0.long,
      length-drop 512 bs,
      blocks_long n (number + 1) (total - 504) (drop 512 bs) step.1,
    )

pub run_long : (number total : ℕ) (bs : List ℕ) → judge_run number total bs ≡ accepted []
    → 512 * blocks_for total ≤ length bs
unfolding judge_run
run_long number total bs e = blocks_long (blocks_for total) number total bs e

-- LAW: a run that passes, and what follows it
blocks_then : (n number total : ℕ) (bs : List ℕ) (next : Unit {0} → Answer)
    → and_then (judge_blocks n number total bs) next ≡ accepted []
    → (judge_blocks n number total bs ≡ accepted []) × (next tt ≡ accepted [])
unfolding judge_blocks
blocks_then zero number total bs next e = (refl, e)
blocks_then (suc n) number total bs next e =
    let later : Unit {0} → Answer = λ _. judge_blocks n (number + 1) (total - 504) (drop 512 bs) in
    let step = passing_then number (min 504 total) bs (λ _. and_then (later tt) next)
    (sym (after_both (judge number (min 504 total) bs) later next) ∙ e) in
    let rest = blocks_then n (number + 1) (total - 504) (drop 512 bs) next step.1 in
    (rw (passes number (min 504 total) bs step.0) rest.0, rest.1)

pub run_then : (number total : ℕ) (bs : List ℕ) (next : Unit {0} → Answer)
    → and_then (judge_run number total bs) next ≡ accepted []
    → (judge_run number total bs ≡ accepted []) × (next tt ≡ accepted [])
unfolding judge_run
run_then number total bs next e = blocks_then (blocks_for total) number total bs next e

-- THEOREM: a run that passes is the run of its content and nothing else
passed_are_blocks : (n number total : ℕ) (bs : List ℕ) → Bytes bs → judge_blocks n number total bs ≡ accepted []
    → take (512 * n) bs ≡ blocks_of n number (take total (contents n bs))
unfolding judge_blocks blocks_of
passed_are_blocks zero number total bs small e = refl
passed_are_blocks (suc n) number total bs small e =
    let step = passing_then number (min 504 total) bs (λ _. judge_blocks n (number + 1) (total - 504) (drop 512 bs))
    e in
    let cut : 512 * suc n ≡ 512 + 512 * n = omega arith in
    rw (
      cut,
      take-add 512 (512 * n) bs,
      first_part n total bs step.0.long,
      other_part n total bs step.0.long,
      passed_are_blocks n (number + 1) (total - 504) (drop 512 bs) (bytes_drop bs 512 small) step.1,
      passed_is_block number (min 504 total) bs (omega arith) small step.0,
    )
    refl

pub passed_is_run : (number total : ℕ) (bs : List ℕ) → Bytes bs → judge_run number total bs ≡ accepted []
    → take (512 * blocks_for total) bs ≡ run_of number (content_of total bs)
unfolding judge_run run_of content_of
passed_is_run number total bs small e =
    passed_are_blocks (blocks_for total) number total bs small e
    ∙ ap (λ (n : ℕ). blocks_of (blocks_for n) number (content_of total bs))
    (sym (content_long total bs (run_long number total bs e)))

-- THEOREM: the run of a content passes, and it holds that content
blocks_pass_lem : (n number : ℕ) (content rest : List ℕ) → n ≡ blocks_for (length content) → Bytes content
    → number + n ≤ 65536 → judge_blocks n number (length content) (blocks_of n number content ++ rest) ≡ accepted []
unfolding judge_blocks blocks_of blocks_for
blocks_pass_lem zero number content rest n_is small few = refl
blocks_pass_lem (suc n) number content rest n_is small few =
    let here : List ℕ = take 504 content in
    let fits : length here ≤ 504 = simp length-take (omega arith) in
    let others : List ℕ = blocks_of n (number + 1) (drop 504 content) in
    let long : min 504 (length content) ≡ length here = sym (length-take 504 content) in
    let less : length content - 504 ≡ length (drop 504 content) = sym (length-drop 504 content) in
    let count : n ≡ (length (drop 504 content) + 503) / 504 = omega arith in
    rw (
      append_assoc (block_of number here) others rest,
      drop_at (block_of number here) (others ++ rest) 512 (length_block number here fits),
      long,
      block_passes number here fits (bytes_take content 504 small) (omega arith) (others ++ rest),
      less,
      blocks_pass_lem n (number + 1) (drop 504 content) rest count (bytes_drop content 504 small) (omega arith),
    )
    refl

pub run_passes : (number : ℕ) (content rest : List ℕ) → Bytes content → number + blocks_for (length content) ≤ 65536
    → judge_run number (length content) (run_of number content ++ rest) ≡ accepted []
unfolding judge_run run_of
run_passes number content rest small few = blocks_pass_lem (blocks_for (length content)) number content rest refl small
    few

-- the content of a full first block and of the others, and that of a block that is the last one
hold_full : (content more : List ℕ) → 504 ≤ length content
    → take (length (drop 504 content)) more ≡ drop 504 content
    → take (length content) ((take 504 content ++ replicate (504 - length (take 504 content)) 0) ++ more) ≡ content
hold_full content more q there =
    let here : List ℕ = take 504 content in
    let long : length here ≡ 504 = length-take-le 504 content q in
    let none : 504 - length here ≡ 0 = omega arith in
    let all : length content ≡ length here + length (drop 504 content) = omega (arith, length-drop 504 content) in
    rw (all, none, append-nil here, take-append-add here more (length (drop 504 content)), there)
    (take-append-drop 504 content)

hold_last : (content more : List ℕ) → length content < 504
    → take (length content) ((take 504 content ++ replicate (504 - length (take 504 content)) 0) ++ more) ≡ content
hold_last content more q =
    let whole : take 504 content ≡ content = take_all 504 content (omega arith) in
    rw (whole, append_assoc content (replicate (504 - length content) 0) more)
    (take_at content (replicate (504 - length content) 0 ++ more) (length content) refl)

blocks_hold : (n number : ℕ) (content rest : List ℕ) → length content ≤ 504 * n
    → take (length content) (contents n (blocks_of n number content ++ rest)) ≡ content
unfolding blocks_of contents
blocks_hold zero number [] rest h = refl
blocks_hold zero number (x ∷ content) rest h = absurd (omega arith)
blocks_hold (suc n) number content rest h =
    let here : List ℕ = take 504 content in
    let fits : length here ≤ 504 = simp length-take (omega arith) in
    let others : List ℕ = blocks_of n (number + 1) (drop 504 content) in
    let less : length (drop 504 content) ≤ 504 * n = simp length-drop (omega arith) in
    rw (
      append_assoc (block_of number here) others rest,
      drop_at (block_of number here) (others ++ rest) 512 (length_block number here fits),
      content_there number here fits (others ++ rest),
    )
    (⊎_elim
    (λ (q : 504 ≤ length content). hold_full content (contents n (others ++ rest)) q
    (blocks_hold n (number + 1) (drop 504 content) rest less))
    (λ (q : length content < 504). hold_last content (contents n (others ++ rest)) q)
    (le_or_lt 504 (length content)))

pub run_holds : (number : ℕ) (content rest : List ℕ)
    → content_of (length content) (run_of number content ++ rest) ≡ content
unfolding content_of run_of blocks_for
run_holds number content rest = blocks_hold (blocks_for (length content)) number content rest (omega arith)

-- LAW: a byte after a run does not affect its judgement
blocks_outside : (n number total : ℕ) (bs : List ℕ) (i v : ℕ) → 512 * n ≤ i
    → judge_blocks n number total (set bs i v) ≡ judge_blocks n number total bs
unfolding judge_blocks
blocks_outside zero number total bs i v h = refl
blocks_outside (suc n) number total bs i v h =
    let later : drop 512 (set bs i v) ≡ set (drop 512 bs) (i - 512) v = drop_set 512 bs i v (omega arith) in
    rw (
      judge_outside number (min 504 total) bs i v (omega arith),
      later,
      blocks_outside n (number + 1) (total - 504) (drop 512 bs) (i - 512) v (omega arith),
    ) refl

pub run_outside : (number total : ℕ) (bs : List ℕ) (i v : ℕ) → 512 * blocks_for total ≤ i
    → judge_run number total (set bs i v) ≡ judge_run number total bs
unfolding judge_run
run_outside number total bs i v h = blocks_outside (blocks_for total) number total bs i v h

-- THEOREM: if any one byte of a run that passes is changed, the run is refused with 72
changed_blocks : (n number total : ℕ) (bs : List ℕ) (i v : ℕ) → judge_blocks n number total bs ≡ accepted []
    → i < 512 * n → (v ≡ get_or bs i 0 → ⊥) → judge_blocks n number total (set bs i v) ≡ refused block_check []
unfolding judge_blocks
changed_blocks zero number total bs i v e h other = absurd (omega arith)
changed_blocks (suc n) number total bs i v e h other =
    let next : Unit {0} → Answer = λ _. judge_blocks n (number + 1) (total - 504) (drop 512 bs) in
    let step = passing_then number (min 504 total) bs next e in
    ⊎_elim
    (λ (q : 512 ≤ i).
    let later : drop 512 (set bs i v) ≡ set (drop 512 bs) (i - 512) v = drop_set 512 bs i v q in
    let old : get_or (drop 512 bs) (i - 512) 0 ≡ get_or bs i 0 = get_d_behind 512 bs i q in
    rw
    (judge_outside number (min 504 total) bs i v q, passes number (min 504 total) bs step.0, later)
    (changed_blocks n (number + 1) (total - 504) (drop 512 bs) (i - 512) v step.1 (omega arith)
    (λ g. other (g ∙ old))))
    (λ (q : i < 512). rw (changed_block number (min 504 total) bs i v step.0 q other number (min 504 total))
    refl)
    (le_or_lt 512 i)

pub changed_run : (number total : ℕ) (bs : List ℕ) (i v : ℕ) → judge_run number total bs ≡ accepted []
    → i < 512 * blocks_for total → (v ≡ get_or bs i 0 → ⊥)
    → judge_run number total (set bs i v) ≡ refused block_check []
unfolding judge_run
changed_run number total bs i v e h other = changed_blocks (blocks_for total) number total bs i v e h other
