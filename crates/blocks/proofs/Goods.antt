-- The good blocks of a run are those before its first bad or missing block. There are at most as many as the run has,
-- and all their bytes are present (`good_there`). A run passes exactly if all its blocks are good (`good_all`,
-- `all_good`). The first g blocks of a run hold the first 504 * g bytes of its content, which is the content of a
-- shorter run (`held_content`). So a rescue reads the good part with the ordinary reader. Every induction is on the
-- number of blocks: one block is judged, and the rest is a run that begins 512 bytes later. Assumes nothing.
use mathlib.Core.Path.{◌≡◌, refl, sym, ap, ◌∙◌}
use mathlib.Core.Bool.{Bool, true, false}
use mathlib.Core.List.{List, [], ◌++◌}
use Prim.Native.Nat.{ℕ, zero, suc, ◌+◌, ◌*◌, ◌-◌, ◌≤◌, min}
use native.Mathlib.Omega.{arith}
use lib.ListN.{length, take, drop, length-drop}
use lib.Seq.{length-take-le, take_all, take_at, drop_at, take-add}
use Rattle.fields.specs.Choice.{if'}
use Rattle.fields.proofs.Basics.{clash}
use Rattle.table.specs.Answer.{Answer, accepted, refused, passes, and_then}
use Rattle.table.proofs.Answers.{passes_is}
use Rattle.blocks.specs.Block.{judge}
use Rattle.blocks.specs.Run.{blocks_for, judge_blocks, good_blocks, contents, content_of}
use Rattle.blocks.proofs.Blocks.{passing_then, take_min}
use Rattle.blocks.proofs.Runs.{contents_long}

-- a block that passes is present whole
pub block_long : (number used : ℕ) (bs : List ℕ) → passes (judge number used bs) ≡ true → 512 ≤ length bs
block_long number used bs e =
    let is = passes_is (judge number used bs) e in
    (passing_then number used bs (λ _. accepted []) (rw is.1 refl)).0.long

-- LAW: there are at most n good blocks, and all their bytes are present
pub good_there : (n number total : ℕ) (bs : List ℕ)
    → (good_blocks n number total bs ≤ n) × (512 * good_blocks n number total bs ≤ length bs)
unfolding good_blocks
good_there zero number total bs = (omega arith, omega arith)
good_there (suc n) number total bs = go (passes (judge number (min 504 total) bs)) refl
    (good_there n (number + 1) (total - 504) (drop 512 bs))
  where
    g : ℕ
    g = good_blocks n (number + 1) (total - 504) (drop 512 bs)

    go : (b : Bool) → passes (judge number (min 504 total) bs) ≡ b → (g ≤ n) × (512 * g ≤ length (drop 512 bs))
        → (if' b (λ _. suc g) (λ _. 0) ≤ suc n) × (512 * if' b (λ _. suc g) (λ _. 0) ≤ length bs)
    go true e rest =
        let long = block_long number (min 504 total) bs e in
        (omega (arith, rest.0), omega (arith, rest.1, length-drop 512 bs))
    go false e rest = (omega arith, omega arith)

-- LAW: a run passes exactly if all its blocks are good
pub good_all : (n number total : ℕ) (bs : List ℕ) → passes (judge_blocks n number total bs) ≡ true
    → good_blocks n number total bs ≡ n
unfolding judge_blocks good_blocks
good_all zero number total bs e = refl
good_all (suc n) number total bs e = go (judge number (min 504 total) bs) e
    (good_all n (number + 1) (total - 504) (drop 512 bs))
  where
    rest : Answer
    rest = judge_blocks n (number + 1) (total - 504) (drop 512 bs)

    g : ℕ
    g = good_blocks n (number + 1) (total - 504) (drop 512 bs)

    go : (a : Answer) → passes (and_then a (λ _. rest)) ≡ true → (passes rest ≡ true → g ≡ n)
        → if' (passes a) (λ _. suc g) (λ _. 0) ≡ suc n
    go (accepted vs) e on = ap suc (on e)
    go (refused m vs) e on = clash e refl

pub all_good : (n number total : ℕ) (bs : List ℕ) → n ≤ good_blocks n number total bs
    → passes (judge_blocks n number total bs) ≡ true
unfolding judge_blocks good_blocks
all_good zero number total bs h = refl
all_good (suc n) number total bs h = go (judge number (min 504 total) bs) h
    (all_good n (number + 1) (total - 504) (drop 512 bs))
  where
    rest : Answer
    rest = judge_blocks n (number + 1) (total - 504) (drop 512 bs)

    g : ℕ
    g = good_blocks n (number + 1) (total - 504) (drop 512 bs)

    go : (a : Answer) → suc n ≤ if' (passes a) (λ _. suc g) (λ _. 0) → (n ≤ g → passes rest ≡ true)
        → passes (and_then a (λ _. rest)) ≡ true
    go (accepted vs) h on = on (omega arith)
    go (refused m vs) h on = absurd (omega arith)

-- the contents of the first blocks
contents_first : (g n : ℕ) (bs : List ℕ) → g ≤ n → 512 * g ≤ length bs → take (504 * g) (contents n bs) ≡ contents g bs
unfolding contents
contents_first zero n bs h there = refl
contents_first (suc g) zero bs h there = absurd (omega arith)
contents_first (suc g) (suc n) bs h there =
    let a : List ℕ = take 504 (drop 4 bs) in
    let r : List ℕ = contents n (drop 512 bs) in
    let long : length a ≡ 504 = length-take-le 504 (drop 4 bs) (simp length-drop (omega arith)) in
    let both : 504 * suc g ≡ 504 + 504 * g = omega arith in
    let rest = contents_first g n (drop 512 bs) (omega arith) (simp length-drop (omega arith)) in
    rw (both, take-add 504 (504 * g) (a ++ r), take_at a r 504 long, drop_at a r 504 long, rest) refl

-- the number of content bytes in the first g blocks of a run
abbrev pub held : ℕ → ℕ → ℕ
held g total = min (504 * g) total

pub held_blocks : (g total : ℕ) → g ≤ blocks_for total → blocks_for (held g total) ≡ g
unfolding blocks_for
held_blocks g total h = omega arith

-- LAW: the first g blocks hold the first bytes of the run's content
module _ (g total : ℕ) (bs : List ℕ) (few : g ≤ blocks_for total) (there : 512 * g ≤ length bs) where
  pub held_content : take (504 * g) (content_of total bs) ≡ content_of (held g total) bs
  unfolding content_of
  held_content =
      let n : ℕ = blocks_for total in
      let first = contents_first g n bs few there in
      let turned : min total (504 * g) ≡ held g total = omega arith in
      let inner : take (held g total) (contents n bs) ≡ take total (take (504 * g) (contents n bs)) =
      sym (take_min total (504 * g) (contents n bs) ∙ ap (λ (m : ℕ). take m (contents n bs)) turned) in
      let outer : take (held g total) (contents g bs) ≡ take total (contents g bs) =
      sym (ap (take total) (sym (take_all (504 * g) (contents g bs) (omega (arith, contents_long g bs there))))
      ∙ take_min total (504 * g) (contents g bs) ∙ ap (λ (m : ℕ). take m (contents g bs)) turned) in
      rw (held_blocks g total few)
      (take_min (504 * g) total (contents n bs) ∙ inner ∙ ap (take total) first ∙ sym outer)

  pub held_length : length (content_of (held g total) bs) ≡ held g total
  unfolding content_of
  held_length = rw (held_blocks g total few)
      (length-take-le (held g total) (contents g bs) (omega (arith, contents_long g bs there)))
