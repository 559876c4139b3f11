-- Theorems of a single block, for any number and content. `Passing` lists the five facts that `judge` tests;
-- `passing` and `passes` turn acceptance into them and back. The block of a content passes (`block_passes`), because
-- each of its fields is read back from where it was written. Conversely a block that passes is the block of its
-- content (`passed_is_block`): its number, used bytes, content, zeros and sum are fixed, and these are all of its 512
-- bytes. If one byte changes, the sum or the stored sum changes but not both, so the block is refused with 72
-- (`changed_block`). The only induction is over the zeros after the content. Cite these three theorems. Assumes
-- nothing.
use mathlib.Core.Path.{◌≡◌, refl, sym, ap, ◌∙◌}
use mathlib.Core.Bool.{Bool, true, false, ◌&&◌}
use mathlib.Core.Logic.{⊎_elim}
use mathlib.Core.List.{List, [], ◌∷◌, ◌++◌, append_assoc, append-nil}
use Prim.Native.Nat.{ℕ, zero, suc, ◌+◌, ◌-◌, ◌<◌, ◌≤◌, min}
use native.Mathlib.Nat.{add-zero}
use native.Mathlib.Omega.{arith}
use lib.ListN.{length, get_or, take, drop, set, replicate, length-append, length-drop, length-set, length-replicate}
use lib.ListN.{take-append-drop}
use lib.Seq.{take_all, length-take-le, take_at, drop_at, take-take, take-nil, drop-drop, get_or-take, take-set-lt}
use lib.Seq.{take-set-le}
use lib.Dec.{eqb, leb}
use borrow.Author.Tests.{eq-eqb, ne_eqb, eqb-true, le-leb, leb-true}
use Rattle.fields.proofs.Basics.{drop_take, le_or_lt, and_left, and_right}
use Rattle.table.proofs.Answers.{never_passed}
use Rattle.fields.specs.Field.{field}
use Rattle.fields.proofs.Fields.{field_take}
use Rattle.table.specs.Numbers.{block_short, block_number, block_check, block_used}
use Rattle.table.specs.Answer.{Answer, accepted, refused, and_then}
use Rattle.fields.specs.Field.{bytes_of}
use Rattle.blocks.specs.Block.{sum_of, weighed, before_sum, block_of, zeros, demand, examine, judge}
use Rattle.fields.proofs.Spelling.{Bytes, bytes_take, bytes_append, bytes_zeros, bytes_spelled}
use Rattle.fields.proofs.Spelling.{length_bytes, field_behind, field_before, field_bytes, bytes_field}
use Rattle.fields.proofs.Spelling.{field_outside, field_changed}
use Rattle.blocks.proofs.Sums.{weighed_front, weighed_outside, weighed_changed, sum_small}

-- the facts that the judgement of a block tests
pub record Passing (number used : ℕ) (bs : List ℕ) : Type 0 where
  pub long : 512 ≤ length bs
  pub check : sum_of (take 512 bs) ≡ field 4 (take 512 bs) 508
  pub numbered : field 2 (take 512 bs) 0 ≡ number
  pub said : field 2 (take 512 bs) 2 ≡ used
  pub padding : zeros (drop (4 + used) (take 508 (take 512 bs))) ≡ true

-- five tests and what follows them: if the whole is accepted, each test is passed
met : (a b c d f : Bool) (next : Unit {0} → Answer)
    → and_then (and_then (demand a block_short)
    (λ _. and_then (demand b block_check) (λ _. and_then (demand c block_number) (λ _. demand (d && f) block_used))))
    next ≡ accepted []
    → (a ≡ true) × (b ≡ true) × (c ≡ true) × (d ≡ true) × (f ≡ true) × (next tt ≡ accepted [])
met true true true true true next e = (refl, refl, refl, refl, refl, e)
met true true true true false next e = never_passed e
met true true true false f next e = never_passed e
met true true false d f next e = never_passed e
met true false c d f next e = never_passed e
met false b c d f next e = never_passed e

module _ (number used : ℕ) (bs : List ℕ) where
  -- LAW: a block that passes, and what follows it
  pub passing_then : (next : Unit {0} → Answer) → and_then (judge number used bs) next ≡ accepted []
      → Passing number used bs × (next tt ≡ accepted [])
  unfolding judge examine
  passing_then next e =
      let b : List ℕ = take 512 bs in
      let m = met (leb 512 (length bs)) (eqb (sum_of b) (field 4 b 508)) (eqb (field 2 b 0) number)
      (eqb (field 2 b 2) used) (zeros (drop (4 + used) (take 508 b))) next e in (
        record {
          long = leb-true 512 (length bs) m.0;
          check = eqb-true (sum_of b) (field 4 b 508) m.1;
          numbered = eqb-true (field 2 b 0) number m.2;
          said = eqb-true (field 2 b 2) used m.3;
          padding = m.4;
        },
        m.5,
      )

  pub passing : judge number used bs ≡ accepted [] → Passing number used bs
  passing e = (passing_then (λ _. accepted []) (rw e refl)).0

  pub passes : Passing number used bs → judge number used bs ≡ accepted []
  unfolding judge examine
  passes p =
      let b : List ℕ = take 512 bs in
      rw (
        le-leb 512 (length bs) p.long,
        eq-eqb (sum_of b) (field 4 b 508) p.check,
        eq-eqb (field 2 b 0) number p.numbered,
        eq-eqb (field 2 b 2) used p.said,
        p.padding,
      )
      refl

pub take_min : (m n : ℕ) (l : List ℕ) → take m (take n l) ≡ take (min m n) l
take_min zero n l = let e : min 0 n ≡ 0 = omega arith in rw e refl
take_min (suc m) zero l = let e : min (suc m) 0 ≡ 0 = omega arith in rw e refl
take_min (suc m) (suc n) [] = sym (take-nil (min (suc m) (suc n)))
take_min (suc m) (suc n) (x ∷ l) = let e : min (suc m) (suc n) ≡ suc (min m n) = omega arith in
    rw e (ap (λ (r : List ℕ). x ∷ r) (take_min m n l))

sum_front : (f l : List ℕ) → 508 ≤ length f → sum_of (f ++ l) ≡ sum_of f
unfolding sum_of
sum_front f l h = weighed_front 508 f l h

-- a list that passes the test for zeros consists of zeros
pub zeros_are : (l : List ℕ) → zeros l ≡ true → l ≡ replicate (length l) 0
unfolding zeros
zeros_are [] e = refl
zeros_are (x ∷ l) e =
    let h : x ≡ 0 = eqb-true x 0 (and_left (eqb x 0) (zeros l) e) in
    let r : l ≡ replicate (length l) 0 = zeros_are l (and_right (eqb x 0) (zeros l) e) in
    cc

are_zeros : (n : ℕ) → zeros (replicate n 0) ≡ true
unfolding zeros
are_zeros zero = refl
are_zeros (suc n) = are_zeros n

-- the block of a number and a content
module _ (number : ℕ) (content : List ℕ) (fits : length content ≤ 504) where
  pub length_front : length (before_sum number content) ≡ 508
  unfolding before_sum
  length_front = simp (length-append, length_bytes, length-replicate {A = ℕ}) (omega arith)

  pub length_block : length (block_of number content) ≡ 512
  unfolding block_of
  length_block = simp (length-append, length_bytes, length_front) refl

  -- the bytes from byte 4 on
  front_content : drop 4 (before_sum number content) ≡ content ++ replicate (504 - length content) 0
  unfolding before_sum
  front_content =
      let rest : List ℕ = content ++ replicate (504 - length content) 0 in
      sym (drop-drop 2 2 (bytes_of 2 number ++ (bytes_of 2 (length content) ++ rest)))
      ∙ ap (drop 2) (drop_at (bytes_of 2 number) (bytes_of 2 (length content) ++ rest) 2 (length_bytes 2 number))
      ∙ drop_at (bytes_of 2 (length content)) rest 2 (length_bytes 2 (length content))

  block_front : (rest : List ℕ) → take 508 (block_of number content ++ rest) ≡ before_sum number content
  unfolding block_of
  block_front rest =
      let sum : List ℕ = bytes_of 4 (sum_of (before_sum number content)) in
      ap (take 508) (append_assoc (before_sum number content) sum rest)
      ∙ take_at (before_sum number content) (sum ++ rest) 508 length_front

  -- LAW: bytes 4 to 507 are the content and then zeros
  pub content_there : (rest : List ℕ) → take 504 (drop 4 (block_of number content ++ rest)) ≡ content
      ++ replicate (504 - length content) 0
  content_there rest = sym (drop_take 4 508 (block_of number content ++ rest)) ∙ ap (drop 4) (block_front rest)
      ∙ front_content

  module _ (small : Bytes content) (few : number < 65536) (rest : List ℕ) where
    bytes_front : Bytes (before_sum number content)
    unfolding before_sum
    bytes_front =
        bytes_append (bytes_of 2 number) _ (bytes_spelled 2 number)
        (bytes_append (bytes_of 2 (length content)) _ (bytes_spelled 2 (length content))
        (bytes_append content _ small (bytes_zeros (504 - length content))))

    first : take 512 (block_of number content ++ rest) ≡ block_of number content
    first = take_at (block_of number content) rest 512 length_block

    summed : sum_of (block_of number content) ≡ field 4 (block_of number content) 508
    unfolding block_of sum_of
    summed =
        let f : List ℕ = before_sum number content in
        let s : ℕ = weighed 508 f in
        let there : field 4 (f ++ bytes_of 4 s) (length f + 0) ≡ s =
        field_behind 4 f (bytes_of 4 s) 0 ∙ ap (λ (l : List ℕ). field 4 l 0) (sym (append-nil (bytes_of 4 s)))
        ∙ field_bytes 4 s [] (sum_small f bytes_front) in
        weighed_front 508 f (bytes_of 4 s) (omega (arith, length_front))
        ∙ sym (rw (length_front, add-zero 508) at there)

    numbered_so : field 2 (block_of number content) 0 ≡ number
    unfolding block_of before_sum
    numbered_so =
        field_before 2 (before_sum number content) (bytes_of 4 (sum_of (before_sum number content))) 0
        (omega (arith, length_front))
        ∙ field_bytes 2 number (bytes_of 2 (length content) ++ (content ++ replicate (504 - length content) 0)) few

    said_so : field 2 (block_of number content) 2 ≡ length content
    unfolding block_of before_sum
    said_so =
        let behind : List ℕ = content ++ replicate (504 - length content) 0 in
        let there : field 2 (bytes_of 2 number ++ (bytes_of 2 (length content) ++ behind))
        (length (bytes_of 2 number) + 0) ≡ length content =
        field_behind 2 (bytes_of 2 number) (bytes_of 2 (length content) ++ behind) 0
        ∙ field_bytes 2 (length content) behind (omega arith) in
        field_before 2 (before_sum number content) (bytes_of 4 (sum_of (before_sum number content))) 2
        (omega (arith, length_front))
        ∙ (rw (length_bytes 2 number, add-zero 2) at there)

    padded_so : zeros (drop (4 + length content) (take 508 (block_of number content))) ≡ true
    padded_so =
        let cut : take 508 (block_of number content)
        ≡ before_sum number content = ap (take 508) (sym (append-nil (block_of number content))) ∙ block_front
        [] in
        let behind : drop (4 + length content) (before_sum number content) ≡ replicate (504 - length content) 0 =
        sym (drop-drop (length content) 4 (before_sum number content)) ∙ ap (drop (length content)) front_content
        ∙ drop_at content (replicate (504 - length content) 0) (length content) refl in
        rw (cut, behind) (are_zeros (504 - length content))

    -- THEOREM: the block of a number and a content passes
    pub block_passes : judge number (length content) (block_of number content ++ rest) ≡ accepted []
    block_passes = passes number (length content) (block_of number content ++ rest) record {
      long = simp (length-append, length_block) (omega arith);
      check = rw first summed;
      numbered = rw first numbered_so;
      said = rw first said_so;
      padding = rw first padded_so;
    }

-- the parts of a block that passes: the whole block, the 508 bytes before its sum, and its content
module _ (number used : ℕ) (bs : List ℕ) (fits : used ≤ 504) (small : Bytes bs) (p : Passing number used bs) where
  abbrev whole : List ℕ
  whole = take 512 bs

  abbrev front : List ℕ
  front = take 508 whole

  abbrev inside : List ℕ
  inside = take used (drop 4 bs)

  whole_long : length whole ≡ 512
  whole_long = length-take-le 512 bs p.long

  whole_small : Bytes whole
  whole_small = bytes_take bs 512 small

  front_long : length front ≡ 508
  front_long = length-take-le 508 whole (omega (arith, whole_long))

  front_small : Bytes front
  front_small = bytes_take whole 508 whole_small

  inside_long : length inside ≡ used
  inside_long = length-take-le used (drop 4 bs) (simp length-drop (omega (arith, p.long)))

  -- bytes 0 to 1, and 2 to 3
  number_part : take 2 front ≡ bytes_of 2 number
  number_part = sym (bytes_field 2 front 0 front_small (omega (arith, front_long)))
      ∙ ap (bytes_of 2) (field_take 2 whole 508 0 (omega arith) ∙ p.numbered)

  used_part : take 2 (drop 2 front) ≡ bytes_of 2 (length inside)
  used_part = sym (bytes_field 2 front 2 front_small (omega (arith, front_long)))
      ∙ ap (bytes_of 2) (field_take 2 whole 508 2 (omega arith) ∙ p.said ∙ sym inside_long)

  -- from byte 4 on: the content, then zeros
  padding_part : drop (4 + used) front ≡ replicate (504 - length inside) 0
  padding_part =
      let behind : length (drop (4 + used) front) ≡ 504 - length inside =
      simp length-drop (omega (arith, front_long, inside_long)) in
      zeros_are (drop (4 + used) front) p.padding ∙ ap (λ (n : ℕ). replicate n 0) behind

  content_part : drop 4 front ≡ inside ++ replicate (504 - length inside) 0
  content_part =
      let there : take used (drop 4 front) ≡ inside =
      ap (λ (x : List ℕ). take used (drop 4 x)) (take-take 508 512 bs (omega arith))
      ∙ ap (take used) (drop_take 4 508 bs) ∙ take-take used 504 (drop 4 bs) fits in
      sym (take-append-drop used (drop 4 front)) ∙ rw (there, drop-drop used 4 front, padding_part) refl

  -- all bytes before the sum, and the sum
  front_part : front ≡ before_sum number inside
  unfolding before_sum
  front_part =
      let two : drop 2 front ≡ bytes_of 2 (length inside) ++ (inside ++ replicate (504 - length inside) 0) =
      sym (take-append-drop 2 (drop 2 front)) ∙ rw (used_part, drop-drop 2 2 front, content_part) refl in
      sym (take-append-drop 2 front) ∙ rw (number_part, two) refl

  sum_part : drop 508 whole ≡ bytes_of 4 (sum_of front)
  sum_part =
      let sum : sum_of whole ≡ sum_of front = ap sum_of (sym (take-append-drop 508 whole))
      ∙ sum_front front (drop 508 whole) (omega (arith, front_long)) in
      sym (take_all 4 (drop 508 whole) (simp length-drop (omega (arith, whole_long))))
      ∙ sym (bytes_field 4 whole 508 whole_small (omega (arith, whole_long)))
      ∙ ap (bytes_of 4) (sym p.check ∙ sum)

  -- THEOREM: a block that passes is the block of its content and nothing else
  pub passed_is_block : take 512 bs ≡ block_of number (take used (drop 4 bs))
  unfolding block_of
  passed_is_block = sym (take-append-drop 508 whole) ∙ rw (sum_part, front_part) refl

-- THEOREM: if any one byte of a block that passes is changed, the block is refused with 72, whatever number and used
-- bytes are expected
pub changed_block : (number used : ℕ) (bs : List ℕ) (i v : ℕ) → Passing number used bs → i < 512
    → (v ≡ get_or bs i 0 → ⊥) → (number' used' : ℕ) → judge number' used' (set bs i v) ≡ refused block_check []
unfolding judge examine sum_of
changed_block number used bs i v p h other number' used' =
    let b : List ℕ = take 512 bs in
    let there : i < length b = omega (arith, length-take-le 512 bs p.long) in
    let same : get_or b i 0 ≡ get_or bs i 0 = get_or-take 512 bs i 0 h in
    let wrong : weighed 508 (set b i v) ≡ field 4 (set b i v) 508 → ⊥ = λ e. ⊎_elim
    (λ (q : 508 ≤ i). other (field_changed 4 b 508 i v q (omega arith) there
    (sym e ∙ weighed_outside 508 b i v q ∙ p.check) ∙ same))
    (λ (q : i < 508). other (weighed_changed 508 b i v q there (e ∙ field_outside 4 b 508 i v q ∙ sym p.check)
    ∙ same))
    (le_or_lt 508 i) in
    let long : 512 ≤ length (set bs i v) = omega (arith, length-set bs i v, p.long) in
    rw (
      le-leb 512 (length (set bs i v)) long,
      take-set-lt 512 bs i v h,
      ne_eqb (weighed 508 (set b i v)) (field 4 (set b i v) 508) wrong,
    ) refl

-- LAW: a byte after a block does not affect its judgement
pub judge_outside : (number used : ℕ) (bs : List ℕ) (i v : ℕ) → 512 ≤ i
    → judge number used (set bs i v) ≡ judge number used bs
unfolding judge
judge_outside number used bs i v h = rw (length-set bs i v, take-set-le 512 bs i v h) refl
