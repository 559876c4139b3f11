-- Each public function has one answer: two answers that meet its promise are equal, and so are the buffers at exit.
-- For most functions the promise is an equation, so `coincide` suffices. `judge` and `judge_run` promise what their
-- answer means; no two answers have the same meaning (`judged_injective`), so `coincide_by` applies.
-- Assumes nothing.
use Rattle.std.specs.Prelude.{Err, Ok, Result, ℕ}
use mathlib.Core.Path.{◌≡◌, refl}
use mathlib.Core.List.{List, ◌++◌}
use Prim.Native.Nat.{ℕ, min}
use Rattle.fields.specs.Field.{bytes_of}
use Rattle.fields.proofs.Basics.{never}
use Rattle.fields.proofs.Coincide.{coincide, coincide_by}
use Rattle.blocks.specs.Block.{content_bytes, weight_of, sum_of, judge, judged}
use Rattle.blocks.specs.Laid.{laid_at, low_byte}
use Rattle.blocks.specs.Run.{blocks_for, judge_run, content_in}

-- no two judgements mean the same
pub judged_injective : (r s : Result (Unit {0}) ℕ) → judged r ≡ judged s → r ≡ s
judged_injective (Ok _) (Ok _) e = refl
judged_injective (Ok _) (Err n) e = never (cc)
judged_injective (Err m) (Ok _) e = never (cc)
judged_injective (Err m) (Err n) e = cc

-- of `judge`, the bytes as lent
pub judge_one : (bytes : List ℕ) (number used : ℕ) {r s : Result (Unit {0}) ℕ} → judged r ≡ judge number used bytes
    → judged s ≡ judge number used bytes → r ≡ s
judge_one bytes number used = coincide_by judged judged_injective

-- of `judge_run`, the bytes as lent
pub judge_run_one : (bytes : List ℕ) (first total : ℕ) {r s : Result (Unit {0}) ℕ}
    → judged r ≡ judge_run first total bytes
    → judged s ≡ judge_run first total bytes → r ≡ s
judge_run_one bytes first total = coincide_by judged judged_injective

-- of `blocks_for`
pub blocks_for_one : (total : ℕ) {r s : ℕ} → r ≡ blocks_for total → s ≡ blocks_for total → r ≡ s
blocks_for_one total = coincide

-- of `used_here`
pub used_here_one : (more : ℕ) {r s : ℕ} → r ≡ min content_bytes more → s ≡ min content_bytes more → r ≡ s
used_here_one more = coincide

-- of `content`, the bytes as lent
pub content_one : (bytes : List ℕ) (number : ℕ) {r s : List ℕ} → r ≡ content_in number bytes
    → s ≡ content_in number bytes → r ≡ s
content_one bytes number = coincide

-- of `weight`
pub weight_one : (p x : ℕ) {r s : ℕ} → r ≡ weight_of p x → s ≡ weight_of p x → r ≡ s
weight_one p x = coincide

-- of `sum`, the bytes as lent
pub sum_one : (b : List ℕ) {r s : ℕ} → r ≡ sum_of b → s ≡ sum_of b → r ≡ s
sum_one b = coincide

-- of `put`, the buffers as lent and at exit
pub put_one : (bytes : List ℕ) (at : ℕ) (out : List ℕ) {out-r out-s : List ℕ} → out-r ≡ laid_at at bytes out
    → out-s ≡ laid_at at bytes out → out-r ≡ out-s
put_one bytes at out = coincide

-- of `pair`
pub pair_one : (a b : ℕ) {r s : List ℕ} → r ≡ bytes_of 2 a ++ bytes_of 2 b → s ≡ bytes_of 2 a ++ bytes_of 2 b → r ≡ s
pair_one a b = coincide

-- of `quad`
pub quad_one : (n : ℕ) {r s : List ℕ} → r ≡ bytes_of 4 n → s ≡ bytes_of 4 n → r ≡ s
quad_one n = coincide

-- of `low`
pub low_one : (n : ℕ) {r s : ℕ} → r ≡ low_byte n → s ≡ low_byte n → r ≡ s
low_one n = coincide
