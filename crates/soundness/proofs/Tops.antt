-- Which top-level statement a record is in, in steps. `top_of` goes along the index: record i + 1 is in the statement
-- of record i until that ends. So a statement has the records that its size says, and the next one follows
-- (`top_within`, `top_behind`). The loop of code keeps the end and the number of that statement (`After`), and each
-- turn is one case of the definition: within it the record has its number, at its end the record begins the next one
-- (`turn_files`). The end of a root that is no Statements is the table's, which is why the root has to cover it.
-- `top_same` and `files_same` say what `top_of` looks at: the records before i, and of the root not the size, so that
-- a record has the same context in every cut that has it. Assumes nothing.
use mathlib.Core.Path.{◌≡◌, refl, sym, ap, ◌∙◌}
use mathlib.Core.Bool.{Bool, true, false, ◌&&◌}
use mathlib.Core.List.{List}
use mathlib.Core.Logic.{⊎_elim}
use Prim.Native.Nat.{ℕ, zero, suc, ◌+◌, ◌-◌, ◌*◌, ◌<◌, ◌≤◌, max}
use native.Mathlib.Omega.{arith}
use lib.ListN.{take, drop}
use lib.Dec.{eqb, leb}
use borrow.Author.Tests.{eq-eqb, ne_eqb, eqb-false, le-leb, lt-leb, leb-true, leb-false}
use Rattle.fields.proofs.Basics.{never, clash, le_or_lt}
use Rattle.fields.proofs.Fields.{field_take}
use Rattle.fields.specs.Choice.{if'}
use Rattle.forest.specs.Forest.{size_of, node_of}
use Rattle.forest.proofs.Stretch.{size_take}
use Rattle.soundness.specs.Files.{range, last_file, file_numbers, record_at, root_statements, ends_by, top_of, files_of}
use Rattle.soundness.specs.Packed.{root_end, Turned}

-- the two steps
module _ (t : List ℕ) (i : ℕ) where
  pub top_on : ends_by t (top_of t i) (suc i) ≡ false → top_of t (suc i) ≡ top_of t i
  unfolding top_of
  top_on e = rw e refl

  pub top_next : ends_by t (top_of t i) (suc i) ≡ true → top_of t (suc i) ≡ suc i
  unfolding top_of
  top_next e = rw e refl

first_ends : (t : List ℕ) → ends_by t (top_of t 0) 1 ≡ root_statements t
unfolding top_of ends_by
first_ends t = refl

-- a record is not before its statement
pub top_upto : (t : List ℕ) (i : ℕ) → top_of t i ≤ i
unfolding top_of
top_upto t zero = omega arith
top_upto t (suc i) = go (ends_by t (top_of t i) (suc i)) refl (top_upto t i)
  where
    go : (b : Bool) → ends_by t (top_of t i) (suc i) ≡ b → top_of t i ≤ i → top_of t (suc i) ≤ suc i
    go true e h = omega (arith, top_next t i e)
    go false e h = omega (arith, top_on t i e)

-- where what is at record k ends, past the root
ends_at : (t : List ℕ) (k j : ℕ) → 1 ≤ k → ends_by t k j ≡ leb (k + (record_at t k).size) j
unfolding ends_by
ends_at t zero j h = absurd (omega arith)
ends_at t (suc k) j h = refl

-- LAW: a top-level statement has the records that its size says, and behind them is the next one
module _ (t : List ℕ) (k : ℕ) (past : 1 ≤ k) (top : top_of t k ≡ k) where
  pub top_within : (j : ℕ) → k ≤ j → j < k + max 1 (record_at t k).size → top_of t j ≡ k
  top_within zero h g = absurd (omega arith)
  top_within (suc j) h g = ⊎_elim
      (λ (l : k ≤ j).
      let before : top_of t j ≡ k = top_within j l (omega arith) in
      let stays : ends_by t (top_of t j) (suc j) ≡ false = rw before (ends_at t k (suc j) past
      ∙ lt-leb (k + (record_at t k).size) (suc j) (omega arith)) in
      top_on t j stays ∙ before)
      (λ (l : j < k). let at : suc j ≡ k = omega arith in rw at top)
      (le_or_lt k j)

  pub top_behind : top_of t (k + max 1 (record_at t k).size) ≡ k + max 1 (record_at t k).size
  top_behind = go (k + max 1 (record_at t k).size - 1) (omega arith)
    where
      go : (j : ℕ) → suc j ≡ k + max 1 (record_at t k).size
          → top_of t (k + max 1 (record_at t k).size) ≡ k + max 1 (record_at t k).size
      go j e =
          let before : top_of t j ≡ k = top_within j (omega arith) (omega arith) in
          let ends : ends_by t (top_of t j) (suc j) ≡ true = rw before (ends_at t k (suc j) past
          ∙ le-leb (k + (record_at t k).size) (suc j) (omega arith)) in
          rw e at (top_next t j ends)

-- LAW: what a record is in begins with itself and has not ended; past a root Statements it is not the root
module _ (t : List ℕ) where
  pub top_self : (i : ℕ) → top_of t (top_of t i) ≡ top_of t i
  unfolding top_of
  top_self zero = refl
  top_self (suc i) = go (ends_by t (top_of t i) (suc i)) refl (top_self i)
    where
      go : (b : Bool) → ends_by t (top_of t i) (suc i) ≡ b → top_of t (top_of t i) ≡ top_of t i
          → top_of t (top_of t (suc i)) ≡ top_of t (suc i)
      go true e f = ap (top_of t) (top_next t i e)
      go false e f = rw (top_on t i e) f

  pub top_reach : (i : ℕ) → 1 ≤ top_of t i → i < top_of t i + max 1 (record_at t (top_of t i)).size
  top_reach zero h = omega arith
  top_reach (suc i) h = go (ends_by t (top_of t i) (suc i)) refl
    where
      go : (b : Bool) → ends_by t (top_of t i) (suc i) ≡ b
          → suc i < top_of t (suc i) + max 1 (record_at t (top_of t (suc i))).size
      go true e = omega (arith, top_next t i e)
      go false e =
          let at = top_on t i e in
          let within = leb-false (top_of t i + (record_at t (top_of t i)).size) (suc i)
          (sym (ends_at t (top_of t i) (suc i) (omega arith)) ∙ e) in
          rw at (omega arith)

  pub top_past : root_statements t ≡ true → (i : ℕ) → 1 ≤ i → 1 ≤ top_of t i
  top_past r zero h = absurd (omega arith)
  top_past r (suc i) h = go i (ends_by t (top_of t i) (suc i)) refl (top_past r i)
    where
      go : (i : ℕ) (b : Bool) → ends_by t (top_of t i) (suc i) ≡ b → (1 ≤ i → 1 ≤ top_of t i) → 1 ≤ top_of t (suc i)
      go i true e f = omega (arith, top_next t i e)
      go zero false e f = clash r (sym (first_ends t) ∙ e)
      go (suc i) false e f = omega (arith, top_on t (suc i) e, f (omega arith))

-- LAW: under a root Statements record 1 is the first top-level statement; any other root is the only one
pub top_first : (t : List ℕ) → root_statements t ≡ true → top_of t 1 ≡ 1
top_first t e = top_next t 0 (first_ends t ∙ e)

pub top_root : (t : List ℕ) → root_statements t ≡ false → (i : ℕ) → top_of t i ≡ 0
unfolding top_of ends_by
top_root t e zero = refl
top_root t e (suc i) = rw (top_root t e i, e) refl

-- the numbers that a record may have, case by case
module _ (t : List ℕ) where
  pub files_root : root_statements t ≡ true → files_of t 0 ≡ range 0 0
  unfolding files_of
  files_root e = rw e refl

  pub files_other : root_statements t ≡ false → files_of t 0 ≡ file_numbers
  unfolding files_of top_of
  files_other e = rw e refl

  pub files_top_lem : (k : ℕ) → 1 ≤ k → top_of t k ≡ k → files_of t k ≡ file_numbers
  unfolding files_of
  files_top_lem k past e = rw (ne_eqb k 0 (λ z. omega arith), e, eq-eqb k k refl) refl

  pub files_under : (i k : ℕ) → k < i → top_of t i ≡ k
      → files_of t i ≡ range (record_at t k).file (record_at t k).file
  unfolding files_of
  files_under i k past e = rw (ne_eqb i 0 (λ z. omega arith), e, ne_eqb k i (λ z. omega arith)) refl

-- code has passed record i: `end` and `file` are those of the top-level statement that it is in
pub record After (t : List ℕ) (n i end file : ℕ) : Type 0 where
  pub ends : (j : ℕ) → i < j → j < n → ends_by t (top_of t i) j ≡ leb end j
  pub same : (i ≡ 0 → root_statements t ≡ false) → file ≡ (record_at t (top_of t i)).file

-- code comes to record i of n
unfoldable pub Placed : List ℕ → ℕ → ℕ → ℕ → ℕ → Type 0
Placed t n zero end file = (end ≡ root_end t) × (file ≡ 0)
Placed t n (suc i) end file = After t n i end file

-- where the root ends, as code tests it
module _ (t : List ℕ) {kind : ℕ} (kind-is : kind ≡ (node_of 0 t).kind) where
  pub root_end_one : kind ≡ 1 → 1 ≡ root_end t
  unfolding root_end
  root_end_one e = rw (← kind-is, e) refl

  pub root_end_zero : (kind ≡ 1 → ⊥) → 0 ≡ root_end t
  unfolding root_end
  root_end_zero d = rw (← kind-is, ne_eqb kind 1 d) refl

pub place_start : (t : List ℕ) (n : ℕ) {end : ℕ} → end ≡ root_end t → Placed t n 0 end 0
unfolding Placed
place_start t n e = (e, refl)

-- a top-level statement begins, its record read from 24 bytes
pub turn_opens : (bs : List ℕ) {i end file own size : ℕ} → end ≤ i → own ≡ (node_of 0 (take 24 bs)).file
    → size ≡ (node_of 0 (take 24 bs)).size → Turned bs i end file (i + size) own 1 last_file
turn_opens bs h own_is size_is = record {
  inside = λ g. absurd (omega arith);
  opens = λ g. (
    omega (arith, size_is, size_take 24 bs (omega arith)),
    (own_is ∙ field_take 2 bs 24 18 (omega arith), (refl, refl)),
  );
}

-- what a turn gives: the numbers that the record may have, and what is kept
pub record Turns (t : List ℕ) (n i later own least most : ℕ) : Type 0 where
  pub files : files_of t i ≡ range least most
  pub after : After t n i later own

range_is : {a b c d : ℕ} → a ≡ c → b ≡ d → range a b ≡ range c d
range_is e f = rw (e, f) refl

-- the root
module _ {t : List ℕ} {n later own least most : ℕ} (covers : size_of t ≡ n) (some : 1 ≤ n) where
  root_left : root_statements t ≡ true → {file : ℕ} → file ≡ 0 → Turned t 0 1 file later own least most
      → Turns t n 0 later own least most
  unfolding top_of ends_by
  root_left e z s = let k = s.inside (omega arith) in record {
    files = files_root t e ∙ range_is (omega arith) (omega arith);
    after = record {
      ends = λ j h g. e ∙ sym (le-leb later j (omega arith));
      same = λ no. never (cc (no refl));
    };
  }

  root_stays : root_statements t ≡ false → {file : ℕ} → Turned t 0 0 file later own least most
      → Turns t n 0 later own least most
  unfolding top_of ends_by
  root_stays e s = let k = s.opens (omega arith) in record {
    files = files_other t e ∙ range_is (omega arith) (omega arith);
    after = record {
      ends = λ j h g. e ∙ sym (lt-leb later j (omega arith));
      same = λ no. k.1.0;
    };
  }

-- a record after record i
module _ {t : List ℕ} {n i end file later own least most : ℕ} (a : After t n i end file) (h : suc i < n)
    (s : Turned (drop (24 * suc i) t) (suc i) end file later own least most) where
  comes_next : leb end (suc i) ≡ true → Turns t n (suc i) later own least most
  unfolding ends_by
  comes_next e =
      let k = s.opens (leb-true end (suc i) e) in
      let top = top_next t i (a.ends (suc i) (omega arith) h ∙ e) in
      record {
        files = files_top_lem t (suc i) (omega arith) top ∙ range_is (omega arith) (omega arith);
        after = record {
          ends = λ j g l. rw (top, k.0) refl;
          same = λ no. rw top k.1.0;
        };
      }

  comes_within : leb end (suc i) ≡ false → Turns t n (suc i) later own least most
  comes_within e =
      let k = s.inside (leb-false end (suc i) e) in
      let stays : ends_by t (top_of t i) (suc i) ≡ false = a.ends (suc i) (omega arith) h ∙ e in
      let top = top_on t i stays in
      let number : file ≡ (record_at t (top_of t i)).file = a.same (λ z. root_no z stays) in
      record {
        files = files_under t (suc i) (top_of t i) (omega (arith, top_upto t i)) top
            ∙ range_is (omega arith) (omega arith);
        after = record {
          ends = λ j g l. rw (top, k.0) (a.ends j (omega arith) l);
          same = λ no. rw top (k.1.0 ∙ number);
        };
      }
    where
      root_no : i ≡ 0 → ends_by t (top_of t i) (suc i) ≡ false → root_statements t ≡ false
      root_no z f = sym (first_ends t) ∙ (rw z at f)

-- LAW: a turn of the loop
pub turn_files : {t : List ℕ} {n end file later own least most : ℕ} (i : ℕ) → size_of t ≡ n → Placed t n i end file
    → i < n → Turned (drop (24 * i) t) i end file later own least most → Turns t n i later own least most
unfolding Placed root_end
turn_files {t} {n} {end} {file} {later} {own} {least} {most} zero covers p h s = go (root_statements t) refl
  where
    go : (b : Bool) → root_statements t ≡ b → Turns t n 0 later own least most
    go true e = let k : end ≡ 1 = (rw e at p.0) in root_left covers (omega arith) e p.1 (rw k at s)
    go false e = let k : end ≡ 0 = (rw e at p.0) in root_stays covers (omega arith) e (rw k at s)
turn_files {t} {n} {end} {file} {later} {own} {least} {most} (suc i) covers p h s = go (leb end (suc i)) refl
  where
    go : (b : Bool) → leb end (suc i) ≡ b → Turns t n (suc i) later own least most
    go true e = comes_next p h s e
    go false e = comes_within p h s e

-- LAW: which statement a record is in depends on the root's kind and on the sizes of the records before it, and not on
-- the root's size; which numbers it may have, on their numbers too
pub top_same : (t u : List ℕ) → (node_of 0 t).kind ≡ (node_of 0 u).kind → (i : ℕ)
    → ((j : ℕ) → 1 ≤ j → j < i → (record_at t j).size ≡ (record_at u j).size) → top_of t i ≡ top_of u i
unfolding top_of ends_by
top_same t u root zero sizes = refl
top_same t u root (suc i) sizes =
    let before : top_of t i ≡ top_of u i = top_same t u root i (λ j h g. sizes j h (omega arith)) in
    rw before (go (top_of u i) refl)
  where
    go : (k : ℕ) → k ≡ top_of u i → if' (ends_by t k (suc i)) (λ _. suc i) (λ _. k)
        ≡ if' (ends_by u k (suc i)) (λ _. suc i) (λ _. k)
    go zero e = rw root refl
    go (suc k) e = rw (sizes (suc k) (omega arith) (omega (arith, top_upto u i))) refl

module _ (t u : List ℕ) (root : (node_of 0 t).kind ≡ (node_of 0 u).kind)
    (number : (node_of 0 t).file ≡ (node_of 0 u).file)
    (i : ℕ) (sizes : (j : ℕ) → 1 ≤ j → j < i → (record_at t j).size ≡ (record_at u j).size)
    (files : (j : ℕ) → 1 ≤ j → j < i → (record_at t j).file ≡ (record_at u j).file) where
  number_same : (k : ℕ) → k < i → (record_at t k).file ≡ (record_at u k).file
  number_same zero h = number
  number_same (suc k) h = files (suc k) (omega arith) h

  pub files_same : files_of t i ≡ files_of u i
  unfolding files_of
  files_same = rw (root, top_same t u root i sizes) (go (eqb (top_of u i) i) refl)
    where
      go : (b : Bool) → eqb (top_of u i) i ≡ b
          → if' (eqb i 0 && root_statements u) (λ _. range 0 0) (λ _. if' b (λ _. file_numbers) (λ _.
          range (record_at t (top_of u i)).file (record_at t (top_of u i)).file))
          ≡ if' (eqb i 0 && root_statements u) (λ _. range 0 0) (λ _. if' b (λ _. file_numbers) (λ _.
          range (record_at u (top_of u i)).file (record_at u (top_of u i)).file))
      go true e = refl
      go false e =
          let apart : top_of u i ≡ i → ⊥ = eqb-false (top_of u i) i e in
          let same = number_same (top_of u i) (omega (arith, top_upto u i)) in
          rw same refl
