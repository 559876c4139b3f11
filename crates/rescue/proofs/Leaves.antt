-- Laws of the small functions, one for each `return`. `good_bytes` keeps that the bytes of the blocks so far, and those
-- of the good blocks of the rest, are those of all good blocks (`Gathering`); one block is judged a turn, and the first
-- bad one ends it (`gather_stop`). `head_good` tests block 0, the counts, the dialect, the edition and the name blocks
-- in the order of the definition (`head_zero` to `head_passed`). `can_keep`, `sound`, `all_sound` and `statements` are
-- case distinctions. No induction beyond the loops. Assumes nothing.
use Rattle.std.specs.Prelude.{Err, None, Ok, Option, Result, Some, ℕ}
use mathlib.Core.Path.{◌≡◌, refl, sym, ◌∙◌}
use mathlib.Core.Bool.{Bool, true, false, ◌&&◌}
use mathlib.Core.List.{List}
use Prim.Native.Nat.{ℕ, suc, ◌+◌, ◌*◌, ◌-◌, ◌<◌, ◌≤◌, min}
use native.Mathlib.Omega.{arith}
use lib.ListN.{length, take, drop, set, length-set}
use lib.Dec.{leb}
use borrow.Author.Tests.{le-leb, lt-leb, eq-eqb, ne_eqb}
use Rattle.fields.specs.Choice.{if'}
use Rattle.fields.proofs.Fields.{tail_part}
use Rattle.dialect.specs.Bytes.{from_bytes}
use Rattle.dialect.specs.declared.Dialect.{Dialect}
use Rattle.dialect.specs.Editions.{stated_bytes, edition_held}
use Rattle.dialect.specs.declared.Edition.{Edition}
use Rattle.forest.specs.Forest.{node_of, span_of, forest, roots}
use Rattle.forest.proofs.Stretch.{kids_part}
use Rattle.soundness.specs.Kinds.{class_of}
use Rattle.soundness.specs.Sound.{unsound_in}
use Rattle.table.specs.Answer.{passes, checked}
use Rattle.table.specs.Check.{check_of}
use Rattle.table.specs.Depth.{first_deep}
use Rattle.table.specs.declared.Refusal.{Refusal}
use Rattle.blocks.specs.Block.{judge, judged}
use Rattle.blocks.specs.Run.{blocks_for, judge_run, good_blocks}
use Rattle.blocks.proofs.Blocks.{passing}
use Rattle.blocks.proofs.Runs.{blocks_more, some_more, none_more}
use Rattle.tablefile.specs.Reading.{header_at, used_of, content_at, counts_fit, edition_read}
use Rattle.tablefile.specs.declared.Heading.{Heading}
use Rattle.rescue.specs.Good.{head_good}
use Rattle.rescue.specs.Job.{statements_of}
use Rattle.rescue.specs.Steps.{keepable_at, good_bytes}

pub resize_fits : (t : List ℕ) (i v : ℕ) → 24 ≤ length t → 17 < length (set t i v)
resize_fits t i v h = omega (arith, length-set t i v)

-- the returns of `statements`
module _ (t : List ℕ) {k : ℕ} (k_is : k ≡ (node_of 0 t).kind) where
  pub statements_other : (k ≡ 1 → ⊥) → 1 ≡ statements_of t
  unfolding statements_of
  statements_other e = rw (← k_is, ne_eqb k 1 e) refl

  pub statements_kids : k ≡ 1 → {e n : ℕ} → e ≡ span_of t
      → n ≡ length (roots (forest 1 (take (e - 24) (drop 24 t)))) → n ≡ statements_of t
  unfolding statements_of
  statements_kids kind {e} e-is n_is = n_is ∙ rw (kids_part e t e-is, ← k_is, eq-eqb k 1 kind) refl

-- the returns of `sound` and `all_sound`
module _ (t names : List ℕ) {f : Result (Unit {0}) Refusal} (f-is : checked f ≡ check_of t names) where
  pub sound_yes : f ≡ Ok tt → true ≡ passes (check_of t names)
  sound_yes e = rw (← f-is, e) refl

  pub sound_no : {why : Refusal} → f ≡ Err why → false ≡ passes (check_of t names)
  sound_no e = rw (← f-is, e) refl

module _ (t names : List ℕ) (n : ℕ) where
  pub all_short : length t < 24 * n → false ≡ (leb (24 * n) (length t) && passes (check_of t names))
  all_short h = rw (lt-leb (24 * n) (length t) h) refl

  pub all_there : 24 * n ≤ length t → {q : Bool} → q ≡ passes (check_of t names)
      → q ≡ (leb (24 * n) (length t) && passes (check_of t names))
  all_there h q-is = q-is ∙ rw (le-leb (24 * n) (length t) h) refl

-- the returns of `can_keep`
module _ (m : ℕ) (c : List ℕ) {k : ℕ} (k_is : k ≡ class_of (node_of 0 c).kind) where
  pub keep_other : (k ≡ 1 → ⊥) → false ≡ keepable_at m c
  unfolding keepable_at
  keep_other e = rw (← k_is, ne_eqb k 1 e) refl

  module _ (class : k ≡ 1) {u : Option ℕ} (u-is : u ≡ unsound_in m c) where
    pub keep_unsound : {i : ℕ} → u ≡ Some i → false ≡ keepable_at m c
    unfolding keepable_at
    keep_unsound e = rw (← k_is, eq-eqb k 1 class, ← u-is, e) refl

    module _ (clean : u ≡ None) {d : Option ℕ} (d-is : d ≡ first_deep 1 (forest 0 c)) where
      pub keep_deep : {i : ℕ} → d ≡ Some i → false ≡ keepable_at m c
      unfolding keepable_at
      keep_deep e = rw (← k_is, eq-eqb k 1 class, ← u-is, clean, ← d-is, e) refl

      pub keep_flat : d ≡ None → true ≡ keepable_at m c
      unfolding keepable_at
      keep_flat e = rw (← k_is, eq-eqb k 1 class, ← u-is, clean, ← d-is, e) refl

-- the invariant of `good_bytes`, and its turns
good_more : (number total : ℕ) (bs : List ℕ) → 0 < total → good_bytes number total bs
    ≡ if' (passes (judge number (min 504 total) bs))
    (λ _. min 504 total + good_bytes (number + 1) (total - 504) (drop 512 bs)) (λ _. 0)
unfolding good_bytes good_blocks
good_more number total bs h = rw (blocks_more total h) (go (passes (judge number (min 504 total) bs)))
  where
    g : ℕ
    g = good_blocks (blocks_for (total - 504)) (number + 1) (total - 504) (drop 512 bs)

    go : (b : Bool) → min (504 * if' b (λ _. suc g) (λ _. 0)) total
        ≡ if' b (λ _. min 504 total + min (504 * g) (total - 504)) (λ _. 0)
    go true = omega arith
    go false = omega arith

pub record Gathering (bs : List ℕ) (first total : ℕ) (left : List ℕ) (number done : ℕ) : Type 0 where
  pub upto : done ≤ total
  pub count : number + blocks_for (total - done) ≡ first + blocks_for total
  pub same : good_bytes first total bs ≡ done + good_bytes number (total - done) left

pub gather_start : (bs : List ℕ) (first total : ℕ) → Gathering bs first total bs first 0
gather_start bs first total =
    let all : total - 0 ≡ total = omega arith in
    record { upto = omega arith; count = rw all refl; same = rw all (omega arith) }

module _ {bs : List ℕ} {first total : ℕ} {left : List ℕ} {number done : ℕ}
    (s : Gathering bs first total left number done) {n : ℕ} (n_is : n ≡ blocks_for total) where
  pub gather_end : first + n ≤ number → done ≡ good_bytes first total bs
  unfolding good_bytes
  gather_end h =
      let none : total - done ≡ 0 = none_more (total - done) (omega (arith, s.count)) in
      omega (arith, s.same, s.upto)

  module _ (next : number < first + n) {used : ℕ} (used-is : used ≡ min 504 (total - done)) (j : Result (Unit {0}) ℕ)
      (j-is : judged j ≡ judge number used left) where
    more : 0 < total - done
    more = some_more (total - done) (omega (arith, s.count))

    here : good_bytes number (total - done) left ≡ if' (passes (judged j))
        (λ _. used + good_bytes (number + 1) (total - done - 504) (drop 512 left)) (λ _. 0)
    here = good_more number (total - done) left more ∙ rw (j-is, used-is) refl

    pub gather_stop : {why : ℕ} → j ≡ Err why → done ≡ good_bytes first total bs
    gather_stop e =
        let none : good_bytes number (total - done) left ≡ 0 = here ∙ rw e refl in
        omega (arith, s.same)

    module _ (good : j ≡ Ok tt) where
      pub gather_long : 512 ≤ length left
      gather_long = (passing number used left (sym (rw good at j-is))).long

      pub gather_on : Gathering bs first total (take (length left - 512) (drop 512 left)) (number + 1) (done + used)
      gather_on =
          let less : total - (done + used) ≡ total - done - 504 = omega arith in
          let some : good_bytes number (total - done) left
          ≡ used + good_bytes (number + 1) (total - done - 504) (drop 512 left) = here ∙ rw good refl in
          record {
            upto = omega (arith, more);
            count = rw less (omega (arith, s.count, blocks_more (total - done) more));
            same = rw (less, tail_part 512 left) (omega (arith, s.same));
          }

-- the returns of `head_good`, in order; h is the header
module _ (bs : List ℕ) (h : Heading) (h-is : h ≡ header_at bs) (z : Result (Unit {0}) ℕ)
    (z-is : judged z ≡ judge 0 (used_of h) bs) where
  pub head_zero : {n : ℕ} → z ≡ Err n → false ≡ head_good bs
  unfolding head_good
  head_zero e = rw (← h-is, ← z-is, e) refl

  module _ (z-good : z ≡ Ok tt) where
    pub head_long : 512 ≤ length bs
    head_long = (passing 0 (used_of h) bs (sym (rw z-good at z-is))).long

    module _ {f : Bool} (f-is : f ≡ counts_fit h.nodes h.names) where
      pub head_counts : f ≡ false → false ≡ head_good bs
      unfolding head_good
      head_counts e = rw (← h-is, ← z-is, z-good, ← f-is, e) refl

      module _ (f-yes : f ≡ true) {ds : List ℕ} (ds-is : ds ≡ (content_at bs).dialect) {x : Option Dialect}
          (x-is : x ≡ from_bytes ds) where
        pub head_dialect : x ≡ None → false ≡ head_good bs
        unfolding head_good
        head_dialect e = rw (← ds-is, ← x-is, e, ← h-is, ← z-is, z-good, ← f-is, f-yes) refl

        -- y is the answer of `edition_held`
        module _ {d : Dialect} (x-good : x ≡ Some d) {s : Option ℕ}
            (s-is : s ≡ (content_at bs).edition) {y : Option Edition}
            (y-is : y ≡ edition_held ds (stated_bytes s)) where
          edition_so : edition_read (content_at bs) ≡ y
          edition_so = rw (y-is, ds-is, s-is) refl

          dialect_so : from_bytes (content_at bs).dialect ≡ Some d
          dialect_so = rw (← ds-is, ← x-is) x-good

          pub head_edition : y ≡ None → false ≡ head_good bs
          unfolding head_good
          head_edition e = rw (dialect_so, edition_so, e, ← h-is, ← z-is, z-good, ← f-is, f-yes) refl

          module _ {e : Edition} (y-good : y ≡ Some e) (n : Result (Unit {0}) ℕ)
              (n_is : judged n ≡ judge_run 1 h.names (take (length bs - 512) (drop 512 bs))) where
            head_run : head_good bs ≡ passes (judged n)
            unfolding head_good
            head_run =
                let run : judge_run 1 h.names (drop 512 bs) ≡ judged n = sym (rw (tail_part 512 bs) at n_is) in
                rw (dialect_so, edition_so, y-good, ← h-is, ← z-is, z-good, ← f-is, f-yes, run) refl

            pub head_names : {m : ℕ} → n ≡ Err m → false ≡ head_good bs
            head_names e = sym (head_run ∙ rw e refl)

            pub head_passed : n ≡ Ok tt → true ≡ head_good bs
            head_passed e = sym (head_run ∙ rw e refl)
