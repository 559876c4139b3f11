-- Laws of `cut`, one for each `return`. The walk finds the length of the leading children that can be kept; these
-- bytes, with the new size in the root, are the cut to that number of children (`done_is_cut`). If this cut passes it
-- is the largest one (`cut_good`, by Largest's `kept_is`); if it does not, the root is at fault and no cut passes
-- (`cut_bad`, by `kept_none`). So one check decides. A root that is no Statements, or no such child, keeps nothing.
-- No induction. Assumes nothing.
use mathlib.Core.Path.{◌≡◌, refl, sym, ap, ◌∙◌}
use mathlib.Core.Bool.{Bool, true, false}
use mathlib.Core.List.{List}
use Prim.Native.Nat.{ℕ, ◌+◌, ◌*◌, ◌-◌, ◌/◌, ◌%◌, ◌<◌, ◌≤◌}
use native.Mathlib.Omega.{arith}
use lib.ListN.{length, take, drop, set}
use lib.Seq.{take_all, take-set-lt}
use borrow.Author.Tests.{le-leb, ne_eqb}
use Rattle.forest.specs.Forest.{node_of, span_of, Tree, forest, firsts, count}
use Rattle.forest.proofs.Stretch.{kids_part, length_kids}
use Rattle.forest.proofs.Prefix.{firsts_some, some_child}
use Rattle.table.specs.Answer.{passes}
use Rattle.table.specs.Check.{check_of}
use Rattle.rescue.specs.Cut.{children, resized, cut_to, children_kept, largest_cut}
use Rattle.rescue.specs.Steps.{keepable, leading, leading_bytes, kept_if, Front, Records}
use Rattle.rescue.proofs.Cuts.{length_resized, Rooted, rooted, cut_length, cut_short}
use Rattle.rescue.proofs.Greedy.{leading_few}
use Rattle.rescue.proofs.Largest.{kept_is, kept_none}

take_resized : (m n : ℕ) (t : List ℕ) → 24 ≤ n → take n (resized m t) ≡ resized m (take n t)
unfolding resized
take_resized m n t big = take-set-lt n (set t 16 (m % 256)) 17 (m / 256) (omega arith)
    ∙ ap (λ (x : List ℕ). set x 17 (m / 256)) (take-set-lt n t 16 (m % 256) (omega arith))

-- the returns at which nothing is kept
front_none : (t names u : List ℕ) → children_kept t names ≡ 0 → Front (largest_cut t names) u 0
unfolding largest_cut
front_none t names u e = record { size = rw e refl; front = rw e refl }

module _ (t names : List ℕ) {k : ℕ} (k_is : k ≡ (node_of 0 t).kind) where
  pub cut_other : (k ≡ 1 → ⊥) → Front (largest_cut t names) t 0
  unfolding children_kept
  cut_other e = front_none t names t (rw (← k_is, ne_eqb k 1 e) refl)

  module _ (kind : k ≡ 1) (r : Records t) where
    root : Rooted t
    root = rooted r.whole (sym k_is ∙ kind)

    pub cut_big : 24 ≤ length t
    cut_big = root.some

    module _ {e : ℕ} (e-is : e ≡ span_of t) where
      pub cut_row : 24 * (length (take (e - 24) (drop 24 t)) / 24) ≡ length (take (e - 24) (drop 24 t))
      cut_row = rw (kids_part e t e-is) (omega (arith, length_kids t, r.whole, cut_big))

      pub cut_from : 24 ≤ e
      cut_from = omega (arith, cut_big)

      abbrev test : Tree → Bool
      test = keepable (length names)

      module _ {done : ℕ} (done-is : done ≡ leading_bytes test (forest 1 (take (e - 24) (drop 24 t)))) where
        abbrev n : ℕ
        n = leading test (children t)

        done_is_cut : 24 + done ≡ 24 * (1 + count (firsts n (children t)))
        unfolding leading_bytes
        done_is_cut =
            let is : done ≡ 24 * count (firsts n (children t)) = rw (kids_part e t e-is) at done-is in
            omega arith

        pub cut_zero : done ≡ 0 → Front (largest_cut t names) t 0
        cut_zero z = front_none t names t (go (passes (check_of (cut_to n t) names)) refl)
          where
            go : (b : Bool) → passes (check_of (cut_to n t) names) ≡ b → children_kept t names ≡ 0
            go true e = omega (
              arith,
              kept_is names root r.few e,
              firsts_some n (children t) (leading_few _ (children t)),
              done_is_cut,
            )
            go false e = kept_none names root r.few e

        pub cut_fits : 24 + done ≤ length t
        cut_fits = omega (arith, done_is_cut, cut_length n root, cut_short n root)

        pub cut_word : (24 + done) / 24 < 65536
        cut_word = omega (arith, cut_fits, r.few)

        module _ (some : done ≡ 0 → ⊥) {u : List ℕ} (u-is : u ≡ resized ((24 + done) / 24) t) where
          pub cut_same : length u ≡ length t
          cut_same = ap length u-is ∙ length_resized ((24 + done) / 24) t

          pub cut_part : 24 + done ≤ length u
          cut_part = omega (arith, cut_same, cut_fits)

          cut_is : take (24 + done) u ≡ cut_to n t
          unfolding cut_to
          cut_is =
              let m : (24 + done) / 24 ≡ 1 + count (firsts n (children t)) = omega (arith, done_is_cut) in
              ap (take (24 + done)) u-is ∙ take_resized ((24 + done) / 24) (24 + done) t (omega arith)
              ∙ rw (m, done_is_cut) refl

          module _ {q : Bool} (q-is : q ≡ passes (check_of (take (24 + done - 0) u) names)) where
            q_test : passes (check_of (cut_to n t) names) ≡ q
            q_test =
                let all : 24 + done - 0 ≡ 24 + done = omega arith in
                sym (rw (all, cut_is) at q-is)

            pub cut_bad : q ≡ false → Front (largest_cut t names) u 0
            cut_bad bad = front_none t names u
                (kept_none names root r.few (q_test ∙ bad))

            pub cut_good : q ≡ true → Front (largest_cut t names) u (24 + done)
            unfolding largest_cut
            cut_good good =
                let is = kept_is names root r.few (q_test ∙ good) in
                let one : 1 ≤ n = some_child (children t) n (λ z. some (omega (arith, done_is_cut, z))) in
                let here : largest_cut t names ≡ cut_to n t = rw (is, le-leb 1 n one) refl in
                record {
                  size = rw here (sym (cut_length n root ∙ sym done_is_cut));
                  front = cut_is ∙ sym here;
                }

-- what is kept of the good records
module _ (t names : List ℕ) {w : Bool} where
  pub keep_all : w ≡ true → Front (kept_if w t names) t (length t)
  unfolding kept_if
  keep_all e = rw e record { size = refl; front = take_all (length t) t (omega arith) }

  pub keep_cut : w ≡ false → {u : List ℕ} {r : ℕ} → Front (largest_cut t names) u r → Front (kept_if w t names) u r
  unfolding kept_if
  keep_cut e f = rw e f
