-- The search for a name among the entries side by side. The loop keeps that the search among the entries that are left
-- gives the whole answer (`Searching`): the first entry has the name (`search_here`), or the rest decides
-- (`search_on`). Code reads one record of 24 bytes for that, and the record's index plays no part (`name_anywhere`). So
-- the same entry is found wherever the stretch begins, its index counted from there (`first_shifted`), and what is
-- found lies within the stretch (`first_within`); both are by `forest_induction`, on the siblings. Assumes nothing.
use Rattle.std.specs.Prelude.{None, Option, Some, ℕ}
use mathlib.Core.Path.{◌≡◌, refl, sym, ap, ◌∙◌}
use mathlib.Core.Bool.{Bool, true, false}
use mathlib.Core.List.{List, ◌∷◌}
use Prim.Native.Nat.{ℕ, zero, suc, ◌+◌, ◌-◌, ◌*◌, ◌/◌, ◌<◌, ◌≤◌}
use native.Mathlib.Nat.{add_assoc}
use native.Mathlib.Omega.{arith}
use lib.ListN.{length, take, drop, length-take, length-drop}
use lib.Seq.{take-nil}
use Rattle.fields.specs.Choice.{if'}
use Rattle.fields.proofs.Basics.{never}
use Rattle.forest.specs.Forest.{node_of, span_of, rest_of, forest, roots}
use Rattle.forest.specs.Names.{name_of, same}
use Rattle.forest.proofs.Stretch.{node_take, rest_part, length_rest, forest_induction, roots_none, roots_on}
use Rattle.table.specs.Naming.{bears_name, has_name, first_named, counted_from}
use Rattle.table.specs.declared.Entries.{Entries}

-- the test of code: an entry that bears no name has none
module _ (e : Entries) (ns x t : List ℕ) {k : ℕ} (k_is : k ≡ (node_of 0 t).kind) {b : Bool} (b_is : b ≡ bears_name e k)
  where
    pub name_none : b ≡ false → false ≡ has_name e ns x (node_of 0 t)
    unfolding has_name
    name_none h = rw (← k_is, ← b_is, h) refl

    pub name_tested : b ≡ true → {n : List ℕ} {r : Bool} → n ≡ name_of ns (node_of 0 t) → r ≡ same n x
        → r ≡ has_name e ns x (node_of 0 t)
    unfolding has_name
    name_tested h n_is r-is = rw (← n_is, ← k_is, ← b_is, h) r-is

-- its index does not matter
name_anywhere : (e : Entries) (ns x : List ℕ) (i j : ℕ) (t : List ℕ)
    → has_name e ns x (node_of i t) ≡ has_name e ns x (node_of j t)
unfolding has_name name_of
name_anywhere e ns x i j t = refl

-- The search: i of the first n entries are looked at, and the one with the index at comes next
pub record Searching (e : Entries) (ns x t : List ℕ) (n : ℕ) (left : List ℕ) (at i : ℕ) : Type 0 where
  pub upto : i ≤ n
  pub room : 24 * at + length left ≤ length t
  pub same : first_named e ns x (take (n - i) (roots (forest at left)))
      ≡ first_named e ns x (take n (roots (forest 0 t)))

pub search_start : (e : Entries) (ns x t : List ℕ) (n : ℕ) → Searching e ns x t n t 0 0
search_start e ns x t n =
    let all : n - 0 ≡ n = omega arith in
    record { upto = omega arith; room = omega arith; same = rw all refl }

module _ {e : Entries} {ns x t : List ℕ} {n : ℕ} {left : List ℕ} {at i : ℕ} (s : Searching e ns x t n left at i) where
  pub search_end : n ≤ i → None ≡ first_named e ns x (take n (roots (forest 0 t)))
  unfolding first_named
  search_end h = let k : n - i ≡ 0 = omega (arith, s.upto) in sym (sym s.same ∙ rw k refl)

  pub search_short : length left < 24 → None ≡ first_named e ns x (take n (roots (forest 0 t)))
  unfolding first_named
  search_short h = sym (sym s.same ∙ rw (roots_none at left h, take-nil (n - i)) refl)

  module _ (search_more : i < n) (search_long : 24 ≤ length left) where
    search_one : {z : ℕ} → z ≡ span_of left → first_named e ns x (take (n - i) (roots (forest at left)))
        ≡ first_named e ns x (node_of at left
        ∷ take (n - (i + 1)) (roots (forest (at + z / 24) (take (length left - z) (drop z left)))))
    search_one z-is =
        let k : n - i ≡ suc (n - (i + 1)) = omega (arith, search_more) in
        rw (k, roots_on at left search_long z-is) refl

    module _ {b : Bool} (b_is : b ≡ has_name e ns x (node_of 0 (take 24 left))) where
      -- code looks at the first record alone
      here : has_name e ns x (node_of at left) ≡ b
      here = name_anywhere e ns x at 0 left
          ∙ ap (has_name e ns x) (sym (node_take 0 24 left (omega arith))) ∙ sym b_is

      pub search_here : b ≡ true → Some at ≡ first_named e ns x (take n (roots (forest 0 t)))
      unfolding first_named
      search_here hit = sym (sym s.same ∙ search_one refl ∙ rw (here, hit) refl)

      pub search_on : b ≡ false → {z : ℕ} → z ≡ span_of left
          → Searching e ns x t n (take (length left - z) (drop z left)) (at + z / 24) (i + 1)
      unfolding first_named
      search_on miss {z} z-is = record {
        upto = omega (arith, search_more);
        room = simp (length-take, length-drop) (omega (arith, s.room, search_long));
        same = rw (here, miss) at (sym (search_one z-is) ∙ s.same);
      }

-- the first record of a stretch has the index k, or an index that is larger by first
module _ (e : Entries) (ns x : List ℕ) (first : ℕ) where
  abbrev Shifted : ℕ → List ℕ → Type 0
  Shifted k t = (n : ℕ) → first_named e ns x (take n (roots (forest (first + k) t)))
      ≡ counted_from first (first_named e ns x (take n (roots (forest k t))))

  -- the entry that is next has the name, or the rest decides
  entry_shifted : (b : Bool) (k : ℕ) (f g : Option ℕ) → f ≡ counted_from first g
      → if' b (λ _. Some (first + k)) (λ _. f) ≡ counted_from first (if' b (λ _. Some k) (λ _. g))
  entry_shifted true k f g rest = refl
  entry_shifted false k f g rest = rest

  shifted_on : (k : ℕ) (t : List ℕ) → 24 ≤ length t → Shifted (k + span_of t / 24) (rest_of t) → Shifted k t
  unfolding first_named
  shifted_on k t big rest zero = refl
  shifted_on k t big rest (suc n) =
      let on : first + k + span_of t / 24 ≡ first + (k + span_of t / 24) = add_assoc first k (span_of t / 24) in
      rw (
        roots_on (first + k) t big refl,
        roots_on k t big refl,
        rest_part (span_of t) t refl,
        on,
        name_anywhere e ns x (first + k) k t,
      ) (entry_shifted (has_name e ns x (node_of k t)) k _ _ (rest n))

  -- LAW: where the first record has another index, the same entry is found
  pub first_shifted : (k : ℕ) (t : List ℕ) (n : ℕ) → first_named e ns x (take n (roots (forest (first + k) t)))
      ≡ counted_from first (first_named e ns x (take n (roots (forest k t))))
  unfolding first_named
  first_shifted = forest_induction Shifted
      (λ k t s n. rw (roots_none (first + k) t s, roots_none k t s, take-nil n) refl)
      (λ k t big ks rs. shifted_on k t big rs)

-- LAW: what is found is within the stretch
pub first_within : (e : Entries) (ns x : List ℕ) (k : ℕ) (t : List ℕ) (n i : ℕ)
    → first_named e ns x (take n (roots (forest k t))) ≡ Some i → 24 * i + 24 ≤ 24 * k + length t
unfolding first_named
first_within e ns x =
    forest_induction
    (λ k t. (n i : ℕ) → first_named e ns x (take n (roots (forest k t))) ≡ Some i → 24 * i + 24 ≤ 24 * k + length t)
    (λ k t s n i h. absurd (none k t s n i h))
    (λ k t big ks rs n i h. go k t big rs n i h)
  where
    none : (k : ℕ) (t : List ℕ) → length t < 24 → (n i : ℕ)
        → first_named e ns x (take n (roots (forest k t))) ≡ Some i → ⊥
    none k t s n i h = let nothing = rw (roots_none k t s, take-nil n) at h in never (cc)

    go : (k : ℕ) (t : List ℕ) → 24 ≤ length t
        → ((n i : ℕ) → first_named e ns x (take n (roots (forest (k + span_of t / 24) (rest_of t)))) ≡ Some i
        → 24 * i + 24 ≤ 24 * (k + span_of t / 24) + length (rest_of t))
        → (n i : ℕ) → first_named e ns x (take n (roots (forest k t))) ≡ Some i → 24 * i + 24 ≤ 24 * k + length t
    go k t big rs zero i h = never (cc)
    go k t big rs (suc n) i h =
        step (has_name e ns x (node_of k t)) (rw (roots_on k t big refl, rest_part (span_of t) t refl) at h)
      where
        step : (b : Bool) → if' b (λ _. Some k)
            (λ _. first_named e ns x (take n (roots (forest (k + span_of t / 24) (rest_of t))))) ≡ Some i
            → 24 * i + 24 ≤ 24 * k + length t
        step true h = let same : k ≡ i = cc in omega arith
        step false h = omega (arith, rs n i h, length_rest t)
