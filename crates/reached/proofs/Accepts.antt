-- The other way of the walk along the arguments: if every argument reaches something, each ordinary parameter that one
-- fills is still empty, and no two fill the same one (`Free`), then the walk is accepted (`along_accepts`). The
-- induction is on the arguments: a turn is accepted (`turn_accepts`) and writes only its own parameter and its own
-- word, so the rest is free again. The two searches around the walk are accepted where they find nothing: no star among
-- the arguments (`star_accepts`), no parameter left empty (`empty_accepts`). Assumes nothing.
use mathlib.Core.Path.{◌≡◌, refl, ◌∙◌}
use mathlib.Core.Bool.{Bool, true, false, not, ◌&&◌}
use mathlib.Core.List.{List, [], ◌∷◌}
use Prim.Native.Nat.{ℕ, suc, ◌+◌, ◌<◌}
use native.Mathlib.Omega.{arith}
use lib.ListN.{get_or, set}
use lib.Dec.{eqb}
use borrow.Author.Tests.{le-ltb, ne_eqb}
use Rattle.fields.specs.Choice.{if'}
use Rattle.forest.specs.Forest.{Node}
use Rattle.table.specs.Numbers.{empty_parameter}
use Rattle.table.specs.Answer.{accepted, refused_at}
use Rattle.parameters.specs.declared.DefParamIndices.{DefParamIndices}
use Rattle.arguments.specs.Written.{Argument, positional, named, args, kwargs, node_in, kind_in}
use Rattle.bind.specs.FlatList.{FlatParam}
use Rattle.bind.specs.Binding.{reaches, turn, along, star_check, empty_check}
use Rattle.bind.specs.declared.Reach.{Reach}
use Rattle.bind.specs.declared.Reach.TheVariants.{Fills, Joins, Nowhere}
use Rattle.reached.specs.Said.{IsAt}
use Rattle.reached.proofs.Walk.{Took, took_other}

-- a turn is accepted: the words after it, and what it did
record Turned (place : ℕ) (r : Reach) (a : Argument) (ws : List ℕ) : Type 0 where
  words : List ℕ
  accepts : turn place r (kind_in a) (node_in a) ws ≡ accepted words
  took : Took place a ws words r

turn_accepts : (place : ℕ) (r : Reach) (a : Argument) (ws : List ℕ) → (r ≡ Nowhere → ⊥)
    → ((i : ℕ) → r ≡ Fills i → get_or ws i 0 ≡ 0) → Turned place r a ws
unfolding turn
turn_accepts place (Fills i) a ws some void =
    let z = void i refl in
    record {
      words = set (set ws i (node_in a).at) place i;
      accepts = rw (le-ltb 0 (get_or ws i 0) (omega arith)) refl;
      took = (z, refl);
    }
turn_accepts place (Joins i) a ws some void = record { words = set ws place i; accepts = refl; took = refl }
turn_accepts place Nowhere a ws some void = absurd (some refl)

module _ (flat : ℕ) (d : DefParamIndices) (fs : List FlatParam)
    (small : (k : ℕ) (a : Argument) (i : ℕ) → reaches d fs k a ≡ Fills i → i < flat) where
  -- all reach somewhere, each an empty parameter, no two the same
  pub record Free (k : ℕ) (ws : List ℕ) (qs : List Argument) : Type 0 where
    pub some : (j : ℕ) (a : Argument) → IsAt qs j a → reaches d fs (k + j) a ≡ Nowhere → ⊥
    pub void : (j : ℕ) (a : Argument) (i : ℕ) → IsAt qs j a → reaches d fs (k + j) a ≡ Fills i → get_or ws i 0 ≡ 0
    pub apart : (j l : ℕ) (a b : Argument) (i : ℕ) → j < l → IsAt qs j a → IsAt qs l b
        → reaches d fs (k + j) a ≡ Fills i → reaches d fs (k + l) b ≡ Fills i → ⊥

  -- after the turn of the first, the others are free
  free_behind : (k : ℕ) (ws vs : List ℕ) (a : Argument) (qs : List Argument) → Free k ws (a ∷ qs)
      → Took (flat + k) a ws vs (reaches d fs k a) → Free (k + 1) vs qs
  free_behind k ws vs a qs f t = record {
    some = λ j b at e. f.some (suc j) b at (rw (next j) at e);
    void = λ j b i at e.
        let here : k ≡ k + 0 = omega arith in
        let inside = small (k + 1 + j) b i e in
        took_other (flat + k) a ws vs (reaches d fs k a) i t (λ n. absurd (omega arith))
        (λ r. f.apart 0 (suc j) a b i (omega arith) refl at (rw here at r) (rw (next j) at e))
        ∙ f.void (suc j) b i at (rw (next j) at e);
    apart = λ j l b c i h at ct r q. f.apart (suc j) (suc l) b c i (omega arith) at ct (rw (next j) at r)
        (rw (next l) at q);
  }
    where
      next : (j : ℕ) → k + 1 + j ≡ k + suc j
      next j = omega arith

  -- LAW: so the walk is accepted
  pub along_accepts : (k : ℕ) (ws : List ℕ) (qs : List Argument) → Free k ws qs
      → (us : List ℕ) × (along flat d fs k ws qs ≡ accepted us)
  unfolding along
  along_accepts k ws [] f = (ws, refl)
  along_accepts k ws (a ∷ qs) f =
      let here : k + 0 ≡ k = omega arith in
      let t = turn_accepts (flat + k) (reaches d fs k a) a ws (λ e. f.some 0 a refl (rw here e))
      (λ i e. f.void 0 a i refl (rw here e)) in
      let rest = along_accepts (k + 1) t.words qs (free_behind k ws t.words a qs f t.took) in
      (rest.0, rw t.accepts rest.1)

-- LAW: no star, none left empty
pub star_accepts : (qs : List Argument) → ((k : ℕ) (r : Node) → IsAt qs k (args r) → ⊥)
    → ((k : ℕ) (r : Node) → IsAt qs k (kwargs r) → ⊥) → star_check qs ≡ accepted []
unfolding star_check
star_accepts [] f g = refl
star_accepts (positional r ∷ qs) f g = star_accepts qs (λ k s e. f (suc k) s e) (λ k s e. g (suc k) s e)
star_accepts (named r x ∷ qs) f g = star_accepts qs (λ k s e. f (suc k) s e) (λ k s e. g (suc k) s e)
star_accepts (args r ∷ qs) f g = absurd (f 0 r refl)
star_accepts (kwargs r ∷ qs) f g = absurd (g 0 r refl)

pub empty_accepts : (k : ℕ) (fs : List FlatParam) (us : List ℕ)
    → ((i : ℕ) (p : FlatParam) → IsAt fs i p → p.default ≡ false → get_or us (k + i) 0 ≡ 0 → ⊥)
    → empty_check k fs us ≡ accepted []
unfolding empty_check
empty_accepts k [] us f = refl
empty_accepts k (p ∷ fs) us f = go p.default refl
    (empty_accepts (k + 1) fs us (λ i q e n z. f (suc i) q e n (rw (next i) at z)))
  where
    next : (j : ℕ) → k + 1 + j ≡ k + suc j
    next j = omega arith

    go : (b : Bool) → p.default ≡ b → empty_check (k + 1) fs us ≡ accepted []
        → if' (not b && eqb (get_or us k 0) 0) (λ _. refused_at empty_parameter p.node) (λ _. empty_check (k + 1) fs us)
        ≡ accepted []
    go true e rest = rest
    go false e rest =
        let here : k ≡ k + 0 = omega arith in
        rw (ne_eqb (get_or us k 0) 0 (λ z. f 0 p refl e (rw here at z))) rest
