-- The walk along the arguments: what an accepted one has written, word by word. A turn that is accepted writes two
-- words at most: the argument's node in the parameter that it fills, which was 0, and the index that it reached in its
-- own word (`Took`). No later turn changes them (`stays`, `filled`). So in the end each argument's word is what it
-- reaches (`own_word`), a filled parameter has the argument's node (`was_empty`), no two arguments fill one parameter
-- (`once`), and each word of a parameter is as it was or comes from an argument (`comes_from`). All are by induction on
-- the arguments, for any words so far. Assumes nothing.
use mathlib.Core.Path.{◌≡◌, refl, sym, ap, ◌∙◌}
use mathlib.Core.Bool.{Bool, true, false}
use mathlib.Core.Logic.{◌⊎◌, inl, inr}
use mathlib.Core.List.{List, [], ◌∷◌}
use Prim.Native.Nat.{ℕ, zero, suc, ◌+◌, ◌<◌, ◌≤◌}
use native.Mathlib.Omega.{arith}
use lib.ListN.{length, get_or, set, length-set}
use lib.Seq.{get_or-set_same, get_or-set_other}
use lib.Dec.{eqb, ltb}
use borrow.Author.Tests.{ltb-false, eqb-true, eqb-false}
use Rattle.fields.proofs.Basics.{never}
use Rattle.fields.specs.Choice.{if'}
use Rattle.table.specs.Numbers.{already_filled}
use Rattle.table.specs.Answer.{Answer, accepted, refused, refused_at}
use Rattle.table.proofs.Answers.{never_passed}
use Rattle.parameters.specs.declared.DefParamIndices.{DefParamIndices}
use Rattle.arguments.specs.Written.{Argument, node_in, kind_in}
use Rattle.bind.specs.FlatList.{FlatParam}
use Rattle.bind.specs.Binding.{reaches, turn, and_with, along}
use Rattle.bind.specs.declared.Reach.{Reach}
use Rattle.bind.specs.declared.Reach.TheVariants.{Fills, Joins, Nowhere}
use Rattle.reached.specs.Said.{IsAt}

-- what an accepted turn has done
abbrev pub Took : ℕ → Argument → List ℕ → List ℕ → Reach → Type 0
Took place a ws vs (Fills i) = (get_or ws i 0 ≡ 0) × (vs ≡ set (set ws i (node_in a).at) place i)
Took place a ws vs (Joins i) = vs ≡ set ws place i
Took place a ws vs Nowhere = ⊥

-- and what it has written of itself
abbrev pub Index : Reach → ℕ → Type 0
Index (Fills i) w = w ≡ i
Index (Joins i) w = w ≡ i
Index Nowhere w = ⊥

pub took : (place : ℕ) (r : Reach) (a : Argument) (ws vs : List ℕ)
    → turn place r (kind_in a) (node_in a) ws ≡ accepted vs → Took place a ws vs r
unfolding turn
took place (Fills i) a ws vs e = go (ltb 0 (get_or ws i 0)) refl e
  where
    go : (b : Bool) → ltb 0 (get_or ws i 0) ≡ b → if' b (λ _. refused_at already_filled (node_in a)) (λ _.
        accepted (set (set ws i (node_in a).at) place i)) ≡ accepted vs → Took place a ws vs (Fills i)
    go true f e = never_passed e
    go false f e = (omega (arith, ltb-false 0 (get_or ws i 0) f), cc)
took place (Joins i) a ws vs e = cc
took place Nowhere a ws vs e = never_passed e

-- the words that a turn leaves, and those that it writes
module _ (place : ℕ) (a : Argument) (ws vs : List ℕ) where
  took_long : (r : Reach) → Took place a ws vs r → length vs ≡ length ws
  took_long Nowhere v = elim v [ ]
  took_long (Fills i) (e, v) = ap length v ∙ length-set (set ws i (node_in a).at) place i
      ∙ length-set ws i (node_in a).at
  took_long (Joins i) v = ap length v ∙ length-set ws place i

  pub took_other : (r : Reach) (j : ℕ) → Took place a ws vs r → (j ≡ place → ⊥) → (r ≡ Fills j → ⊥)
      → get_or vs j 0 ≡ get_or ws j 0
  took_other Nowhere j v n m = elim v [ ]
  took_other (Fills i) j (e, v) n m = ap (λ (l : List ℕ). get_or l j 0) v
      ∙ get_or-set_other (set ws i (node_in a).at) place j i 0 n
      ∙ get_or-set_other ws i j (node_in a).at 0 (λ h. m (ap Fills (sym h)))
  took_other (Joins i) j v n m = ap (λ (l : List ℕ). get_or l j 0) v ∙ get_or-set_other ws place j i 0 n

  took_place : (r : Reach) → Took place a ws vs r → place < length ws → Index r (get_or vs place 0)
  took_place Nowhere v h = elim v [ ]
  took_place (Fills i) (e, v) h = ap (λ (l : List ℕ). get_or l place 0) v
      ∙ get_or-set_same (set ws i (node_in a).at) place i 0 (omega (arith, length-set ws i (node_in a).at))
  took_place (Joins i) v h = ap (λ (l : List ℕ). get_or l place 0) v ∙ get_or-set_same ws place i 0 h

  took_filled : (i : ℕ) → Took place a ws vs (Fills i) → i < place → i < length ws → get_or vs i 0 ≡ (node_in a).at
  took_filled i (e, v) n h = ap (λ (l : List ℕ). get_or l i 0) v
      ∙ get_or-set_other (set ws i (node_in a).at) place i i 0 (λ g. absurd (omega arith))
      ∙ get_or-set_same ws i (node_in a).at 0 h

-- every argument is a node behind the first
abbrev pub Nodes : List Argument → Type 0
Nodes qs = (j : ℕ) (a : Argument) → IsAt qs j a → 0 < (node_in a).at

-- a walk whose ordinary parameters lie below the flat count
module _ (flat : ℕ) (d : DefParamIndices) (fs : List FlatParam)
    (small : (k : ℕ) (a : Argument) (i : ℕ) → reaches d fs k a ≡ Fills i → i < flat) where
  -- a turn of an accepted walk: the words after it, what it did, and that the rest is accepted
  record Step (k : ℕ) (ws : List ℕ) (a : Argument) (qs : List Argument) (us : List ℕ) : Type 0 where
    words : List ℕ
    turned : Took (flat + k) a ws words (reaches d fs k a)
    rest : along flat d fs (k + 1) words qs ≡ accepted us
    long : length words ≡ length ws

  step : (k : ℕ) (ws : List ℕ) (a : Argument) (qs : List Argument) (us : List ℕ)
      → along flat d fs k ws (a ∷ qs) ≡ accepted us → Step k ws a qs us
  unfolding along
  step k ws a qs us e = go (turn (flat + k) (reaches d fs k a) (kind_in a) (node_in a) ws) refl e
    where
      go : (x : Answer) → turn (flat + k) (reaches d fs k a) (kind_in a) (node_in a) ws ≡ x
          → and_with x (λ vs. along flat d fs (k + 1) vs qs) ≡ accepted us → Step k ws a qs us
      go (accepted vs) f e =
          let t = took (flat + k) (reaches d fs k a) a ws vs f in
          record {
            words = vs;
            turned = t;
            rest = e;
            long = took_long (flat + k) a ws vs (reaches d fs k a) t;
          }
      go (refused n vs) f e = never_passed e

  none_left : (k : ℕ) (ws us : List ℕ) → along flat d fs k ws [] ≡ accepted us → us ≡ ws
  unfolding along
  none_left k ws us e = cc

  -- the number of words stays
  pub along_long : (k : ℕ) (ws : List ℕ) (qs : List Argument) (us : List ℕ) → along flat d fs k ws qs ≡ accepted us
      → length us ≡ length ws
  along_long k ws [] us e = ap length (none_left k ws us e)
  along_long k ws (a ∷ qs) us e = let s = step k ws a qs us e in
      along_long (k + 1) s.words qs us s.rest ∙ s.long

  -- the words of earlier arguments stay, and so do those of filled parameters
  stays : (k : ℕ) (ws : List ℕ) (qs : List Argument) (us : List ℕ) → along flat d fs k ws qs ≡ accepted us
      → (j : ℕ) → j < k → get_or us (flat + j) 0 ≡ get_or ws (flat + j) 0
  stays k ws [] us e j h = ap (λ (l : List ℕ). get_or l (flat + j) 0) (none_left k ws us e)
  stays k ws (a ∷ qs) us e j h =
      let s = step k ws a qs us e in
      stays (k + 1) s.words qs us s.rest j (omega arith)
      ∙ took_other (flat + k) a ws s.words (reaches d fs k a) (flat + j) s.turned (λ g. absurd (omega arith))
      (λ g. let n = small k a (flat + j) g in absurd (omega arith))

  filled : (k : ℕ) (ws : List ℕ) (qs : List Argument) (us : List ℕ) → along flat d fs k ws qs ≡ accepted us
      → (i : ℕ) → i < flat → 0 < get_or ws i 0 → get_or us i 0 ≡ get_or ws i 0
  filled k ws [] us e i h g = ap (λ (l : List ℕ). get_or l i 0) (none_left k ws us e)
  filled k ws (a ∷ qs) us e i h g =
      let s = step k ws a qs us e in
      let same : get_or s.words i 0 ≡ get_or ws i 0 = took_other (flat + k) a ws s.words (reaches d fs k a) i
      s.turned (λ n. absurd (omega arith))
      (λ n. let was : Took (flat + k) a ws s.words (Fills i) = rw n at s.turned in
      absurd (omega (arith, was.0))) in
      filled (k + 1) s.words qs us s.rest i h (omega arith) ∙ same

  -- LAW: each argument's own word is the index that it reaches
  pub own_word : (k : ℕ) (ws : List ℕ) (qs : List Argument) (us : List ℕ) → along flat d fs k ws qs ≡ accepted us
      → flat + k + length qs ≤ length ws → (j : ℕ) (a : Argument) → IsAt qs j a
      → Index (reaches d fs (k + j) a) (get_or us (flat + (k + j)) 0)
  own_word k ws [] us e long j a at = elim at [ ]
  own_word k ws (b ∷ qs) us e long zero a at =
      let s = step k ws b qs us e in
      let here : k + 0 ≡ k = omega arith in
      let mine = took_place (flat + k) b ws s.words (reaches d fs k b) s.turned (omega arith) in
      let word : get_or us (flat + k) 0 ≡ get_or s.words (flat + k) 0 = stays (k + 1) s.words qs us s.rest k
      (omega arith) in
      rw (here, word, ← at) mine
  own_word k ws (b ∷ qs) us e long (suc j) a at =
      let s = step k ws b qs us e in
      let next : k + 1 + j ≡ k + suc j = omega arith in
      rw next at (own_word (k + 1) s.words qs us s.rest (omega (arith, s.long)) j a at)

  -- after its turn the parameter that an argument fills has its node; before it, it was empty
  module _ {k : ℕ} {ws : List ℕ} {b : Argument} {qs : List Argument} {us : List ℕ} (s : Step k ws b qs us) {i : ℕ}
      (r : reaches d fs k b ≡ Fills i) where
    filling : Took (flat + k) b ws s.words (Fills i)
    filling = rw r at s.turned

    first_empty : get_or ws i 0 ≡ 0
    first_empty = filling.0

    now_filled : flat + k + suc (length qs) ≤ length ws → get_or s.words i 0 ≡ (node_in b).at
    now_filled long =
        let inside : i < flat = small k b i r in
        took_filled (flat + k) b ws s.words i filling (omega arith) (omega arith)

    stays_filled : flat + k + suc (length qs) ≤ length ws → 0 < (node_in b).at → get_or us i 0 ≡ (node_in b).at
    stays_filled long node =
        let now = now_filled long in
        filled (k + 1) s.words qs us s.rest i (small k b i r) (omega arith) ∙ now

  -- a parameter that is empty after a turn was empty before it
  before_empty : {k : ℕ} {ws : List ℕ} {b : Argument} {qs : List Argument} {us : List ℕ} (s : Step k ws b qs us) (i : ℕ)
      → flat + k + suc (length qs) ≤ length ws → 0 < (node_in b).at → i < flat → get_or s.words i 0 ≡ 0
      → get_or ws i 0 ≡ 0
  before_empty {k} {ws} {b} s i long node inside empty =
      let other : reaches d fs k b ≡ Fills i → ⊥ = λ n.
      absurd (omega (arith, empty, now_filled s n long)) in
      sym (took_other (flat + k) b ws s.words (reaches d fs k b) i s.turned (λ n. absurd (omega arith)) other)
      ∙ empty

  -- LAW: a parameter that an argument fills was empty, and has the argument's node
  pub was_empty : (k : ℕ) (ws : List ℕ) (qs : List Argument) (us : List ℕ) → along flat d fs k ws qs ≡ accepted us
      → Nodes qs → flat + k + length qs ≤ length ws → (j : ℕ) (a : Argument) (i : ℕ) → IsAt qs j a
      → reaches d fs (k + j) a ≡ Fills i → (get_or ws i 0 ≡ 0) × (get_or us i 0 ≡ (node_in a).at)
  was_empty k ws [] us e nodes long j a i at r = elim at [ ]
  was_empty k ws (b ∷ qs) us e nodes long zero a i at r =
      let s = step k ws b qs us e in
      let here : k + 0 ≡ k = omega arith in
      let mine : reaches d fs k b ≡ Fills i = rw (here, ← at) at r in (
        first_empty s mine,
        stays_filled s mine long (nodes 0 b refl) ∙ ap (λ (x : Argument). (node_in x).at) at,
      )
  was_empty k ws (b ∷ qs) us e nodes long (suc j) a i at r =
      let s = step k ws b qs us e in
      let next : k + suc j ≡ k + 1 + j = omega arith in
      let rest = was_empty (k + 1) s.words qs us s.rest (λ l c p. nodes (suc l) c p) (omega (arith, s.long)) j a
      i at (rw next at r) in
      (before_empty s i long (nodes 0 b refl) (small (k + suc j) a i r) rest.0, rest.1)

  -- LAW: no two arguments fill one parameter
  later : (k : ℕ) (ws : List ℕ) (c : Argument) (qs : List Argument) (us : List ℕ)
      → along flat d fs k ws (c ∷ qs) ≡ accepted us → Nodes (c ∷ qs) → flat + k + suc (length qs) ≤ length ws
      → (l : ℕ) (b : Argument) (i : ℕ) → IsAt qs l b → reaches d fs k c ≡ Fills i
      → reaches d fs (k + 1 + l) b ≡ Fills i → ⊥
  later k ws c qs us e nodes long l b i bt r q =
      let s = step k ws c qs us e in
      let was = was_empty (k + 1) s.words qs us s.rest (λ m x p. nodes (suc m) x p) (omega (arith, s.long)) l b i
      bt q in
      absurd (omega (arith, was.0, now_filled s r long, nodes 0 c refl))

  pub once : (k : ℕ) (ws : List ℕ) (qs : List Argument) (us : List ℕ) → along flat d fs k ws qs ≡ accepted us
      → Nodes qs → flat + k + length qs ≤ length ws → (j l : ℕ) (a b : Argument) (i : ℕ) → IsAt qs j a → IsAt qs l b
      → reaches d fs (k + j) a ≡ Fills i → reaches d fs (k + l) b ≡ Fills i → j ≡ l
  once k ws [] us e nodes long j l a b i at bt r q = elim at [ ]
  once k ws (c ∷ qs) us e nodes long zero zero a b i at bt r q = refl
  once k ws (c ∷ qs) us e nodes long zero (suc l) a b i at bt r q =
      let here : k + 0 ≡ k = omega arith in
      let next : k + suc l ≡ k + 1 + l = omega arith in
      absurd (later k ws c qs us e nodes long l b i bt (rw (here, ← at) at r) (rw next at q))
  once k ws (c ∷ qs) us e nodes long (suc j) zero a b i at bt r q =
      let here : k + 0 ≡ k = omega arith in
      let next : k + suc j ≡ k + 1 + j = omega arith in
      absurd (later k ws c qs us e nodes long j a i at (rw (here, ← bt) at q) (rw next at r))
  once k ws (c ∷ qs) us e nodes long (suc j) (suc l) a b i at bt r q =
      let s = step k ws c qs us e in
      let first : k + suc j ≡ k + 1 + j = omega arith in
      let second : k + suc l ≡ k + 1 + l = omega arith in
      ap suc (once (k + 1) s.words qs us s.rest (λ m x p. nodes (suc m) x p) (omega (arith, s.long)) j l a b i at
      bt (rw first at r) (rw second at q))

  -- the argument that fills a parameter
  pub record Filler (k : ℕ) (qs : List Argument) (us : List ℕ) (i : ℕ) : Type 0 where
    pub number : ℕ
    pub argument : Argument
    pub there : IsAt qs number argument
    pub fills : reaches d fs (k + number) argument ≡ Fills i
    pub word : get_or us i 0 ≡ (node_in argument).at

  -- a parameter's word is as it was, or an argument fills it
  abbrev pub Origin : ℕ → List ℕ → List Argument → List ℕ → ℕ → Type 0
  Origin k ws qs us i = (get_or us i 0 ≡ get_or ws i 0) ⊎ Filler k qs us i

  -- where the first argument does not fill it, the rest decides
  origin_behind : (k : ℕ) (ws : List ℕ) (a : Argument) (qs : List Argument) (us : List ℕ) (s : Step k ws a qs us)
      (i : ℕ) → i < flat → (reaches d fs k a ≡ Fills i → ⊥) → Origin (k + 1) s.words qs us i
      → Origin k ws (a ∷ qs) us i
  origin_behind k ws a qs us s i h n (inl x) =
      inl (x ∙ took_other (flat + k) a ws s.words (reaches d fs k a) i s.turned (λ m. absurd (omega arith)) n)
  origin_behind k ws a qs us s i h n (inr x) =
      let next : k + 1 + x.number ≡ k + suc x.number = omega arith in
      inr (record {
        number = suc x.number;
        argument = x.argument;
        there = x.there;
        fills = rw next at x.fills;
        word = x.word;
      })

  -- where the first argument fills it, that is the one
  origin_here : (k : ℕ) (ws : List ℕ) (a : Argument) (qs : List Argument) (us : List ℕ)
      → along flat d fs k ws (a ∷ qs) ≡ accepted us → Nodes (a ∷ qs) → flat + k + suc (length qs) ≤ length ws → (i : ℕ)
      → reaches d fs k a ≡ Fills i → Origin k ws (a ∷ qs) us i
  origin_here k ws a qs us e nodes long i r =
      let zero_more : k ≡ k + 0 = omega arith in
      let mine : reaches d fs (k + 0) a ≡ Fills i = rw (← zero_more) r in
      let word = (was_empty k ws (a ∷ qs) us e nodes long 0 a i refl mine).1 in
      inr (record { number = 0; argument = a; there = refl; fills = mine; word = word })

  -- LAW: a parameter's word is as it was, or an argument fills it
  pub comes_from : (k : ℕ) (ws : List ℕ) (qs : List Argument) (us : List ℕ) → along flat d fs k ws qs ≡ accepted us
      → Nodes qs → flat + k + length qs ≤ length ws → (i : ℕ) → i < flat → Origin k ws qs us i
  comes_from k ws [] us e nodes long i h = inl (ap (λ (l : List ℕ). get_or l i 0) (none_left k ws us e))
  comes_from k ws (a ∷ qs) us e nodes long i h = by_first (reaches d fs k a) refl
      (comes_from (k + 1) s.words qs us s.rest (λ m x p. nodes (suc m) x p) (omega (arith, s.long)) i h)
    where
      s : Step k ws a qs us
      s = step k ws a qs us e

      by_first : (r : Reach) → reaches d fs k a ≡ r → Origin (k + 1) s.words qs us i → Origin k ws (a ∷ qs) us i
      by_first (Fills j) r rest = by_index (eqb j i) refl
        where
          by_index : (b : Bool) → eqb j i ≡ b → Origin k ws (a ∷ qs) us i
          by_index true m = origin_here k ws a qs us e nodes long i (r ∙ ap Fills (eqb-true j i m))
          by_index false m = origin_behind k ws a qs us s i h (λ n. let both : Fills j ≡ Fills i = sym r ∙ n in
              let same : j ≡ i = cc in eqb-false j i m same) rest
      by_first (Joins j) r rest = origin_behind k ws a qs us s i h
          (λ n. let both : Joins j ≡ Fills i = sym r ∙ n in never (cc)) rest
      by_first Nowhere r rest = origin_behind k ws a qs us s i h
          (λ n. let both : Nowhere ≡ Fills i = sym r ∙ n in never (cc)) rest
