-- What the search by name finds, and which arguments are reported, for lists. An ordinary parameter of a name is found
-- (`ordinary_missed`), and what is found is one (`ordinary_found`). An argument with a namesake that it does not reach
-- gives a report (`reported`); if no argument is such, there is none (`none_if_lem`). The induction is on the
-- arguments. Assumes nothing.
use Rattle.std.specs.Prelude.{None, Option, Some, ℕ}
use mathlib.Core.Path.{◌≡◌, refl, sym, ap, ◌∙◌}
use mathlib.Core.Bool.{Bool, true, false, ◌&&◌, ◌||◌}
use mathlib.Core.Logic.{◌⊎◌, inl, inr}
use mathlib.Core.List.{List, [], ◌∷◌, ◌++◌}
use Prim.Native.Nat.{ℕ, zero, suc, ◌+◌, ◌*◌}
use native.Mathlib.Omega.{arith}
use lib.ListN.{length, get_or, take, drop}
use lib.Dec.{eqb}
use borrow.Author.Tests.{eq-eqb, ne_eqb, eqb-true}
use Rattle.fields.proofs.Basics.{never}
use Rattle.fields.specs.Choice.{if'}
use Rattle.forest.specs.Names.{same}
use Rattle.forest.proofs.Named.{same_bytes_refl, same_bytes_equal}
use Rattle.deflist.specs.Written.{Name}
use Rattle.deflist.specs.Unpack.{mode_pos_only, mode_pos_or_name, mode_name_only}
use Rattle.arguments.specs.Written.{node_in}
use Rattle.bind.specs.FlatList.{FlatParam}
use Rattle.reached.specs.Said.{IsAt, Ordinary}
use Rattle.namesakes.specs.Namesake.{Labelled, ordinary, ordinary_from, namesake_of, Report, report_of, reports_from}
use Rattle.namesakes.specs.Namesake.{rows}

-- a mode that passes the test is ordinary, and an ordinary one passes it
mode_is : (m : ℕ) → ordinary m ≡ true → (m ≡ mode_pos_only) ⊎ ((m ≡ mode_pos_or_name) ⊎ (m ≡ mode_name_only))
mode_is m e = go (eqb m mode_pos_only) (eqb m mode_pos_or_name) (eqb m mode_name_only) refl refl refl e
  where
    go : (a b c : Bool) → eqb m mode_pos_only ≡ a → eqb m mode_pos_or_name ≡ b → eqb m mode_name_only ≡ c
        → (a || (b || c)) ≡ true → (m ≡ mode_pos_only) ⊎ ((m ≡ mode_pos_or_name) ⊎ (m ≡ mode_name_only))
    go true b c f g h e = inl (eqb-true m mode_pos_only f)
    go false true c f g h e = inr (inl (eqb-true m mode_pos_or_name g))
    go false false true f g h e = inr (inr (eqb-true m mode_name_only h))
    go false false false f g h e = never (cc)

passes : (p : FlatParam) → Ordinary p → ordinary p.mode ≡ true
passes p (inl e) = rw e refl
passes p (inr (inl e)) = rw e refl
passes p (inr (inr e)) = rw e refl

-- the ordinary parameter of a name
pub record Sake (fs : List FlatParam) (x : Name) (i : ℕ) : Type 0 where
  pub param : FlatParam
  pub there : IsAt fs i param
  pub is : Ordinary param
  pub name : param.name ≡ x

-- what the search finds, counted from k
pub record SakeFrom (fs : List FlatParam) (x : Name) (k i : ℕ) : Type 0 where
  pub place : ℕ
  pub is : i ≡ k + place
  pub sake : Sake fs x place

sake_behind : (p : FlatParam) (fs : List FlatParam) (x : Name) (k i : ℕ) → SakeFrom fs x (k + 1) i
    → SakeFrom (p ∷ fs) x k i
sake_behind p fs x k i r =
    let s : Sake fs x r.place = r.sake in
    record {
      place = suc r.place;
      is = omega (arith, r.is);
      sake = record { param = s.param; there = s.there; is = s.is; name = s.name };
    }

pub ordinary_found : (fs : List FlatParam) (x : Name) (k i : ℕ) → ordinary_from k x fs ≡ Some i → SakeFrom fs x k i
unfolding ordinary_from
ordinary_found [] x k i e = never (cc)
ordinary_found (p ∷ fs) x k i e =
    go (ordinary p.mode) (same p.name x) refl refl e (ordinary_found fs x (k + 1) i)
  where
    go : (a b : Bool) → ordinary p.mode ≡ a → same p.name x ≡ b
        → if' (a && b) (λ _. Some k) (λ _. ordinary_from (k + 1) x fs) ≡ Some i
        → (ordinary_from (k + 1) x fs ≡ Some i → SakeFrom fs x (k + 1) i) → SakeFrom (p ∷ fs) x k i
    go true true f g e rest =
        let here : i ≡ k = cc in
        let name : p.name ≡ x = same_bytes_equal p.name x g in
        record {
          place = 0;
          is = omega arith;
          sake = record { param = p; there = refl; is = mode_is p.mode f; name = name };
        }
    go true false f g e rest = sake_behind p fs x k i (rest e)
    go false b f g e rest = sake_behind p fs x k i (rest e)

pub ordinary_missed : (fs : List FlatParam) (x : Name) (k : ℕ) → ordinary_from k x fs ≡ None → (i : ℕ)
    (p : FlatParam) → IsAt fs i p → Ordinary p → p.name ≡ x → ⊥
unfolding ordinary_from
ordinary_missed [] x k e i p at c n = elim at [ ]
ordinary_missed (q ∷ fs) x k e zero p at c n =
    let test : (ordinary q.mode && same q.name x) ≡ true = rw (
      ap (λ (y : FlatParam). ordinary y.mode) at ∙ passes p c,
      ap (λ (y : FlatParam). y.name) at ∙ n,
      same_bytes_refl x,
    ) refl in
    let hit : Some k ≡ None = rw test at e in
    never (cc)
ordinary_missed (q ∷ fs) x k e (suc i) p at c n = go (ordinary q.mode && same q.name x) e
    (λ f. ordinary_missed fs x (k + 1) f i p at c n)
  where
    go : (b : Bool) → if' b (λ _. Some k) (λ _. ordinary_from (k + 1) x fs) ≡ None
        → (ordinary_from (k + 1) x fs ≡ None → ⊥) → ⊥
    go true e rest = never (cc)
    go false e rest = rest e

-- what comes behind others
behind : {A : Type 0} (xs ys : List A) (m : ℕ) (x : A) → IsAt ys m x → IsAt (xs ++ ys) (length xs + m) x
behind [] ys m x h = let e : 0 + m ≡ m = omega arith in rw e h
behind (y ∷ xs) ys m x h = let e : suc (length xs) + m ≡ suc (length xs + m) = omega arith in rw e (behind xs ys m x h)

equal : {A : Type 0} (l : List A) (m : ℕ) {x y : A} → x ≡ y → IsAt l m x → IsAt l m y
equal l m e h = rw (← e) h

module _ (fs : List FlatParam) (ws : List ℕ) where
  abbrev pub row_of : ℕ → Labelled → ℕ → Report
  row_of place a q = record {
    argument = (node_in a.argument).at;
    reached = get_or ws place 0;
    namesake = q;
    taken = get_or ws q 0;
  }

  one_row : (at p q : ℕ) → (p ≡ q → ⊥) → report_of ws at p (Some q)
      ≡ record { argument = at; reached = p; namesake = q; taken = get_or ws q 0 } ∷ []
  unfolding report_of
  one_row at p q n = rw (ne_eqb p q n) refl

  no_row : (at p : ℕ) (q : Option ℕ) → ((i : ℕ) → q ≡ Some i → p ≡ i) → report_of ws at p q ≡ []
  unfolding report_of
  no_row at p None h = refl
  no_row at p (Some i) h = rw (eq-eqb p i (h i refl)) refl

  -- LAW: an argument that does not reach its namesake is reported
  pub reported : (place : ℕ) (qs : List Labelled) (k : ℕ) (a : Labelled) (q : ℕ) → IsAt qs k a
      → namesake_of fs a.name ≡ Some q → (get_or ws (place + k) 0 ≡ q → ⊥)
      → (m : ℕ) × IsAt (reports_from fs ws place qs) m (row_of (place + k) a q)
  unfolding reports_from
  reported place [] k a q at n far = elim at [ ]
  reported place (b ∷ qs) zero a q at n far =
      let here : place + 0 ≡ place = omega arith in
      let row : report_of ws (node_in a.argument).at (get_or ws place 0) (Some q) ≡ row_of place a q ∷ [] =
      one_row (node_in a.argument).at (get_or ws place 0) q (rw here at far) in
      (0, rw (here, at, n, row) refl)
  reported place (b ∷ qs) (suc k) a q at n far =
      let next : place + suc k ≡ place + 1 + k = omega arith in
      let r = reported (place + 1) qs k a q at n (rw next at far) in
      let these = report_of ws (node_in b.argument).at (get_or ws place 0) (namesake_of fs b.name) in
      let row : row_of (place + 1 + k) a q ≡ row_of (place + suc k) a q = ap (λ (i : ℕ). row_of i a q) (sym next) in
      let there = behind these (reports_from fs ws (place + 1) qs) r.0 _ r.1 in
      (length these + r.0, equal (these ++ reports_from fs ws (place + 1) qs) (length these + r.0) row there)

  -- LAW: if each argument reaches its namesake, none is reported
  pub none_if_lem : (place : ℕ) (qs : List Labelled)
      → ((k : ℕ) (a : Labelled) (q : ℕ) → IsAt qs k a → namesake_of fs a.name ≡ Some q → get_or ws (place + k) 0 ≡ q)
      → reports_from fs ws place qs ≡ []
  unfolding reports_from
  none_if_lem place [] h = refl
  none_if_lem place (a ∷ qs) h =
      let here : place ≡ place + 0 = omega arith in
      let none : report_of ws (node_in a.argument).at (get_or ws place 0) (namesake_of fs a.name) ≡ [] =
      no_row _ _ _ (λ q e. rw here (h 0 a q refl e)) in
      rw none (none_if_lem (place + 1) qs (λ k b q at e. let next : place + 1 + k ≡ place + suc k = omega arith in
      rw next (h (suc k) b q at e)))

-- the row of a report in the list
abbrev pub four_of : Report → List ℕ
four_of r = r.argument ∷ r.reached ∷ r.namesake ∷ r.taken ∷ []

pub row_at : (rs : List Report) (zs : List ℕ) (m : ℕ) (r : Report) → IsAt rs m r
    → take 4 (drop (4 * m) (rows rs ++ zs)) ≡ four_of r
unfolding rows
row_at [] zs m r at = elim at [ ]
row_at (s ∷ rs) zs zero r at = ap four_of at
row_at (s ∷ rs) zs (suc m) r at =
    let e : 4 * suc m ≡ suc (suc (suc (suc (4 * m)))) = omega arith in
    rw e (row_at rs zs m r at)
