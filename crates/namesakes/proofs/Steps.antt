-- One law for each return of the functions that handle a single thing: what comes before the binding (1 to 4, 6, 7),
-- the name of an expression, and the four words of a report. The tests before a return are known, so the definition
-- computes; nothing here recurs. Assumes nothing.
use Rattle.std.specs.Prelude.{Err, None, Ok, Option, Result, Some, ℕ}
use mathlib.Core.Path.{◌≡◌, refl, sym, ap, ◌∙◌}
use mathlib.Core.Bool.{Bool, true, false, ◌&&◌, ◌||◌}
use mathlib.Core.List.{List, [], ◌∷◌}
use Prim.Native.Nat.{ℕ, ◌*◌, ◌<◌, ◌≤◌}
use native.Mathlib.Omega.{arith}
use lib.ListN.{length, get_or, set, length-set}
use lib.Dec.{eqb, leb}
use borrow.Author.Tests.{le-leb, lt-leb, eq-eqb, ne_eqb}
use Rattle.fields.proofs.Over.{over_none, over_sets}
use Rattle.forest.specs.Forest.{node_of, kids_of, forest}
use Rattle.forest.specs.Names.{name_of}
use Rattle.soundness.specs.KindNumbers.{kind_dot, kind_identifier}
use Rattle.table.specs.Numbers.{wrong_node, short_buffer}
use Rattle.table.specs.Answer.{accepted, refused, refusal, checked}
use Rattle.table.specs.Check.{entry_check}
use Rattle.table.specs.declared.Refusal.{Refusal}
use Rattle.table.specs.declared.Wanted.TheVariants.{Call}
use Rattle.bind.specs.Job.{is_def, arguments_at}
use Rattle.namesakes.specs.Namesake.{label_of, ordinary_from, namesake_of, report_of, rows}
use Rattle.namesakes.specs.Job.{entry_of, written}
use Rattle.namesakes.specs.Reading.{is_named, flats_of}
use Rattle.namesakes.proofs.Lists.{label_none, label_some}

-- 1 to 4 and 6, 6, 7
module _ (t ns : List ℕ) (call def room : ℕ) {e : Result (Unit {0}) Refusal}
    (e-is : checked e ≡ entry_check Call t ns call) where
  pub enter_refused : {why : Refusal} → e ≡ Err why → refusal why ≡ entry_of t ns call def room
  unfolding entry_of
  enter_refused {why} h = let told : entry_check Call t ns call ≡ refusal why = sym e-is ∙ ap checked h in rw told refl

  module _ (good : e ≡ Ok tt) {b : Bool} (b_is : b ≡ is_def t def) where
    passed : entry_check Call t ns call ≡ accepted []
    passed = sym e-is ∙ ap checked good

    pub enter_no_def : b ≡ false → refused wrong_node [] ≡ entry_of t ns call def room
    unfolding entry_of
    enter_no_def h = rw (passed, ← b_is, h) refl

    module _ (h : b ≡ true) {q : ℕ} (q-is : (ns : List ℕ) → q ≡ length (arguments_at t ns call)) where
      pub enter_short : room < 4 * q → refused short_buffer [] ≡ entry_of t ns call def room
      unfolding entry_of
      enter_short g =
          rw (passed, ← b_is, h, lt-leb (4 * length (arguments_at t ns call)) room (omega (arith, q-is ns))) refl

      pub enter_passed : 4 * q ≤ room → accepted [] ≡ entry_of t ns call def room
      unfolding entry_of
      enter_passed g =
          rw (passed, ← b_is, h, le-leb (4 * length (arguments_at t ns call)) room (omega (arith, q-is ns))) refl

-- an expression has a name by its kind
pub named_here : (t : List ℕ) {k : ℕ} → k ≡ (node_of 0 t).kind
    → (leb 24 (length t) && (eqb k kind_identifier || eqb k kind_dot)) ≡ is_named t
unfolding is_named
named_here t k_is = rw k_is refl

-- the parameter of an argument's name: none without a name, else the one that is found
module _ (ns params t : List ℕ) {s : List ℕ} (s-is : s ≡ kids_of t) {b : Bool} (b_is : b ≡ is_named s) where
  pub none_sought : b ≡ false → (i j : ℕ)
      → None ≡ namesake_of (flats_of ns i params) (label_of ns (forest j (kids_of t)))
  unfolding namesake_of
  none_sought h i j = rw (label_none ns j (kids_of t) (rw s-is at (sym b_is ∙ h))) refl

  pub one_sought : b ≡ true → {x : List ℕ} → x ≡ name_of ns (node_of 0 s) → {r : Option ℕ}
      → ((i : ℕ) → r ≡ ordinary_from 0 x (flats_of ns i params)) → (i j : ℕ)
      → r ≡ namesake_of (flats_of ns i params) (label_of ns (forest j (kids_of t)))
  unfolding namesake_of
  one_sought h {x} x-is r-is i j = r-is i
      ∙ rw (label_some ns j (kids_of t) (rw s-is at (sym b_is ∙ h)), x-is, s-is) refl

-- the four words of a report
module _ (ws : List ℕ) (at p q : ℕ) (list : List ℕ) where
  pub put_none : p ≡ q → (0 ≡ length (report_of ws at p (Some q))) × (list ≡ written (report_of ws at p (Some q)) list)
  unfolding report_of rows
  put_none h = rw (eq-eqb p q h) (refl, sym (over_none 0 list))

  pub put_one : (p ≡ q → ⊥) → 4 ≤ length list → {w : ℕ} → w ≡ get_or ws q 0 → (1 ≡ length (report_of ws at p (Some q)))
      × (set (set (set (set list 0 at) 1 p) 2 q) 3 w ≡ written (report_of ws at p (Some q)) list)
  unfolding report_of rows
  put_one h g {w} w-is = rw (ne_eqb p q h, ← w-is) (refl, over_sets 0 (at ∷ p ∷ q ∷ w ∷ []) list g)

-- the words fit the list
pub second_fits : (list : List ℕ) (a : ℕ) → 4 ≤ length list → 1 < length (set list 0 a)
second_fits list a h = omega (arith, length-set list 0 a)

pub third_fits : (list : List ℕ) (a b : ℕ) → 4 ≤ length list → 2 < length (set (set list 0 a) 1 b)
third_fits list a b h = omega (arith, length-set (set list 0 a) 1 b, length-set list 0 a)

-- by the parameter that has the name, if there is one
module _ (ws : List ℕ) (at p : ℕ) (list : List ℕ) {q : Option ℕ} where
  pub put_at : {i : ℕ} → q ≡ Some i → {n : ℕ} {list' : List ℕ}
      → (n ≡ length (report_of ws at p (Some i))) × (list' ≡ written (report_of ws at p (Some i)) list)
      → (n ≡ length (report_of ws at p q)) × (list' ≡ written (report_of ws at p q) list)
  put_at h both = rw h both

  pub put_nothing : q ≡ None → (0 ≡ length (report_of ws at p q)) × (list ≡ written (report_of ws at p q) list)
  unfolding report_of rows
  put_nothing h = rw h (refl, sym (over_none 0 list))
