-- The errors of a parameter list are every `*` and then every `/` that the dialect does not permit, and then the
-- list's one error. Code reads the marks in a loop over records, the definition over written parameters; in the loop
-- the marks of what is left come next (`Marking`, `mark_on`). Which records are marks does not depend on names
-- (`same_marks`), so code reads none there. `params_all` joins the three checks, each lent the words that the one
-- before it leaves free, and `with_all` puts the error of the def or lambda in front. Assumes nothing.
use Rattle.std.specs.Prelude.{Err, Ok, Result}
use mathlib.Core.Path.{◌≡◌, refl, ap}
use mathlib.Core.Bool.{Bool, true, false, not}
use mathlib.Core.List.{List, [], ◌∷◌, ◌++◌}
use Prim.Native.Nat.{ℕ, ◌+◌, ◌*◌, ◌/◌, ◌^◌, ◌<◌, ◌≤◌}
use native.Mathlib.Omega.{arith}
use lib.ListN.{length}
use Rattle.dialect.specs.declared.Dialect.{Dialect}
use Rattle.forest.specs.Forest.{node_of, span_of, kids_of, rest_of, forest}
use Rattle.forest.proofs.Stretch.{forest_none, forest_induction, length_rest, length_kids}
use Rattle.deflist.specs.Written.{params_in, written}
use Rattle.deflist.specs.Limited.{limited}
use Rattle.deflist.specs.Told.{told}
use Rattle.deflist.specs.Reading.{is_listed, kind_here, Inside}
use Rattle.deflist.specs.declared.Counts.{Counts}
use Rattle.deflist.specs.declared.Kind.{Kind}
use Rattle.deflist.specs.declared.Fault.{Fault}
use Rattle.deflist.proofs.Reading.{node_in_lem, kind_in_lem, listed_long, list_end, list_next}
use Rattle.deflist.proofs.Theorems.{list_short, written_short}
use Rattle.errors.specs.declared.Finding.{Finding}
use Rattle.errors.specs.declared.Listing.{Listing}
use Rattle.errors.specs.Errors.{err, err_at, unless, Stores}
use Rattle.errors.proofs.Storing.{free_at, after, back, stores_none, stores_both, stores_few, unless_one}
use Rattle.errors.proofs.Storing.{Turns, turns_start, turns_on, turns_end, turns_few, turns_long}
use Rattle.validate.specs.Params.{is_mark, not_permitted, with_params, permits, mark_error, every_mark, marks}
use Rattle.validate.specs.Params.{unpack_error}
use Rattle.validate.specs.Params.{validate_params}
use Rattle.validate.specs.Inner.{StoresFew}
use Rattle.validate.specs.declared.Mark.{Mark}
use Rattle.validate.specs.declared.Mark.TheVariants.{Star, Slash as SlashMark}
use Rattle.validate.proofs.Bounds.{sort_few, params_few, with_few, list_few}

-- a check of few errors
pub few_by : {l : Listing} {most : ℕ} (es : List Finding) {xs : List ℕ} {n : ℕ} {ys : List ℕ} → length es ≤ most
    → Stores l es xs n ys → StoresFew l most es xs n ys
few_by es h s = record { few = omega (arith, stores_few es s); stores = s }

-- every mark of a sort: the first parameter and those after it, whatever the names
module _ (m : Mark) where
  marks_cut : (ns : List ℕ) (i : ℕ) (t : List ℕ) → is_listed t ≡ true → {next : ℕ} {rest : List ℕ}
      → next ≡ i + span_of t / 24 → rest ≡ rest_of t
      → every_mark m (params_in ns (forest i t)) ≡ mark_error m (node_of i t) (kind_here t)
      ++ every_mark m (params_in ns (forest next rest))
  unfolding every_mark
  marks_cut ns i t listed next-is rest-is =
      rw (list_next ns i t listed next-is rest-is, node_in_lem ns (node_of i t), kind_in_lem ns i t) refl

  same_marks : (ns ms : List ℕ) (i : ℕ) (t : List ℕ)
      → every_mark m (params_in ns (forest i t)) ≡ every_mark m (params_in ms (forest i t))
  unfolding params_in
  same_marks ns ms = forest_induction
      (λ i t. every_mark m (params_in ns (forest i t)) ≡ every_mark m (params_in ms (forest i t)))
      (λ i t short. rw (forest_none i t short) refl)
      (λ i t big ks rs. go i t (is_listed t) refl rs)
    where
      go : (i : ℕ) (t : List ℕ) (b : Bool) → is_listed t ≡ b
          → every_mark m (params_in ns (forest (i + span_of t / 24) (rest_of t)))
          ≡ every_mark m (params_in ms (forest (i + span_of t / 24) (rest_of t)))
          → every_mark m (params_in ns (forest i t)) ≡ every_mark m (params_in ms (forest i t))
      go i t true e h = rw (marks_cut ns i t e refl refl, marks_cut ms i t e refl refl, h) refl
      go i t false e h = rw (list_end ns i t e, list_end ms i t e) refl

-- every mark of a sort in a loop: those of what is left, which begins with the node place, come next
abbrev pub marks_in : Mark → ℕ → List ℕ → List Finding
marks_in m i t = every_mark m (params_in [] (forest i t))

pub record Marking (l : Listing) (m : Mark) (i : ℕ) (t xs₀ left : List ℕ) (place total : ℕ) (xs : List ℕ) : Type 0
  where
    pub within : 24 * place + length left ≤ 50400
    pub few : total ≤ length t / 24
    pub turns : Turns l (marks_in m i t) xs₀ (marks_in m place left) total xs

all_few : (m : Mark) (i : ℕ) (t : List ℕ) → length (marks_in m i t) ≤ length t / 24
all_few m i t = omega (arith, sort_few m (params_in [] (forest i t)), list_short [] i t)

module _ {l : Listing} (m : Mark) (i : ℕ) (t : List ℕ) where
  pub mark_start : (xs : List ℕ) → 24 * i + length t ≤ 50400 → Marking l m i t xs t i 0 xs
  mark_start xs h = record { within = h; few = omega arith; turns = turns_start _ xs }

  module _ {xs₀ left : List ℕ} {place total : ℕ} {xs : List ℕ} (w : Marking l m i t xs₀ left place total xs) where
    pub mark_place : 24 * place + length left ≤ 50400
    mark_place = w.within

    pub mark_long : length xs ≡ length xs₀
    mark_long = turns_long w.turns

    pub mark_on : is_listed left ≡ true → {at n : ℕ} {zs : List ℕ} → at ≡ free_at l total xs
        → Stores l (mark_error m (node_of place left) (kind_here left)) (after at xs) n zs
        → {j : ℕ} {rest : List ℕ} → j ≡ place + span_of left / 24 → rest ≡ rest_of left
        → Marking l m i t xs₀ rest j (total + n) (back at xs zs)
    mark_on listed at-is s j-is rest-is =
        let next = turns_on w.turns (marks_cut m [] place left listed j-is rest-is) at-is s in
        record {
          within = omega (arith, length_rest left, w.within, listed_long left listed, j-is, ap length rest-is);
          few = omega (arith, turns_few next, all_few m i t);
          turns = next;
        }

    pub mark_end : is_listed left ≡ false → StoresFew l (length t / 24) (marks_in m i t) xs₀ total xs
    unfolding every_mark
    mark_end none = record {
      few = w.few;
      stores = turns_end w.turns (rw (list_end [] place left none) refl);
    }

-- one parameter has few errors
pub mark_few : {l : Listing} (m : Mark) (i : ℕ) (t : List ℕ) {xs ys : List ℕ} {n : ℕ}
    → Stores l (mark_error m (node_of i t) (kind_here t)) xs n ys → n ≤ 1
mark_few m i t s = unless_one (not (is_mark m (kind_here t))) (err_at (not_permitted m) (node_of i t)) s

-- a parameter that is a mark of a sort
pub mark_told : {l : Listing} (m : Mark) (i : ℕ) (t : List ℕ) {k : Kind} → k ≡ kind_here t → {c : Bool}
    → c ≡ is_mark m k
    → {n : ℕ} → n ≡ not_permitted m → {xs ys : List ℕ} {r : ℕ} → Stores l (unless (not c) n (node_of i t)) xs r ys
    → Stores l (mark_error m (node_of i t) (kind_here t)) xs r ys
mark_told m i t k_is c-is n_is s = rw (← k_is, ← c-is, ← n_is) s

-- unless the dialect permits it
module _ {l : Listing} (d : Dialect) (m : Mark) (i : ℕ) (t xs : List ℕ) {p : Bool} (p-is : p ≡ permits d m) where
  pub marks_permitted : p ≡ true → StoresFew l (length t / 24) (marks d m (params_in [] (forest i t))) xs 0 xs
  marks_permitted on = record { few = omega arith; stores = rw (← p-is, on) (stores_none xs) }

  pub marks_not : p ≡ false → {n : ℕ} {ys : List ℕ} → StoresFew l (length t / 24) (marks_in m i t) xs n ys
      → StoresFew l (length t / 24) (marks d m (params_in [] (forest i t))) xs n ys
  marks_not off s = rw (← p-is, off) s

-- what is said of a list
module _ {l : Listing} {j k : Result Counts Fault} (j-is : j ≡ k) (xs : List ℕ) where
  pub error_none : {c : Counts} → j ≡ Ok c → StoresFew l 1 (unpack_error k) xs 0 xs
  error_none h = record { few = omega arith; stores = rw (← j-is, h) (stores_none xs) }

  pub error_one : {a : Fault} → j ≡ Err a → {e : Finding} → e ≡ err a.number a.node a.span
      → {n : ℕ} {ys : List ℕ} → Stores l (e ∷ []) xs n ys → StoresFew l 1 (unpack_error k) xs n ys
  error_one h {e} e-is s = record { few = omega (arith, stores_few (e ∷ []) s); stores = rw (← j-is, h, ← e-is) s }

-- the node of a refusal is one of the table
pub fault_small : (i : ℕ) (t : List ℕ) {j : Result Counts Fault} {a : Fault}
    → (24 ≤ length t) × (24 * i + length t ≤ 50400)
    → Inside (i + 1 + length t / 24) j → j ≡ Err a → a.node < 2 ^ 32
fault_small i t room inside h = omega (arith, room.1, (rw h at inside).0)

-- the children of a node lie within the largest table, if it does
pub kids_within : (i : ℕ) (t : List ℕ) {list : List ℕ} → (24 ≤ length t) × (24 * i + length t ≤ 50400)
    → list ≡ kids_of t
    → 24 * (i + 1) + length list ≤ 50400
kids_within i t h list_is = rw list_is (omega (arith, length_kids t, h.0, h.1))

-- the whole of a list: every `*`, every `/`, its one error
module _ {l : Listing} (d : Dialect) (names t : List ℕ) (i : ℕ) where
  told_anywhere : (m : Mark) {list xs : List ℕ} {n : ℕ} {ys : List ℕ} → list ≡ kids_of t
      → Stores l (marks d m (params_in [] (forest (i + 1) list))) xs n ys
      → Stores l (marks d m (written names i t)) xs n ys
  unfolding written
  told_anywhere m list_is s = rw (← list_is, same_marks m names [] (i + 1) _) s

  pub params_all : {list xs ys zs vs : List ℕ} {a b c k m : ℕ} → list ≡ kids_of t
      → Stores l (marks d Star (params_in [] (forest (i + 1) list))) xs a ys → k ≡ free_at l a ys
      → Stores l (marks d SlashMark (params_in [] (forest (i + 1) list))) (after k ys) b zs
      → m ≡ free_at l (a + b) (back k ys zs)
      → Stores l (unpack_error (told (limited (node_of i t) (written names i t))))
      (after m (back k ys zs)) c vs
      → StoresFew l (1 + length t / 24) (validate_params d (node_of i t) (written names i t)) xs (a + b + c)
      (back m (back k ys zs) vs)
  unfolding validate_params
  params_all list_is stars k_is slashes m_is last = few_by (validate_params d (node_of i t) (written names i t))
      (omega (arith, params_few d (node_of i t) (written names i t), written_short names i t))
      (stores_both _ _ (stores_both _ _ (told_anywhere Star list_is stars) k_is
      (told_anywhere SlashMark list_is slashes)) m_is last)

  -- the errors of a parameter list's node
  pub with_all : (p : Bool) (n : ℕ) {xs ys zs : List ℕ} {m r at : ℕ} → Stores l (unless p n (node_of i t)) xs m ys
      → at ≡ free_at l m ys
      → Stores l (validate_params d (node_of i t) (written names i t)) (after at ys) r zs
      → StoresFew l (2 + length t / 24) (with_params d names p n (node_of i t) (forest (i + 1) (kids_of t))) xs (m + r)
      (back at ys zs)
  unfolding with_params written
  with_all p n s at-is q =
      few_by _ (omega (arith, with_few d names p n (node_of i t) (forest (i + 1) (kids_of t)), list_few d names i t))
      (stores_both _ _ s at-is q)
