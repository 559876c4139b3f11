-- The two loops: over the parameters, which seeks a name, and over the arguments, which writes the reports. What is
-- left decides: after each turn the search of the rest is that of the whole (`Finding`), and the reports that are
-- written, with those of the rest, are all (`Scanning`). Room is counted in arguments: a report for each at most, so
-- that four words for each argument are enough. Assumes nothing.
use Rattle.std.specs.Prelude.{None, Option, Some, ℕ}
use mathlib.Core.Path.{◌≡◌, refl, sym, ap, ◌∙◌}
use mathlib.Core.Bool.{Bool, true, false, ◌&&◌}
use mathlib.Core.List.{List, [], ◌∷◌, ◌++◌}
use Prim.Native.Nat.{ℕ, ◌+◌, ◌-◌, ◌*◌, ◌/◌, ◌<◌, ◌≤◌}
use native.Mathlib.Omega.{arith}
use lib.ListN.{length, get_or, take, drop, length-take, length-drop, length-append}
use lib.Dec.{eqb}
use borrow.Rule.Slice.PartMut.{put_mid}
use Rattle.fields.specs.Choice.{if'}
use Rattle.fields.specs.Over.{over}
use Rattle.fields.proofs.Over.{over_none, over_next, over_part}
use Rattle.forest.specs.Forest.{node_of, span_of, kids_of, rest_of, forest}
use Rattle.forest.proofs.Stretch.{length_rest}
use Rattle.forest.specs.Names.{name_of, same}
use Rattle.deflist.specs.Written.{kind_in, param_of, params_in}
use Rattle.deflist.specs.Unpack.{first_state, first_slash, positional_only, next_state}
use Rattle.deflist.specs.Reading.{is_listed, kind_here}
use Rattle.deflist.specs.declared.Kind.{Kind}
use Rattle.deflist.specs.declared.Kind.TheVariants.{Normal, NoArgs, Slash, Args, KwArgs}
use Rattle.deflist.specs.declared.State.{State}
use Rattle.deflist.proofs.Reading.{kind_in_lem, listed_long, list_next, list_end}
use Rattle.bind.specs.FlatList.{name_in, flats_from, flats}
use Rattle.bind.specs.Reading.{flats_of as flat_count}
use Rattle.bind.proofs.Lists.{arg_node}
use Rattle.namesakes.specs.Namesake.{label_of, labelled_in, ordinary_from, namesake_of, Report, report_of, reports_from}
use Rattle.namesakes.specs.Namesake.{rows}
use Rattle.namesakes.specs.Job.{written}
use Rattle.namesakes.specs.Reading.{is_normal, flats_of}
use Rattle.namesakes.proofs.Lists.{labelled_end, labelled_on, name_test, ordinary_one}

-- the search by name: f flat parameters are passed, whatever the index
pub record Finding (ns x params left : List ℕ) (f : ℕ) : Type 0 where
  pub room : 24 * f + length left ≤ length params
  pub from : ℕ → ℕ
  pub state : ℕ → State
  pub same : (i : ℕ) → ordinary_from f x (flats_from (state i) (params_in ns (forest (from i) left)))
      ≡ ordinary_from 0 x (flats_of ns i params)

pub find_start : (ns x params : List ℕ) → Finding ns x params params 0
unfolding flats_of flats
find_start ns x params = record {
  room = omega arith;
  from = λ i. i;
  state = λ i. first_state (positional_only (first_slash (params_in ns (forest i params))));
  same = λ i. refl;
}

flats_one : (k : Kind) → flat_count k ≤ 1
flats_one (Normal d) = omega arith
flats_one NoArgs = omega arith
flats_one Slash = omega arith
flats_one Args = omega arith
flats_one KwArgs = omega arith

pub find_room : {ns x params left : List ℕ} {f : ℕ} → Finding ns x params left f → 24 * f ≤ length params
find_room y = omega (arith, y.room)

module _ {ns x params left : List ℕ} {f : ℕ} (y : Finding ns x params left f) where
  pub find_end : is_listed left ≡ false → (i : ℕ) → None ≡ ordinary_from 0 x (flats_of ns i params)
  unfolding ordinary_from flats_from
  find_end none i = rw (list_end ns (y.from i) left none) at (y.same i)

  module _ (listed : is_listed left ≡ true) {k : Kind} (k_is : k ≡ kind_here left) {b : Bool}
      (b_is : b ≡ (is_normal k && same (name_of ns (node_of 0 left)) x)) where
    find_one : (i : ℕ) {after : List ℕ} → after ≡ rest_of left
        → ordinary_from f x (flats_from (y.state i) (params_in ns (forest (y.from i) left)))
        ≡ if' b (λ _. Some f) (λ _. ordinary_from (f + flat_count k) x (flats_from (next_state (y.state i) k)
        (params_in ns (forest (y.from i + span_of left / 24) after))))
    unfolding flats_from
    find_one i after-is =
        let kind : kind_in (param_of ns (node_of (y.from i) left)) ≡ k = kind_in_lem ns (y.from i) left ∙ sym k_is in
        let test : (is_normal k && same (name_in (param_of ns (node_of (y.from i) left))) x) ≡ b =
        rw (kind, ← k_is) at (name_test ns (y.from i) left x) ∙ sym b_is in
        rw (list_next ns (y.from i) left listed refl after-is)
        (ordinary_one f x (y.state i) (param_of ns (node_of (y.from i) left)) _ ∙ rw (kind, test) refl)

    pub find_here : b ≡ true → (i : ℕ) → Some f ≡ ordinary_from 0 x (flats_of ns i params)
    find_here h i =
        let here : ordinary_from f x (flats_from (y.state i) (params_in ns (forest (y.from i) left))) ≡ Some f =
        find_one i refl ∙ rw h refl in
        sym here ∙ y.same i

    pub find_on : b ≡ false → {g : ℕ} {after : List ℕ} → g ≡ flat_count k → after ≡ rest_of left
        → Finding ns x params after (f + g)
    find_on h {g} {after} g-is after-is = record {
      room = omega (arith, y.room, g-is, flats_one k, ap length after-is, length_rest left, listed_long left listed);
      from = λ i. y.from i + span_of left / 24;
      state = λ i. next_state (y.state i) k;
      same = λ i.
          let on : ordinary_from f x (flats_from (y.state i) (params_in ns (forest (y.from i) left)))
          ≡ ordinary_from (f + flat_count k) x (flats_from (next_state (y.state i) k)
          (params_in ns (forest (y.from i + span_of left / 24) after))) = find_one i after-is ∙ rw h refl in
          rw g-is (sym on ∙ y.same i);
    }

-- the reports that arguments from a place on still give
module _ (ns params ws : List ℕ) where
  abbrev pub Left : ℕ → ℕ → ℕ → List ℕ → List Report
  Left i place at left = reports_from (flats_of ns i params) ws place (labelled_in ns (forest at left))

-- the arguments in turn: found reports are written, and the node `at` comes next, whose word is at `place`
pub record Scanning (ns params args : List ℕ) (first from : ℕ) (ws list₀ list left : List ℕ) (at place found : ℕ)
    : Type 0 where
  pub room : 24 * at + length left ≤ 24 * first + length args
  pub few : first + place ≤ from + at
  pub short : 24 * found + length left ≤ length args
  pub long : length list ≡ length list₀
  pub lent : 4 * length (labelled_in ns (forest first args)) ≤ length list₀
  pub fits : found + length (labelled_in ns (forest at left)) ≤ length (labelled_in ns (forest first args))
  pub count : (i : ℕ) → found + length (Left ns params ws i place at left)
      ≡ length (Left ns params ws i from first args)
  pub same : (i : ℕ) → over (4 * found) (rows (Left ns params ws i place at left)) list
      ≡ written (Left ns params ws i from first args) list₀

pub scan_start : (ns params args : List ℕ) (first from : ℕ) (ws list : List ℕ)
    → 4 * length (labelled_in ns (forest first args)) ≤ length list
    → Scanning ns params args first from ws list list args first from 0
scan_start ns params args first from ws list enough = record {
  room = omega arith;
  few = omega arith;
  short = omega arith;
  long = refl;
  lent = enough;
  fits = omega arith;
  count = λ i. omega arith;
  same = λ i. refl;
}

-- four words for each report
pub rows_long : (rs : List Report) → length (rows rs) ≡ 4 * length rs
unfolding rows
rows_long [] = refl
rows_long (r ∷ rs) = omega (arith, rows_long rs)

rows_append : (rs ss : List Report) → rows (rs ++ ss) ≡ rows rs ++ rows ss
unfolding rows
rows_append [] ss = refl
rows_append (r ∷ rs) ss =
    ap (λ (l : List ℕ). r.argument ∷ r.reached ∷ r.namesake ∷ r.taken ∷ l) (rows_append rs ss)

one_at_most : (ws : List ℕ) (at p : ℕ) (q : Option ℕ) → length (report_of ws at p q) ≤ 1
unfolding report_of
one_at_most ws at p None = omega arith
one_at_most ws at p (Some q) = go (eqb p q)
  where
    go : (b : Bool) → length {A = Report} (if' b (λ _. []) (λ _.
        record { argument = at; reached = p; namesake = q; taken = get_or ws q 0 } ∷ [])) ≤ 1
    go true = omega arith
    go false = omega arith

pub put_few : (ws : List ℕ) (at p : ℕ) (q : Option ℕ) {n : ℕ} → n ≡ length (report_of ws at p q) → n ≤ 1
put_few ws at p q n_is = omega (arith, one_at_most ws at p q)

module _ {ns params args : List ℕ} {first from : ℕ} {ws list₀ list left : List ℕ} {at place found : ℕ}
    (y : Scanning ns params args first from ws list₀ list left at place found) where
  pub scan_end : length left < 24
      → ((i : ℕ) → found ≡ length (Left ns params ws i from first args))
      × ((24 * found ≤ length args) × ((i : ℕ) → list ≡ written (Left ns params ws i from first args) list₀))
  unfolding reports_from rows
  scan_end h = (
    λ i. omega (arith, y.count i, ap length (none i)),
    (
      omega (arith, y.short),
      λ i. sym (over_none (4 * found) list) ∙ ap (λ (l : List Report). over (4 * found) (rows l) list) (sym (none i))
          ∙ y.same i,
    ),
  )
    where
      none : (i : ℕ) → Left ns params ws i place at left ≡ []
      none i = rw (labelled_end ns at left h) refl

  pub scan_fits : 4 * found ≤ length list
  scan_fits = omega (arith, y.lent, y.fits, y.long)

  module _ (big : 24 ≤ length left) where
    pub scan_lent : 4 ≤ length (take (length list - 4 * found) (drop (4 * found) list))
    scan_lent = simp (length-take, length-drop)
        (omega (arith, y.lent, y.fits, y.long, ap length (labelled_on ns at left big refl refl)))

    module _ {q : Option ℕ}
        (q-is : (i j : ℕ) → q ≡ namesake_of (flats_of ns i params) (label_of ns (forest j (kids_of left))))
        {p : ℕ} (p-is : p ≡ get_or ws place 0) {after : ℕ} {rest : List ℕ} (after-is : after ≡ at + span_of left / 24)
        (rest-is : rest ≡ rest_of left) where
      one : (i : ℕ) → Left ns params ws i place at left
          ≡ report_of ws at p q ++ Left ns params ws i (place + 1) after rest
      unfolding reports_from
      one i = rw (labelled_on ns at left big after-is rest-is, arg_node ns at left, ← p-is, ← (q-is i (at + 1))) refl

      module _ {n : ℕ} (n_is : n ≡ length (report_of ws at p q)) {ys : List ℕ}
          (ys-are : ys ≡ written (report_of ws at p q) (take (length list - 4 * found) (drop (4 * found) list))) where
        abbrev lent : List ℕ
        lent = put_mid (4 * found) (length list - 4 * found) list ys

        next_laid : (i : ℕ) → over (4 * (found + n)) (rows (Left ns params ws i (place + 1) after rest)) lent
            ≡ over (4 * found) (rows (Left ns params ws i place at left)) list
        next_laid i =
            let these : List Report = report_of ws at p q in
            let others : List Report = Left ns params ws i (place + 1) after rest in
            let behind : 4 * (found + n) ≡ 4 * found + length (rows these) = omega (arith, n_is, rows_long these) in
            rw (over_part (4 * found) (rows these) list ys-are, behind)
            (over_next (4 * found) (rows these) list (rows others))
            ∙ ap (λ (l : List ℕ). over (4 * found) l list) (sym (rows_append these others) ∙ ap rows (sym (one i)))

        pub scan_on : length lent ≡ length list
            → Scanning ns params args first from ws list₀ lent rest after (place + 1) (found + n)
        scan_on long = let less : length rest ≡ length left - span_of left = ap length rest-is ∙ length_rest left in
            record {
              room = omega (arith, y.room, after-is, less);
              few = omega (arith, big, y.few, after-is);
              short = omega (arith, big, y.short, n_is, one_at_most ws at p q, less);
              long = long ∙ y.long;
              lent = y.lent;
              fits = omega (
                arith,
                y.fits,
                ap length (labelled_on ns at left big after-is rest-is),
                n_is,
                one_at_most ws at p q,
              );
              count = λ i. omega (
                arith,
                y.count i,
                n_is,
                ap length (one i),
                length-append (report_of ws at p q) (Left ns params ws i (place + 1) after rest),
              );
              same = λ i. next_laid i ∙ y.same i;
            }
