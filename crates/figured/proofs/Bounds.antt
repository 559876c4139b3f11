-- No sum of a report reaches the limit of 64 bits. A file that a step accepts has at most 2,100 nodes, so it adds at
-- most 100,800 to a counter (`file_few`): an accepted list has at most 48 entries, and the module pass has at most
-- two errors a node. A step that continues has counted fewer than 4,294,967,295 files. So sums of small counters fit
-- (`sum_fits`), are plain sums (`step_sum`), and are small again (`step_small`). The counters of a report from zeros
-- are then small, by induction over its steps (`report_small`). Assumes nothing.
use Rattle.std.specs.Prelude.{Ok}
use mathlib.Core.Path.{◌≡◌, refl, sym, ap, ap₂, ◌∙◌}
use mathlib.Core.Bool.{Bool, true, false, ◌&&◌}
use mathlib.Core.List.{List, [], ◌∷◌, ◌++◌}
use Prim.Native.Nat.{ℕ, zero, suc, ◌+◌, ◌*◌, ◌^◌, ◌<◌, ◌≤◌}
use native.Mathlib.Omega.{arith}
use lib.ListN.{length, get_or, replicate, length-append}
use lib.Dec.{eqb, ltb}
use borrow.Author.Tests.{ltb-true}
use Rattle.fields.specs.Choice.{if'}
use Rattle.fields.proofs.Basics.{never}
use Rattle.table.specs.Answer.{Answer, accepted, refused, passes, is_refused}
use Rattle.table.specs.Check.{most_nodes, node_fits}
use Rattle.table.specs.declared.Wanted.TheVariants.{Parameters, Call}
use Rattle.table.proofs.Answers.{passed_both, test_passed}
use Rattle.table.proofs.Entering.{given_known}
use Rattle.table.proofs.Ruling.{rules_known, rules_passed}
use Rattle.deflist.specs.Written.{Param, kind_in}
use Rattle.deflist.specs.Unpack.{next_state, first_slash, positional_only, first_state, mode_of, modes_from, modes}
use Rattle.deflist.specs.declared.Kind.{Kind}
use Rattle.deflist.specs.declared.Kind.TheVariants.{Normal, NoArgs, Slash, Args, KwArgs}
use Rattle.deflist.specs.declared.State.{State}
use Rattle.parameters.specs.Params.{AllBelow, list_of, params_of}
use Rattle.parameters.proofs.Accepted.{accepted_passed}
use Rattle.arguments.specs.Job.{call_of}
use Rattle.errors.specs.declared.Finding.{Finding}
use Rattle.validate.specs.Job.{errors_of}
use Rattle.validate.proofs.Theorems.{errors_few}
use Rattle.blocks.specs.Block.{demand}
use Rattle.tablefile.specs.File.{Content}
use Rattle.tablefile.specs.Reading.{header_at, content_at, front_check, sound_check, edition_read}
use Rattle.figures.specs.Counting.{one, occurrences, occurrences_from, total, nodes_of, list_at, mode_at, accepted_at}
use Rattle.figures.specs.Counting.{refused_at, over, numbers_of, error_counts, table_figures, figures_of}
use Rattle.figures.specs.Adding.{most64, added}
use Rattle.figures.specs.Walking.{plus, modes_at}
use Rattle.table.specs.Numbers.{too_many_files}
use Rattle.figures.specs.Reporting.{most_files, window_check, step_check, told, step_of, figures_after, zeros}
use Rattle.figures.specs.Reporting.{report_from, report_of}
use Rattle.figures.proofs.Additions.{held_fits}
use Rattle.figures.proofs.Running.{report_none, report_on, report_stop}
use Rattle.figured.specs.Said.{most_added, Small}
use Rattle.figured.proofs.Induction.{report_induction}
use Rattle.figured.proofs.Sums.{step_is, taken_adds}

-- a count of at most 48 for each node, summed over the nodes
total_few : (n : ℕ) (f : ℕ → ℕ) → ((i : ℕ) → f i ≤ 48) → total n f ≤ 48 * n
unfolding total
total_few zero f few = omega arith
total_few (suc i) f few = omega (arith, total_few i f few, few i)

one_few : (b : Bool) → one b ≤ 48
one_few true = omega arith
one_few false = omega arith

-- a list has at most as many modes as entries
occurs_few : (n : ℕ) (ms : List ℕ) → occurrences n ms ≤ length ms
unfolding occurrences
occurs_few n [] = omega arith
occurs_few n (m ∷ ms) = omega (arith, occurs_few n ms, at_most (eqb m n))
  where
    at_most : (b : Bool) → one b ≤ 1
    at_most true = omega arith
    at_most false = omega arith

mode_one : (s : State) (k : Kind) → length (mode_of s k) ≤ 1
mode_one s (Normal default) = omega arith
mode_one s NoArgs = omega arith
mode_one s Slash = omega arith
mode_one s Args = omega arith
mode_one s KwArgs = omega arith

modes_few : (s : State) (ps : List Param) → length (modes_from s ps) ≤ length ps
unfolding modes_from
modes_few s [] = omega arith
modes_few s (p ∷ ps) =
    let rest : List ℕ = modes_from (next_state s (kind_in p)) ps in
    omega (
      arith,
      length-append (mode_of s (kind_in p)) rest,
      mode_one s (kind_in p),
      modes_few (next_state s (kind_in p)) ps,
    )

list_modes : (m : ℕ) (l : List Param) → length l ≤ 48 → occurrences m (modes l) ≤ 48
unfolding modes
list_modes m l few =
    let s : State = first_state (positional_only (first_slash l)) in
    omega (arith, occurs_few m (modes l), modes_few s l, few)

module _ (t names : List ℕ) (i : ℕ) where
  mode_few : (m : ℕ) → mode_at m t names i ≤ 48
  unfolding mode_at
  mode_few m = go (params_of t names i most_nodes) refl
    where
      go : (a : Answer) → params_of t names i most_nodes ≡ a
          → if' (passes a) (λ _. occurrences m (modes (list_of t names i))) (λ _. 0) ≤ 48
      go (accepted vs) e = list_modes m (list_of t names i) (accepted_passed t names i most_nodes e).few
      go (refused k vs) e = omega arith

  call_few : accepted_at t names i ≤ 48
  unfolding accepted_at
  call_few = one_few (node_fits t i Call && passes (call_of t names i))

  refused_few : refused_at t names i ≤ 48
  unfolding refused_at
  refused_few = one_few (node_fits t i Call && is_refused (call_of t names i))

-- the errors of one number are at most all errors
numbers_length : (es : List Finding) → length (numbers_of es) ≡ length es
unfolding numbers_of
numbers_length [] = refl
numbers_length (e ∷ es) = ap suc (numbers_length es)

from_below : (m k n : ℕ) (ns : List ℕ) → length ns ≤ m → AllBelow m (occurrences_from k n ns)
unfolding occurrences_from
from_below m zero n ns few = tt
from_below m (suc k) n ns few = (omega (arith, occurs_few n ns, few), from_below m k (n + 1) ns few)

below_both : (m : ℕ) (xs ys : List ℕ) → AllBelow m xs → AllBelow m ys → AllBelow m (xs ++ ys)
below_both m [] ys p q = q
below_both m (x ∷ xs) ys p q = (p.0, below_both m xs ys p.1 q)

-- what a table of at most 2,100 nodes adds
module _ (t names bytes : List ℕ) (most : length t ≤ 50400) where
  abbrev errors : List ℕ
  errors = error_counts (numbers_of (errors_of t names bytes))

  errors_below : AllBelow most_added errors
  unfolding error_counts
  errors_below =
      let ns : List ℕ = numbers_of (errors_of t names bytes) in
      let few : length ns ≤ most_added
      = omega (arith, numbers_length (errors_of t names bytes), errors_few t names bytes, most) in
      below_both most_added (occurrences_from 10 10 ns) (occurrences_from 12 50 ns) (from_below most_added 10 10 ns few)
      (from_below most_added 12 50 ns few)

  over_few : (f : ℕ → ℕ) → ((i : ℕ) → f i ≤ 48) → over t f ≤ most_added
  over_few f few = omega (arith, total_few (nodes_of t) f few, most)

  mode_below : (m : ℕ) → over t (mode_at m t names) ≤ most_added
  mode_below m = over_few (mode_at m t names) (λ i. mode_few t names i m)

  calls_below : AllBelow most_added (over t (accepted_at t names) ∷ over t (refused_at t names) ∷ errors)
  calls_below =
      let accepts = over_few (accepted_at t names) (λ i. call_few t names i) in
      let refuses = over_few (refused_at t names) (λ i. refused_few t names i) in
      (accepts, (refuses, errors_below))

  modes_below : AllBelow most_added (modes_at (λ m. over t (mode_at m t names))
      (over t (accepted_at t names) ∷ over t (refused_at t names) ∷ errors))
  modes_below = (mode_below 1, (mode_below 2, (mode_below 3, (mode_below 4, (mode_below 5, calls_below)))))

  -- LAW: a table adds at most 100,800 to a counter
  pub table_few : AllBelow most_added (table_figures t names bytes)
  unfolding table_figures
  table_few =
      let lists = over_few (list_at t) (λ i. one_few (node_fits t i Parameters)) in
      (omega arith, (omega (arith, most), (lists, modes_below)))

-- counters by their place
below_at : (m : ℕ) (xs : List ℕ) → AllBelow m xs → (i : ℕ) → get_or xs i 0 ≤ m
below_at m [] h i = omega arith
below_at m (x ∷ xs) h zero = h.0
below_at m (x ∷ xs) h (suc i) = below_at m xs h.1 i

plus_at : (xs ys : List ℕ) (i : ℕ) → get_or (plus xs ys) i 0 ≡ get_or xs i 0 + get_or ys i 0
unfolding plus
plus_at [] ys i = omega arith
plus_at (x ∷ xs) [] i = omega arith
plus_at (x ∷ xs) (y ∷ ys) zero = refl
plus_at (x ∷ xs) (y ∷ ys) (suc i) = plus_at xs ys i

plus_length : (xs ys : List ℕ) → length ys ≤ length xs → length (plus xs ys) ≡ length xs
unfolding plus
plus_length [] [] h = refl
plus_length [] (y ∷ ys) h = absurd (omega (arith, h))
plus_length (x ∷ xs) [] h = refl
plus_length (x ∷ xs) (y ∷ ys) h = ap suc (plus_length xs ys (omega (arith, h)))

-- LAW: sums that fit 64 bits are plain sums
pub added_plain : (xs ys : List ℕ) → length ys ≤ length xs → ((i : ℕ) → get_or xs i 0 + get_or ys i 0 ≤ most64)
    → added xs ys ≡ plus xs ys
unfolding added plus
added_plain [] [] long fits = refl
added_plain [] (y ∷ ys) long fits = absurd (omega (arith, long))
added_plain (x ∷ xs) [] long fits = refl
added_plain (x ∷ xs) (y ∷ ys) long fits =
    ap₂ ◌∷◌ (sym (held_fits x y (omega (arith, fits 0)))) (added_plain xs ys (omega (arith, long)) (λ i. fits (suc i)))

-- zeros are small
zeros_at : (i : ℕ) → get_or zeros i 0 ≡ 0
zeros_at i = go 32 i
  where
    go : (n i : ℕ) → get_or {A = ℕ} (replicate n 0) i 0 ≡ 0
    go zero i = refl
    go (suc n) zero = refl
    go (suc n) (suc i) = go n i

pub zeros_small : Small zeros
zeros_small = record { all = refl; files = omega arith; others = λ i. omega (arith, zeros_at i) }

-- a step that continues from small counters
module _ (w fs : List ℕ) (some : length w ≡ 0 → ⊥) {n : ℕ} (takes : step_of w fs ≡ Ok n) where
  step_passed : (vs : List ℕ) × (step_check w fs ≡ accepted vs)
  step_passed = go (step_check w fs) refl (sym (step_is w fs some) ∙ takes)
    where
      go : (a : Answer) → step_check w fs ≡ a → told a (header_at w).taken ≡ Ok n
          → (vs : List ℕ) × (step_check w fs ≡ accepted vs)
      go (accepted vs) e h = (vs, e)
      go (refused k vs) e h = never (cc)

  -- LAW: fewer files are counted than a report may have, and the table has at most 2,100 nodes
  pub fewer_files : get_or fs 0 0 < most_files
  unfolding step_check
  fewer_files =
      let passed = passed_both (demand (ltb (get_or fs 0 0) most_files) too_many_files) (λ _. window_check w)
      step_passed.1 in
      ltb-true (get_or fs 0 0) most_files (test_passed (ltb (get_or fs 0 0) most_files) too_many_files passed.1)

  table_most : length (content_at w).table ≤ 50400
  unfolding step_check window_check
  table_most =
      let c : Content = content_at w in
      let passed = passed_both (demand (ltb (get_or fs 0 0) most_files) too_many_files) (λ _. window_check w)
      step_passed.1 in
      let sound = passed_both (front_check w) (λ _. sound_check c) passed.2 in
      let ruled = rules_passed c.table c.names c.dialect (edition_read c) sound.2 in
      let known = rules_known c.table c.names c.dialect ruled.2 in
      (given_known c.table c.names c.dialect known.0).0.most

  -- THEOREM: a file that a step accepts adds at most 100,800 to a counter
  pub file_few : (i : ℕ) → get_or (figures_of (content_at w)) i 0 ≤ most_added
  file_few i =
      let c : Content = content_at w in
      below_at most_added (figures_of c) (table_few c.table c.names c.dialect table_most) i

  file_one : get_or (figures_of (content_at w)) 0 0 ≡ 1
  unfolding table_figures
  file_one = refl

  pub file_long : length (figures_of (content_at w)) ≡ 32
  unfolding table_figures error_counts occurrences_from
  file_long = refl

  module _ (small : Small fs) where
    sum_fits : (i : ℕ) → get_or fs i 0 + get_or (figures_of (content_at w)) i 0 ≤ most64
    sum_fits i = omega (arith, small.others i, fewer_files, file_few i)

    -- THEOREM: it adds the file's figures, and no sum reaches the limit of 64 bits
    pub step_sum : figures_after w fs ≡ plus fs (figures_of (content_at w))
    step_sum =
        taken_adds w fs some takes
        ∙ added_plain fs (figures_of (content_at w)) (omega (arith, small.all, file_long)) sum_fits

    pub step_plain : (i : ℕ) → get_or (figures_after w fs) i 0 ≡ get_or fs i 0 + get_or (figures_of (content_at w)) i 0
    step_plain i = ap (λ (l : List ℕ). get_or l i 0) step_sum ∙ plus_at fs (figures_of (content_at w)) i

    -- LAW: the counters stay small
    pub step_small : Small (figures_after w fs)
    step_small =
        let xs : List ℕ = figures_of (content_at w) in
        rw step_sum record {
          all = plus_length fs xs (omega (arith, small.all, file_long)) ∙ small.all;
          files = omega (arith, plus_at fs xs 0, file_one, fewer_files);
          others = λ i. omega (arith, plus_at fs xs i, plus_at fs xs 0, file_one, file_few i, small.others i);
        }

-- LAW: the counters of a report from small ones are small
pub report_small : (at : ℕ) (fs b : List ℕ) → Small fs → Small (report_from at fs b).figures
report_small = report_induction (λ at fs b. Small fs → Small (report_from at fs b).figures) record {
  none = λ at fs b none small. rw (report_none at fs b none) small;
  stop = λ at fs b some m e small. rw (report_stop at fs b some e) small;
  on = λ at fs b some n e rest small. rw (report_on at fs b some e) (rest (step_small b fs some e small));
}

-- THEOREM: the counters of a report are small, and below 2^64
module _ (input : List ℕ) where
  pub figures_small : Small (report_of input).figures
  unfolding report_of
  figures_small = report_small 0 zeros input zeros_small

  pub figures_fit : (i : ℕ) → get_or (report_of input).figures i 0 < 2 ^ 64
  figures_fit i = omega (arith, figures_small.others i, figures_small.files)
