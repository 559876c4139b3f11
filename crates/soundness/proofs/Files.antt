-- The rule of file numbers along the index (`files_of`) and the one down the tree (`files_sound`) are the same, in any
-- table that its root covers (`sound_fits`, an equation). Under a root Statements the top-level statements are passed
-- one by one (`tops_fit`; the induction is on the records that are left): the records up to the next one are its
-- subtree's, whose nodes are those records in order (forest's `nodes_records`), and each is to have that statement's
-- number (`statement_is`). Any other root is one statement. Where the end of the table cuts a statement, both ways go
-- to the end, so sizes need not be sound. Cite `clean_files`, `clean_exactly`, and for a node of a clean table
-- `subtree_file`. Assumes nothing.
use Rattle.std.specs.Prelude.{None}
use mathlib.Core.Path.{◌≡◌, refl, sym, ap, ◌∙◌}
use mathlib.Core.Bool.{Bool, true, false, ◌&&◌, and_assoc, and-true, and-false}
use mathlib.Core.List.{List, [], ◌∷◌, ◌++◌}
use mathlib.Core.Logic.{⊎_elim}
use Prim.Native.Nat.{ℕ, zero, suc, ◌+◌, ◌-◌, ◌*◌, ◌/◌, ◌<◌, ◌≤◌, max}
use native.Mathlib.Omega.{arith}
use lib.ListN.{length, drop, length-drop}
use lib.Seq.{take_all, drop-drop}
use lib.Dec.{eqb, leb}
use borrow.Author.Tests.{eqb-true, eqb-false, le-leb, lt-leb, leb-true}
use native.Mathlib.Nat.{zero-add, add-zero, suc-add}
use Rattle.fields.specs.Choice.{if'}
use Rattle.fields.proofs.Basics.{clash, and_both, and_left, and_right, le_or_lt}
use Rattle.forest.specs.Forest.{Node, size_of, span_of, kids_of, rest_of, Tree, node, Forest, none, ◌then◌}
use Rattle.forest.specs.Forest.{forest, nodes, nodes_of}
use Rattle.forest.proofs.Stretch.{records, nodes_records, forest_none, forest_tree, length_kids, length_rest}
use Rattle.forest.proofs.Stretch.{record_or_none, kids_records}
use Rattle.soundness.specs.Kinds.{kind_of, class_of}
use Rattle.soundness.specs.Files.{Range, range, file_numbers, any_file, file_sound, record_at, root_statements, top_of}
use Rattle.soundness.specs.Files.{files_of, files_in, tree_in, files_top, files_sound}
use Rattle.soundness.specs.Sound.{Context, context, context_of, fields_sound, sound_node, sound_at, root_sound}
use Rattle.soundness.specs.Sound.{name_sound, span_sound, source_sound, record_sound, first_false, first_unsound}
use Rattle.soundness.proofs.Search.{all_found}
use Rattle.soundness.proofs.Records.{sound_covers}
use Rattle.soundness.proofs.SoundTables.{node_fields, record_clean, root_covers, here_size, nested}
use Rattle.soundness.proofs.Tops.{top_within, top_behind, top_first, top_root, files_root, files_other}
use Rattle.soundness.proofs.Tops.{files_top_lem, files_under, top_upto, top_self, top_reach, top_past}

-- one number in a list of nodes
abbrev all_have : ℕ → List Node → Bool
all_have n [] = true
all_have n (r ∷ rs) = eqb r.file n && all_have n rs

have_append : (n : ℕ) (rs ss : List Node) → all_have n (rs ++ ss) ≡ (all_have n rs && all_have n ss)
have_append n [] ss = refl
have_append n (r ∷ rs) ss = rw (have_append n rs ss) (sym (and_assoc (eqb r.file n) (all_have n rs) (all_have n ss)))

-- every node of a forest has the number n exactly where all its nodes, listed, have it
mutual
  unfolding files_in nodes

  in_nodes : (n : ℕ) (f : Forest) → files_in n f ≡ all_have n (nodes f)
  in_nodes n none = refl
  in_nodes n (t then ts) = rw (tree_nodes n t, in_nodes n ts) (sym (have_append n (nodes_of t) (nodes ts)))

  tree_nodes : (n : ℕ) (t : Tree) → tree_in n t ≡ all_have n (nodes_of t)
  tree_nodes n (node r ks) = rw (in_nodes n ks) refl

-- LAW: and those of a stretch are its records
pub in_records : (n i : ℕ) (bs : List ℕ) → files_in n (forest i bs) ≡ all_have n (records (length bs / 24) i bs)
in_records n i bs = in_nodes n (forest i bs) ∙ ap (all_have n) (nodes_records i bs)

-- record j of a table has a number that it may have; m records from record k on have
abbrev pub fits : List ℕ → ℕ → Bool
fits t j = file_sound (files_of t j) (record_at t j).file

abbrev pub all_fit : List ℕ → ℕ → ℕ → Bool
all_fit t k zero = true
all_fit t k (suc m) = fits t k && all_fit t (k + 1) m

fit_split : (t : List ℕ) (k a b : ℕ) → all_fit t k (a + b) ≡ (all_fit t k a && all_fit t (k + a) b)
fit_split t k zero b = simp (zero-add, add-zero)
fit_split t k (suc a) b =
    let on : k + 1 + a ≡ k + suc a = omega arith in
    rw (suc-add, fit_split t (k + 1) a b, on)
    (sym (and_assoc (fits t k) (all_fit t (k + 1) a) (all_fit t (k + suc a) b)))

fit_each : (t : List ℕ) (k m : ℕ) → all_fit t k m ≡ true → (j : ℕ) → k ≤ j → j < k + m → fits t j ≡ true
fit_each t k zero e j h g = absurd (omega arith)
fit_each t k (suc m) e j h g = ⊎_elim
    (λ (l : k + 1 ≤ j). fit_each t (k + 1) m (and_right (fits t k) _ e) j l (omega arith))
    (λ (l : j < k + 1). let at : j ≡ k = omega arith in rw at (and_left _ _ e))
    (le_or_lt (k + 1) j)

each_fit : (t : List ℕ) (k m : ℕ) → ((j : ℕ) → k ≤ j → j < k + m → fits t j ≡ true) → all_fit t k m ≡ true
each_fit t k zero f = refl
each_fit t k (suc m) f = and_both _ _ (f k (omega arith) (omega arith))
    (each_fit t (k + 1) m (λ j h g. f j (omega arith) (omega arith)))

-- one number may only be itself
pub only_one : (n a : ℕ) → file_sound (range a a) n ≡ eqb n a
unfolding file_sound
only_one n a = go (eqb n a) refl
  where
    go : (b : Bool) → eqb n a ≡ b → (leb a n && leb n a) ≡ b
    go true e = let at : n ≡ a = eqb-true n a e in
        and_both _ _ (le-leb a n (omega arith)) (le-leb n a (omega arith))
    go false e = let apart : n ≡ a → ⊥ = eqb-false n a e in ⊎_elim
        (λ (l : a ≤ n). rw (lt-leb n a (omega arith)) (and-false (leb a n)))
        (λ (l : n < a). rw (lt-leb a n l) refl)
        (le_or_lt a n)

-- the records under a top-level statement at record k have its number
module _ (t : List ℕ) (k : ℕ) where
  under_is : (j : ℕ) → k < j → top_of t j ≡ k → fits t j ≡ eqb (record_at t j).file (record_at t k).file
  under_is j h e = rw (files_under t j k h e) (only_one (record_at t j).file (record_at t k).file)

  under_all : (m a : ℕ) → k < a → ((j : ℕ) → a ≤ j → j < a + m → top_of t j ≡ k)
      → all_have (record_at t k).file (records m a (drop (24 * a) t)) ≡ all_fit t a m
  under_all zero a h under = refl
  under_all (suc m) a h under =
      let next : 24 * a + 24 ≡ 24 * (a + 1) = omega arith in
      rw (under_is a h (under a (omega arith) (omega arith)), drop-drop 24 (24 * a) t, next)
      (ap (λ (b : Bool). eqb (record_at t a).file (record_at t k).file && b)
      (under_all m (a + 1) (omega arith) (λ j g l. under j (omega arith) (omega arith))))

-- a top-level statement at record k, with the records that the stretch gives it
module _ (t : List ℕ) (k : ℕ) (big : 24 ≤ length (drop (24 * k) t)) (first : files_of t k ≡ file_numbers)
    (under : (j : ℕ) → k < j → j < k + span_of (drop (24 * k) t) / 24 → top_of t j ≡ k) where
  statement_is : (file_sound file_numbers (record_at t k).file
      && files_in (record_at t k).file (forest (k + 1) (kids_of (drop (24 * k) t))))
      ≡ all_fit t k (span_of (drop (24 * k) t) / 24)
  statement_is =
      let bs : List ℕ = drop (24 * k) t in
      let m : ℕ = length (kids_of bs) / 24 in
      let all : span_of bs / 24 ≡ suc m = omega (arith, length_kids bs) in
      let next : 24 * k + 24 ≡ 24 * (k + 1) = omega arith in
      let kids : records m (k + 1) (kids_of bs) ≡ records m (k + 1) (drop (24 * (k + 1)) t) =
      kids_records m (k + 1) bs (omega arith) ∙ rw (drop-drop 24 (24 * k) t, next) refl in
      rw (
        all,
        first,
        in_records (record_at t k).file (k + 1) (kids_of bs),
        kids,
        under_all t k m (k + 1) (omega arith) (λ j h g. under j (omega arith) (omega arith)),
      ) refl

-- the top-level statements from record k on, in a table of n records
module _ (t : List ℕ) (n : ℕ) (long : length t ≡ 24 * n) where
  module _ (k : ℕ) (past : 1 ≤ k) (there : k < n) (top : top_of t k ≡ k) where
    room : length (drop (24 * k) t) ≡ 24 * (n - k)
    room = length-drop (24 * k) t ∙ omega arith

    this : (file_sound file_numbers (record_at t k).file
        && files_in (record_at t k).file (forest (k + 1) (kids_of (drop (24 * k) t))))
        ≡ all_fit t k (span_of (drop (24 * k) t) / 24)
    this = statement_is t k (omega (arith, room)) (files_top_lem t k past top)
        (λ j h g. top_within t k past top j (omega arith) (omega (arith, room)))

    -- what is behind it begins with the next one, if there is one
    behind : k + span_of (drop (24 * k) t) / 24 < n
        → top_of t (k + span_of (drop (24 * k) t) / 24) ≡ k + span_of (drop (24 * k) t) / 24
    behind h = let at : k + span_of (drop (24 * k) t) / 24 ≡ k + max 1 (record_at t k).size = omega (arith, room) in
        rw at (top_behind t k past top)

    rest_at : rest_of (drop (24 * k) t) ≡ drop (24 * (k + span_of (drop (24 * k) t) / 24)) t
    unfolding rest_of
    rest_at =
        let at : 24 * k + span_of (drop (24 * k) t) ≡ 24 * (k + span_of (drop (24 * k) t) / 24) = omega (arith, room) in
        drop-drop (span_of (drop (24 * k) t)) (24 * k) t ∙ ap (λ (m : ℕ). drop m t) at

    cut : files_top (forest k (drop (24 * k) t)) ≡ (all_fit t k (span_of (drop (24 * k) t) / 24)
        && files_top (forest (k + span_of (drop (24 * k) t) / 24)
        (drop (24 * (k + span_of (drop (24 * k) t) / 24)) t)))
    unfolding files_top
    cut = rw (← this, forest_tree k (drop (24 * k) t) (omega (arith, room)), rest_at) refl

  none_fit : (k : ℕ) → n ≤ k → files_top (forest k (drop (24 * k) t)) ≡ all_fit t k (n - k)
  unfolding files_top
  none_fit k h = let none_left : n - k ≡ 0 = omega arith in
      rw (forest_none k (drop (24 * k) t) (omega (arith, length-drop (24 * k) t)), none_left) refl

  tops_fit : (m k : ℕ) → n ≤ k + m → 1 ≤ k → (k < n → top_of t k ≡ k)
      → files_top (forest k (drop (24 * k) t)) ≡ all_fit t k (n - k)
  tops_fit zero k hm past top = none_fit k (omega arith)
  tops_fit (suc m) k hm past top = ⊎_elim (none_fit k)
      (λ (there : k < n).
      let at = top there in
      let e : ℕ = span_of (drop (24 * k) t) / 24 in
      let upto : k + e ≤ n = omega (arith, room k past there at) in
      let rest = tops_fit m (k + e) (omega (arith, room k past there at)) (omega arith) (behind k past there at) in
      let both : n - k ≡ e + (n - (k + e)) = omega arith in
      cut k past there at ∙ rw (rest, both) (sym (fit_split t k e (n - (k + e)))))
      (le_or_lt n k)

-- LAW: in a table that its root covers the numbers are sound down the tree exactly where each record has one that it
-- may have
module _ (t : List ℕ) (covers : 24 * size_of t ≡ length t) (some : 24 ≤ length t) where
  kids_all : kids_of t ≡ drop 24 t
  unfolding kids_of
  kids_all = take_all (span_of t - 24) (drop 24 t) (omega (arith, length-drop 24 t))

  row_fits : root_statements t ≡ true → (m : ℕ) → length t / 24 ≡ suc m
      → files_sound (forest 0 t) ≡ all_fit t 0 (length t / 24)
  unfolding files_sound
  row_fits e m all =
      let root : fits t 0 ≡ eqb (record_at t 0).file 0 = rw (files_root t e) (only_one (record_at t 0).file 0) in
      let tops : files_top (forest 1 (drop 24 t)) ≡ all_fit t 1 (suc m - 1) =
      tops_fit t (suc m) (omega arith) (suc m) 1 (omega arith) (omega arith) (λ l. top_first t e) in
      let left : suc m - 1 ≡ m = omega arith in
      rw (forest_tree 0 t some, e, kids_all, tops, left, all, root) refl

  one_fits : root_statements t ≡ false → files_sound (forest 0 t) ≡ all_fit t 0 (length t / 24)
  unfolding files_sound files_top
  one_fits e =
      let all : span_of t / 24 ≡ length t / 24 = omega arith in
      let alone = forest_none (0 + span_of t / 24) (rest_of t) (omega (arith, length_rest t)) in
      let this = statement_is t 0 some (files_other t e) (λ j h g. top_root t e j) in
      rw (forest_tree 0 t some, e, alone) (and-true _ ∙ this ∙ ap (all_fit t 0) all)

  pub sound_fits : files_sound (forest 0 t) ≡ all_fit t 0 (length t / 24)
  sound_fits = go (root_statements t) refl
    where
      go : (b : Bool) → root_statements t ≡ b → files_sound (forest 0 t) ≡ all_fit t 0 (length t / 24)
      go true e = row_fits e (length t / 24 - 1) (omega arith)
      go false e = one_fits e

-- the file number among the other rules of a record
fifth : (a b c d f e : Bool) → (a && (b && (c && (d && (f && e))))) ≡ true → f ≡ true
fifth a b c d f e p = and_left f e (and_right d (f && e) (and_right c (d && (f && e))
    (and_right b (c && (d && (f && e))) (and_right a (b && (c && (d && (f && e)))) p))))

pub fields_file : (x : Context) (r : Node) → fields_sound x r ≡ true → file_sound x.files r.file ≡ true
unfolding fields_sound
fields_file x r e =
    fifth (leb 1 (class_of r.kind)) (leb r.detail (kind_of r.kind).details)
    (name_sound (kind_of r.kind).named x.names r.name_len r.name_start) (span_sound r.begin r.stop)
    (file_sound x.files r.file) (source_sound r.kind r.source r.name_len) e

pub node_file : (x : Context) (r : Node) (ks : Forest) → sound_node x r ks ≡ true
    → file_sound x.files r.file ≡ true
node_file x r ks e = fields_file x r (node_fields x r ks e)

-- a node that is sound with other numbers is sound where it has one of these
pub node_numbers : (m : ℕ) (f g : Range) (r : Node) (ks : Forest) → sound_node (context m f) r ks ≡ true
    → file_sound g r.file ≡ true → sound_node (context m g) r ks ≡ true
unfolding sound_node fields_sound
node_numbers m f g r ks e s = rw s (rw (node_file (context m f) r ks e) at e)

pub most_number : (f : Range) (n : ℕ) → file_sound f n ≡ true → n ≤ f.most
unfolding file_sound
most_number f n e = leb-true n f.most (and_right (leb f.least n) _ e)

-- a table of no record
module _ (t names : List ℕ) (short : length t < 24) where
  short_clean : first_unsound t names ≡ None
  unfolding first_unsound first_false
  short_clean = let no : length t / 24 ≡ 0 = omega arith in rw no refl

  short_files : files_sound (forest 0 t) ≡ true
  unfolding files_sound
  short_files = rw (forest_none 0 t short) refl

-- THEOREM: the file numbers of a table with no unsound record are sound down the tree
module _ (t names : List ℕ) (e : first_unsound t names ≡ None) where
  pub clean_fits : (j : ℕ) → j < length t / 24 → fits t j ≡ true
  unfolding record_sound context_of sound_at
  clean_fits j h = node_file (context_of t names j) (record_at t j) (forest (j + 1) (kids_of (drop (24 * j) t)))
      (and_right (if' (eqb j 0) (λ _. root_sound t) (λ _. true)) _ (record_clean t names e j h))

  pub clean_files : files_sound (forest 0 t) ≡ true
  clean_files = record_or_none t (short_files t names)
      (λ some. sound_fits t (root_covers t names e some) some
      ∙ each_fit t 0 (length t / 24) (λ j h g. clean_fits j (omega arith)))

-- THEOREM: and the other way about: where the root is sound, and each record but for its number, no record is unsound
-- where the numbers are sound down the tree
module _ (t names : List ℕ) (root : root_sound t ≡ true) (else : (i : ℕ) → i < length t / 24
    → sound_at (context (length names) any_file) i (drop (24 * i) t) ≡ true) where
  fits_clean : all_fit t 0 (length t / 24) ≡ true → first_unsound t names ≡ None
  unfolding first_unsound record_sound context_of sound_at
  fits_clean f = all_found (record_sound t names) (length t / 24) (λ j h. and_both _ _ (go (eqb j 0))
      (node_numbers (length names) any_file (files_of t j) (record_at t j) (forest (j + 1) (kids_of (drop (24 * j) t)))
      (else j h) (fit_each t 0 (length t / 24) f j (omega arith) (omega arith))))
    where
      go : (b : Bool) → if' b (λ _. root_sound t) (λ _. true) ≡ true
      go true = root
      go false = refl

  pub files_clean : files_sound (forest 0 t) ≡ true → first_unsound t names ≡ None
  files_clean s = record_or_none t (short_clean t names)
      (λ some. fits_clean (sym (sound_fits t (sound_covers t root) some) ∙ s))

  pub clean_exactly : (first_unsound t names ≡ None → files_sound (forest 0 t) ≡ true)
      × (files_sound (forest 0 t) ≡ true → first_unsound t names ≡ None)
  clean_exactly = (clean_files t names, files_clean)

-- LAW: in a table with no unsound record the records of a node's subtree have its number, but for a root Statements
module _ (t names : List ℕ) (e : first_unsound t names ≡ None) where
  -- a record has the number of the statement that it is in
  top_file : (j : ℕ) → j < length t / 24 → (record_at t j).file ≡ (record_at t (top_of t j)).file
  top_file j h = ⊎_elim
      (λ (l : j ≤ top_of t j). let at : top_of t j ≡ j = omega (arith, top_upto t j) in rw at refl)
      (λ (l : top_of t j < j). eqb-true (record_at t j).file (record_at t (top_of t j)).file
      (sym (under_is t (top_of t j) j l refl) ∙ clean_fits t names e j h))
      (le_or_lt j (top_of t j))

  -- which is 999 at most
  top_number : (k : ℕ) → top_of t k ≡ k → k < length t / 24 → (record_at t k).file ≤ 999
  top_number zero top h = go (root_statements t) refl
    where
      go : (b : Bool) → root_statements t ≡ b → (record_at t 0).file ≤ 999
      go true r = omega (arith, most_number _ _ (rw (files_root t r) at (clean_fits t names e 0 h)))
      go false r = omega (arith, most_number _ _ (rw (files_other t r) at (clean_fits t names e 0 h)))
  top_number (suc k) top h =
      omega (
        arith,
        most_number _ _
            (rw (files_top_lem t (suc k) (omega arith) top) at (clean_fits t names e (suc k) h)),
      )

  pub clean_number : (j : ℕ) → j < length t / 24 → (record_at t j).file ≤ 999
  clean_number j h = rw (top_file j h) (top_number (top_of t j) (top_self t j) (omega (arith, top_upto t j)))

  module _ (i : ℕ) (h : i < length t / 24) (no_row : i ≡ 0 → root_statements t ≡ false) where
    top_shared : (j : ℕ) → i ≤ j → j < i + size_of (drop (24 * i) t) → top_of t j ≡ top_of t i
    top_shared j from before = go (root_statements t) refl
      where
        inside : root_statements t ≡ true → 1 ≤ i → top_of t j ≡ top_of t i
        inside r past =
            let k : ℕ = top_of t i in
            let first : 1 ≤ k = top_past t r i past in
            let upto = top_upto t i in
            let reach = top_reach t i first in
            let size = here_size t names e k (omega arith) in
            let ends = nested t names e k (omega arith) i upto (omega arith) in
            top_within t k first (top_self t i) j (omega arith) (omega arith)

        go : (b : Bool) → root_statements t ≡ b → top_of t j ≡ top_of t i
        go false r = top_root t r j ∙ sym (top_root t r i)
        go true r = ⊎_elim
            (λ (l : i ≤ 0). clash r (no_row (omega arith)))
            (λ (l : 0 < i). inside r l)
            (le_or_lt i 0)

    pub subtree_file : (j : ℕ) → i ≤ j → j < i + size_of (drop (24 * i) t)
        → (record_at t j).file ≡ (record_at t i).file
    subtree_file j from before =
        let size = here_size t names e i h in
        top_file j (omega arith) ∙ rw (top_shared j from before) (sym (top_file i h))

  -- LAW: where the file numbers are all zero, the root is a Statements, and there is no other record
  module _ (some : 24 ≤ length t) (zeros : (j : ℕ) → j < length t / 24 → (record_at t j).file ≡ 0) where
    zero_number : (j : ℕ) → j < length t / 24 → files_of t j ≡ file_numbers → ⊥
    unfolding file_sound
    zero_number j h f =
        let fits = clean_fits t names e j h in
        let least = leb-true 1 (record_at t j).file (and_left _ _ (rw f at fits)) in
        omega (arith, zeros j h)

    pub zero_root : root_statements t ≡ true
    zero_root = go (root_statements t) refl
      where
        go : (b : Bool) → root_statements t ≡ b → root_statements t ≡ true
        go true r = r
        go false r = absurd (zero_number 0 (omega arith) (files_other t r))

    pub zero_length : length t ≡ 24
    zero_length = ⊎_elim
        (λ (l : length t ≤ 24). omega arith)
        (λ (l : 24 < length t). absurd (zero_number 1 (omega (arith, root_covers t names e some))
        (files_top_lem t 1 (omega arith) (top_first t zero_root))))
        (le_or_lt (length t) 24)
