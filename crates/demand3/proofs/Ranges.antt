-- The five ranges of a cut. They are the values that the answer of `unpack` has (`cut_values_lem`). The flat list is
-- the five parts one after another, marks left out (`flat_join`; inductions on the parts), so each range cuts its own
-- part out of it (`cut_parts`). Each range begins where the one before it ends (`ranges_follow`), so every index
-- below the flat count is in exactly one of them (`ranges_cover`: count the ranges that hold it, from the left). The
-- modes are runs of equal numbers in the same order, so each index has the mode of its range (`modes_by_range`).
-- Assumes nothing.
use mathlib.Core.Path.{◌≡◌, refl, ap, ap₂, ◌∙◌}
use mathlib.Core.Bool.{Bool, true, false, ◌&&◌}
use mathlib.Core.List.{List, [], ◌∷◌, ◌++◌, append_assoc, append-nil}
use Prim.Native.Nat.{ℕ, ◌+◌, ◌-◌, ◌<◌, ◌≤◌}
use native.Mathlib.Omega.{arith}
use lib.ListN.{length, get_or, replicate, length-append, length-replicate, get_or-append}
use lib.ListN.{get_or-replicate}
use lib.Seq.{get_or-append-add, drop-append_seam, take-append_seam}
use lib.Dec.{leb, ltb}
use borrow.Author.Tests.{leb-true, leb-false, ltb-true, ltb-false, lt-ltb, le-ltb}
use Rattle.fields.specs.Choice.{if'}
use Rattle.deflist.specs.Written.{Param, normal, no_args, slash, args, kwargs}
use Rattle.parameters.specs.Indices.{range, place_range, place_of, values_of, counted_of}
use Rattle.demand3.specs.Cut.{Ordinary, Before, no_slash, up_to_slash, Star, no_star, bare, starred, Last}
use Rattle.demand3.specs.Cut.{no_kwargs, with_kwargs, Cut, firsts, after_star, ordinary, slash_part, star_part}
use Rattle.demand3.specs.Cut.{kwargs_part, join, args_part, Parts, parts_of, flat_list, ranges_of}
use Rattle.demand3.specs.Cut.{cut_ranges, slice, holds, holders, cut_values, part_modes, InRange}
use Rattle.demand3.specs.Cut.{ByRange, Follow, CutBy}
use Rattle.demand3.proofs.Counting.{args_place, kwargs_place}
use Rattle.demand3.proofs.Cuts.{cut_counts}

-- the places of `*args` and `**kwargs` as ranges
args_from : (s : Star) (m : ℕ) → (place_range (place_of (args_place s m)) m).from ≡ m
args_from no_star m = refl
args_from (bare r qs) m = refl
args_from (starred r n qs) m = refl

args_upto : (s : Star) (m : ℕ) → (place_range (place_of (args_place s m)) m).upto ≡ m + length (args_part s)
args_upto no_star m = omega arith
args_upto (bare r qs) m = omega arith
args_upto (starred r n qs) m = refl

kwargs_from : (k : Last) (m : ℕ) → (place_range (place_of (kwargs_place k m)) (m + length (kwargs_part k))).from ≡ m
kwargs_from no_kwargs m = omega arith
kwargs_from (with_kwargs r n) m = refl

kwargs_upto : (k : Last) (m : ℕ) → (place_range (place_of (kwargs_place k m)) (m + length (kwargs_part k))).upto ≡ m
    + length (kwargs_part k)
kwargs_upto no_kwargs m = refl
kwargs_upto (with_kwargs r n) m = refl

-- LAW: the values of what a cut counts are the cut's ranges
pub cut_values_lem : (c : Cut) → values_of (counted_of (cut_counts c)) ≡ cut_values c
unfolding counted_of
cut_values_lem c =
    let b = length (ordinary (firsts c.before)) + length (ordinary c.middle) in
    let n = b + length (args_part c.star) + length (ordinary (after_star c.star)) in
    rw (args_from c.star b, args_upto c.star b, kwargs_from c.last n, kwargs_upto c.last n) refl

-- the flat list is the five parts, one after another
flat_append : (l m : List Param) → flat_list (l ++ m) ≡ flat_list l ++ flat_list m
flat_append [] m = refl
flat_append (normal r n d ∷ ps) m = ap (λ (x : List Param). normal r n d ∷ x) (flat_append ps m)
flat_append (no_args r ∷ ps) m = flat_append ps m
flat_append (slash r ∷ ps) m = flat_append ps m
flat_append (args r n ∷ ps) m = ap (λ (x : List Param). args r n ∷ x) (flat_append ps m)
flat_append (kwargs r n ∷ ps) m = ap (λ (x : List Param). kwargs r n ∷ x) (flat_append ps m)

flat_ordinary : (qs : List Ordinary) → flat_list (ordinary qs) ≡ ordinary qs
flat_ordinary [] = refl
flat_ordinary (q ∷ qs) = ap (λ (x : List Param). normal q.node q.name q.default ∷ x) (flat_ordinary qs)

flat_slash : (b : Before) → flat_list (slash_part b) ≡ ordinary (firsts b)
flat_slash no_slash = refl
flat_slash (up_to_slash qs r) = flat_append (ordinary qs) (slash r ∷ []) ∙ append-nil (flat_list (ordinary qs))
    ∙ flat_ordinary qs

flat_star : (s : Star) → flat_list (star_part s) ≡ args_part s ++ ordinary (after_star s)
flat_star no_star = refl
flat_star (bare r qs) = flat_ordinary qs
flat_star (starred r n qs) = ap (λ (x : List Param). args r n ∷ x) (flat_ordinary qs)

flat_last : (k : Last) → flat_list (kwargs_part k) ≡ kwargs_part k
flat_last no_kwargs = refl
flat_last (with_kwargs r n) = refl

abbrev joined : Parts → List Param
joined p = p.pos_only ++ (p.pos_or_named ++ (p.args ++ (p.named_only ++ p.kwargs)))

flat_join : (c : Cut) → flat_list (join c) ≡ joined (parts_of c)
flat_join c =
    flat_append (slash_part c.before) _
    ∙ ap₂ ◌++◌ (flat_slash c.before)
    (flat_append (ordinary c.middle) _
    ∙ ap₂ ◌++◌ (flat_ordinary c.middle)
    (flat_append (star_part c.star) (kwargs_part c.last)
    ∙ ap₂ ◌++◌ (flat_star c.star) (flat_last c.last)
    ∙ append_assoc (args_part c.star) (ordinary (after_star c.star)) (kwargs_part c.last)))

-- a part in the middle of a list
slice_mid : (pre x post : List Param) (a : ℕ) → length pre ≡ a
    → slice (range a (a + length x)) (pre ++ (x ++ post)) ≡ x
slice_mid pre x post a e =
    let long : a + length x - a ≡ length x = omega arith in
    rw (long, ← e, drop-append_seam pre (x ++ post)) (take-append_seam x post)

slice_in : (l pre x post : List Param) (a : ℕ) → l ≡ pre ++ (x ++ post) → length pre ≡ a
    → slice (range a (a + length x)) l ≡ x
slice_in l pre x post a e g = ap (slice (range a (a + length x))) e ∙ slice_mid pre x post a g

module _ (p : Parts) where
  abbrev A : List Param
  A = p.pos_only

  abbrev B : List Param
  B = p.pos_or_named

  abbrev S : List Param
  S = p.args

  abbrev N : List Param
  N = p.named_only

  abbrev K : List Param
  K = p.kwargs

  parts_cut : CutBy (ranges_of p) (joined p) p
  parts_cut =
      let none_before : 0 + length A ≡ length A = omega arith in
      record {
        pos_only = rw none_before at (slice_in (joined p) [] A (B ++ (S ++ (N ++ K))) 0 refl refl);
        pos_or_named = slice_in (joined p) A B (S ++ (N ++ K)) (length A) refl refl;
        args = slice_in (joined p) (A ++ B) S (N ++ K) (length A + length B) (simp append_assoc)
            (simp length-append);
        named_only = slice_in (joined p) (A ++ (B ++ S)) N K (length A + length B + length S) (simp append_assoc)
            (simp length-append (omega arith));
        kwargs = slice_in (joined p) (A ++ (B ++ (S ++ N))) K
            [] (length A + length B + length S + length N) (simp (append_assoc, append-nil))
            (simp length-append (omega arith));
        all = simp length-append (omega arith);
      }

  -- LAW: the ranges follow one another
  pub ranges_follow : Follow (ranges_of p) (ranges_of p).kwargs.upto
  ranges_follow = omega arith

-- LAW: the ranges cut the flat list into the cut's parts
pub cut_parts : (c : Cut) → CutBy (cut_ranges c) (flat_list (join c)) (parts_of c)
cut_parts c = rw (flat_join c) (parts_cut (parts_of c))

-- an index below a bound
abbrev below : ℕ → ℕ → ℕ
below b i = if' (ltb i b) (λ _. 1) (λ _. 0)

holds_below : (a b i : ℕ) → a ≤ b → holds (range a b) i + below a i ≡ below b i
holds_below a b i h = go (leb a i) (ltb i b) (ltb i a) refl refl refl
  where
    go : (x y z : Bool) → leb a i ≡ x → ltb i b ≡ y → ltb i a ≡ z
        → if' (x && y) (λ _. 1) (λ _. 0) + if' z (λ _. 1) (λ _. 0) ≡ if' y (λ _. 1) (λ _. 0)
    go true true true e f g = absurd (omega (arith, leb-true a i e, ltb-true i a g))
    go true true false e f g = refl
    go true false true e f g = absurd (omega (arith, leb-true a i e, ltb-true i a g))
    go true false false e f g = refl
    go false true true e f g = refl
    go false true false e f g = absurd (omega (arith, leb-false a i e, ltb-false i a g))
    go false false true e f g = absurd (omega (arith, ltb-false i b f, ltb-true i a g))
    go false false false e f g = refl

-- LAW: the ranges cover 0 to the flat count once
pub ranges_cover : (p : Parts) (i : ℕ) → i < (ranges_of p).kwargs.upto → holders (ranges_of p) i ≡ 1
ranges_cover p i h =
    let a = length p.pos_only in
    let b = a + length p.pos_or_named in
    let s = b + length p.args in
    let n = s + length p.named_only in
    let k = n + length p.kwargs in
    let none : below 0 i ≡ 0 = rw (le-ltb i 0 (omega arith)) refl in
    let all : below k i ≡ 1 = rw (lt-ltb i k h) refl in
    omega (
      arith,
      holds_below 0 a i (omega arith),
      holds_below a b i (omega arith),
      holds_below b s i (omega arith),
      holds_below s n i (omega arith),
      holds_below n k i (omega arith),
    )

-- a run of equal modes in the middle of a list
mid : (pre : List ℕ) (n v : ℕ) (post : List ℕ) (i : ℕ) → length pre ≤ i → i < length pre + n
    → get_or (pre ++ (replicate n v ++ post)) i 0 ≡ v
mid pre n v post i h g =
    let k = i - length pre in
    let e : i ≡ length pre + k = omega arith in
    let k< : k < n = omega arith in
    ap (λ (x : ℕ). get_or (pre ++ (replicate n v ++ post)) x 0) e
    ∙ get_or-append-add pre (replicate n v ++ post) k 0
    ∙ get_or-append (replicate n v) post 0 k (rw length-replicate k<)
    ∙ get_or-replicate n k v 0 k<

mid_in : (pre : List ℕ) (n v : ℕ) (post ms : List ℕ) (a : ℕ) → ms ≡ pre ++ (replicate n v ++ post) → length pre ≡ a
    → InRange (range a (a + n)) v ms
mid_in pre n v post ms a e q i h g = ap (λ (x : List ℕ). get_or x i 0) e
    ∙ mid pre n v post i (omega arith) (omega arith)

pub modes_length : (p : Parts) → length (part_modes p) ≡ (ranges_of p).kwargs.upto
modes_length p = simp (length-append, length-replicate) (omega arith)

-- LAW: where the modes are at the front of a buffer, each flat parameter's mode is its range's
module _ (p : Parts) (rest : List ℕ) where
  abbrev a : ℕ
  a = length p.pos_only

  abbrev b : ℕ
  b = length p.pos_or_named

  abbrev s : ℕ
  s = length p.args

  abbrev n : ℕ
  n = length p.named_only

  abbrev k : ℕ
  k = length p.kwargs

  abbrev ones : List ℕ
  ones = replicate a 1

  abbrev twos : List ℕ
  twos = replicate b 2

  abbrev fours : List ℕ
  fours = replicate s 4

  abbrev threes : List ℕ
  threes = replicate n 3

  abbrev fives : List ℕ
  fives = replicate k 5

  pub modes_by_range : ByRange (ranges_of p) (part_modes p ++ rest)
  modes_by_range = let ms : List ℕ = part_modes p ++ rest in record {
    pos_only = λ i h g. mid_in [] a 1 (twos ++ (fours ++ (threes ++ (fives ++ rest)))) ms 0 (simp append_assoc) refl i h
        (omega arith);
    pos_or_named = mid_in ones b 2 (fours ++ (threes ++ (fives ++ rest))) ms a (simp append_assoc)
        (length-replicate a 1);
    args = mid_in (ones ++ twos) s 4 (threes ++ (fives ++ rest)) ms (a + b) (simp append_assoc)
        (simp (length-append, length-replicate));
    named_only = mid_in (ones ++ (twos ++ fours)) n 3 (fives ++ rest) ms (a + b + s) (simp append_assoc)
        (simp (length-append, length-replicate) (omega arith));
    kwargs = mid_in (ones ++ (twos ++ (fours ++ threes))) k 5 rest ms (a + b + s + n) (simp append_assoc)
        (simp (length-append, length-replicate) (omega arith));
  }
