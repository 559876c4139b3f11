-- What the walk of `unpack` leaves at the end of a cut's list, part by part: the counts (`counts_either`,
-- `counts_pos`), the position of the bare `*` (`star_either`, `star_pos`), the verdict on what follows it
-- (`finish_tail`), and the modes (`modes_either`, `modes_pos`). For each there is a law without `/` and one with it.
-- Ordinary parameters only add to the counts, by induction on them (`counts_ordinary` and its like); the star and
-- `**kwargs` are single steps, so they compute. Assumes nothing.
use Rattle.std.specs.Prelude.{None, Option, Some}
use Rattle.deflist.specs.declared.Written.{Written}
use mathlib.Core.Path.{◌≡◌, refl, ap, ◌∙◌}
use mathlib.Core.List.{List, [], ◌∷◌, ◌++◌}
use Prim.Native.Nat.{ℕ, suc, ◌+◌}
use native.Mathlib.Omega.{arith}
use lib.ListN.{length, replicate}
use lib.Seq.{drop-append_seam}
use mathlib.Core.Bool.{false}
use Rattle.fields.specs.Choice.{if'}
use Rattle.forest.specs.Forest.{Node}
use Rattle.table.specs.Numbers.{star_last, no_normal_after_star}
use Rattle.deflist.specs.Written.{Param, no_args, slash, kwargs}
use Rattle.deflist.specs.Unpack.{written_at, flat_at, seen_slash, seen_star, counts, count, modes_from, Outcome, accepted}
use Rattle.deflist.specs.Unpack.{refused, from_star, finish}
use Rattle.deflist.specs.declared.State.{State}
use Rattle.deflist.specs.declared.State.TheVariants.{Normal as BeforeSlash, SeenSlash, SeenStar, SeenStarStar}
use Rattle.deflist.specs.declared.Kind.TheVariants.{Normal}
use Rattle.deflist.specs.declared.Flat.{Flat}
use Rattle.deflist.specs.declared.Counts.{Counts}
use Rattle.demand3.specs.Cut.{Ordinary, Star, no_star, bare, starred, Last, no_kwargs, with_kwargs, after_star}
use Rattle.demand3.specs.Cut.{ordinary, kwargs_part, args_part}
use Rattle.demand3.proofs.Walks.{counts_from, star_from}
use Rattle.demand3.proofs.Shapes.{tail}

counts_path : {a b : Counts} → a.num_positional ≡ b.num_positional
    → a.num_positional_only ≡ b.num_positional_only → a.args ≡ b.args → a.kwargs ≡ b.kwargs
    → a.flat ≡ b.flat → a ≡ b
counts_path n o a k f = λ i. record {
  num_positional = n i;
  num_positional_only = o i;
  args = a i;
  kwargs = k i;
  flat = f i;
}

flat_path : (f : Flat) {n : ℕ} → f.0 ≡ n → f ≡ flat_at n
flat_path f e = λ i. record { 0 = e i }

-- n ordinary parameters more
abbrev add_positional : State → Flat → ℕ → Flat
add_positional s f n = if' (seen_star s) (λ _. f) (λ _. flat_at (f.0 + n))

abbrev many : State → Counts → ℕ → Counts
many s c n = counts (add_positional s c.num_positional n) c.num_positional_only c.args c.kwargs
    (flat_at (c.flat.0 + n))

add_zero : (s : State) (f : Flat) → f ≡ add_positional s f 0
add_zero BeforeSlash f = flat_path f (omega arith)
add_zero SeenSlash f = flat_path f (omega arith)
add_zero SeenStar f = refl
add_zero SeenStarStar f = refl

add_suc : (s : State) (f : Flat) (n : ℕ) → add_positional s (if' (seen_star s) (λ _. f) (λ _. flat_at (f.0 + 1))) n
    ≡ add_positional s f (suc n)
add_suc BeforeSlash f n = ap flat_at (omega arith)
add_suc SeenSlash f n = ap flat_at (omega arith)
add_suc SeenStar f n = refl
add_suc SeenStarStar f n = refl

counts_ordinary : (s : State) (c : Counts) (qs : List Ordinary) (l : List Param)
    → counts_from s c (ordinary qs ++ l) ≡ counts_from s (many s c (length (ordinary qs))) l
counts_ordinary s c [] l = ap (λ (x : Counts). counts_from s x l)
    (counts_path (add_zero s c.num_positional) refl refl refl (flat_path c.flat (omega arith)))
counts_ordinary s c (q ∷ qs) l =
    counts_ordinary s (count s c (Normal false)) qs l ∙ ap (λ (x : Counts). counts_from s x l)
    (counts_path (add_suc s c.num_positional (length (ordinary qs))) refl refl refl
    (ap flat_at (omega arith)))

-- the places of `*args` and `**kwargs` in the flat list
abbrev pub args_place : Star → ℕ → Option Flat
args_place no_star m = None
args_place (bare r qs) m = None
args_place (starred r n qs) m = Some (flat_at m)

abbrev pub kwargs_place : Last → ℕ → Option Flat
kwargs_place no_kwargs m = None
kwargs_place (with_kwargs r n) m = Some (flat_at m)

-- where m are counted, nothing but ordinary parameters
abbrev pub plain : ℕ → Flat → Counts
plain m only = counts (flat_at m) only None None (flat_at m)

-- the same with a star's part and `**kwargs`
abbrev pub with_tail : ℕ → Flat → Star → Last → Counts
with_tail m only s k =
    let n = m + length (args_part s) + length (ordinary (after_star s)) in
    counts (flat_at m) only (args_place s m) (kwargs_place k n) (flat_at (n + length (kwargs_part k)))

counts_tail : (m : ℕ) (only : Flat) (s : Star) (k : Last)
    → counts_from SeenSlash (plain m only) (tail s k) ≡ with_tail m only s k
counts_tail m only no_star no_kwargs = counts_path refl refl refl refl (ap flat_at (omega arith))
counts_tail m only no_star (with_kwargs r n) = counts_path refl refl refl
    (ap (λ (x : ℕ). Some (flat_at x)) (omega arith)) (ap flat_at (omega arith))
counts_tail m only (bare x qs) no_kwargs = counts_ordinary SeenStar _ qs []
    ∙ counts_path refl refl refl refl (ap flat_at (omega arith))
counts_tail m only (bare x qs) (with_kwargs r n) =
    counts_ordinary SeenStar _ qs (kwargs r n ∷ [])
    ∙ counts_path refl refl refl (ap (λ (x : ℕ). Some (flat_at x)) (omega arith)) (ap flat_at (omega arith))
counts_tail m only (starred x y qs) no_kwargs = counts_ordinary SeenStar _ qs []
    ∙ counts_path refl refl refl refl (ap flat_at (omega arith))
counts_tail m only (starred x y qs) (with_kwargs r n) =
    counts_ordinary SeenStar _ qs (kwargs r n ∷ [])
    ∙ counts_path refl refl refl (ap (λ (x : ℕ). Some (flat_at x)) (omega arith)) (ap flat_at (omega arith))

-- LAW: what is counted without `/`, and with it
pub counts_either : (m : ℕ) (only : Flat) (ms : List Ordinary) (s : Star) (k : Last)
    → counts_from SeenSlash (plain m only) (ordinary ms ++ tail s k) ≡ with_tail (m + length (ordinary ms)) only s k
counts_either m only ms s k = counts_ordinary SeenSlash (plain m only) ms (tail s k)
    ∙ counts_tail (m + length (ordinary ms)) only s k

pub counts_pos : (only : Flat) (qs : List Ordinary) (x : Node) (ms : List Ordinary) (s : Star) (k : Last)
    → counts_from BeforeSlash (plain 0 only) (ordinary qs ++ slash x ∷ (ordinary ms ++ tail s k))
    ≡ with_tail (length (ordinary qs) + length (ordinary ms)) only s k
counts_pos only qs x ms s k =
    let none_before : 0 + length (ordinary qs) ≡ length (ordinary qs) = omega arith in
    counts_ordinary BeforeSlash (plain 0 only) qs _ ∙ counts_either (0 + length (ordinary qs)) only ms s k
    ∙ ap (λ (y : ℕ). with_tail (y + length (ordinary ms)) only s k) none_before

-- the position of the `*`
abbrev pub star_place : Star → ℕ → Option Written
star_place no_star i = None
star_place (bare r qs) i = Some (written_at i)
star_place (starred r n qs) i = None

star_ordinary : (star : Option Written) (i : ℕ) (qs : List Ordinary) (l : List Param)
    → star_from star i (ordinary qs ++ l) ≡ star_from star (i + length (ordinary qs)) l
star_ordinary star i [] l = ap (λ (j : ℕ). star_from star j l) (omega arith)
star_ordinary star i (q ∷ qs) l = star_ordinary star (i + 1) qs l ∙ ap (λ (j : ℕ). star_from star j l) (omega arith)

star_named : (star : Option Written) (i : ℕ) (qs : List Ordinary) (k : Last)
    → star_from star i (ordinary qs ++ kwargs_part k) ≡ star
star_named star i [] no_kwargs = refl
star_named star i [] (with_kwargs r n) = refl
star_named star i (q ∷ qs) k = star_named star (i + 1) qs k

star_tail : (i : ℕ) (s : Star) (k : Last) → star_from None i (tail s k) ≡ star_place s i
star_tail i no_star k = star_named None i [] k
star_tail i (bare r qs) k = star_named (Some (written_at i)) (i + 1) qs k
star_tail i (starred r n qs) k = star_named None (i + 1) qs k

pub star_either : (i : ℕ) (ms : List Ordinary) (s : Star) (k : Last)
    → star_from None i (ordinary ms ++ tail s k) ≡ star_place s (i + length (ordinary ms))
star_either i ms s k = star_ordinary None i ms (tail s k) ∙ star_tail (i + length (ordinary ms)) s k

pub star_pos : (qs : List Ordinary) (x : Node) (ms : List Ordinary) (s : Star) (k : Last)
    → star_from None 0 (ordinary qs ++ slash x ∷ (ordinary ms ++ tail s k))
    ≡ star_place s (length (ordinary qs) + 1 + length (ordinary ms))
star_pos qs x ms s k =
    star_ordinary None 0 qs _ ∙ star_either (0 + length (ordinary qs) + 1) ms s k
    ∙ ap (star_place s) (omega arith)

-- what a bare `*` with nothing after it, or only `**kwargs`, gives
abbrev pub star_verdict : Star → Last → Outcome → Outcome
star_verdict no_star k o = o
star_verdict (bare r []) no_kwargs o = refused star_last r
star_verdict (bare r []) (with_kwargs x n) o = refused no_normal_after_star x
star_verdict (bare r (q ∷ qs)) k o = o
star_verdict (starred r n qs) k o = o

from_star_lem : (r : Node) (qs : List Ordinary) (k : Last) (o : Outcome)
    → from_star (no_args r ∷ (ordinary qs ++ kwargs_part k)) o ≡ star_verdict (bare r qs) k o
from_star_lem r [] no_kwargs o = refl
from_star_lem r [] (with_kwargs x n) o = refl
from_star_lem r (q ∷ qs) k o = refl

-- LAW: the end of a walk over what is before the star, and the star's part
pub finish_tail : (front : List Param) (s : Star) (k : Last) (c : Counts)
    → finish (front ++ tail s k) (star_place s (length front)) c ≡ star_verdict s k (accepted c)
unfolding finish
finish_tail front no_star k c = refl
finish_tail front (bare r qs) k c = rw (drop-append_seam front (no_args r ∷ (ordinary qs ++ kwargs_part k)))
    (from_star_lem r qs k (accepted c))
finish_tail front (starred r n qs) k c = refl

-- the modes of the parts
abbrev ordinary_mode : State → ℕ
ordinary_mode s = if' (seen_slash s) (λ _. if' (seen_star s) (λ _. 3) (λ _. 2)) (λ _. 1)

modes_ordinary : (s : State) (qs : List Ordinary) (l : List Param)
    → modes_from s (ordinary qs ++ l) ≡ replicate (length (ordinary qs)) (ordinary_mode s) ++ modes_from s l
unfolding modes_from
modes_ordinary s [] l = refl
modes_ordinary s (q ∷ qs) l = ap (λ (x : List ℕ). ordinary_mode s ∷ x) (modes_ordinary s qs l)

modes_last : (s : State) (k : Last) → modes_from s (kwargs_part k) ≡ replicate (length (kwargs_part k)) 5
unfolding modes_from
modes_last s no_kwargs = refl
modes_last s (with_kwargs r n) = refl

modes_tail : (s : Star) (k : Last) → modes_from SeenSlash (tail s k) ≡ replicate (length (args_part s)) 4
    ++ (replicate (length (ordinary (after_star s))) 3 ++ replicate (length (kwargs_part k)) 5)
unfolding modes_from
modes_tail no_star k = modes_last SeenSlash k
modes_tail (bare r qs) k = modes_ordinary SeenStar qs (kwargs_part k)
    ∙ ap (λ (x : List ℕ). replicate (length (ordinary qs)) 3 ++ x) (modes_last SeenStar k)
modes_tail (starred r n qs) k = ap (λ (x : List ℕ). 4 ∷ x)
    (modes_ordinary SeenStar qs (kwargs_part k)
    ∙ ap (λ (x : List ℕ). replicate (length (ordinary qs)) 3 ++ x) (modes_last SeenStar k))

-- LAW: the modes without `/`, and with it
pub modes_either : (ms : List Ordinary) (s : Star) (k : Last)
    → modes_from SeenSlash (ordinary ms ++ tail s k) ≡ replicate (length (ordinary ms)) 2
    ++ (replicate (length (args_part s)) 4
    ++ (replicate (length (ordinary (after_star s))) 3 ++ replicate (length (kwargs_part k)) 5))
modes_either ms s k = modes_ordinary SeenSlash ms (tail s k)
    ∙ ap (λ (x : List ℕ). replicate (length (ordinary ms)) 2 ++ x) (modes_tail s k)

pub modes_pos : (qs : List Ordinary) (x : Node) (ms : List Ordinary) (s : Star) (k : Last)
    → modes_from BeforeSlash (ordinary qs ++ slash x ∷ (ordinary ms ++ tail s k))
    ≡ replicate (length (ordinary qs)) 1
    ++ (replicate (length (ordinary ms)) 2
    ++ (replicate (length (args_part s)) 4
    ++ (replicate (length (ordinary (after_star s))) 3 ++ replicate (length (kwargs_part k)) 5)))
unfolding modes_from
modes_pos qs x ms s k = modes_ordinary BeforeSlash qs _
    ∙ ap (λ (y : List ℕ). replicate (length (ordinary qs)) 1 ++ y)
    (modes_slash x (ordinary ms ++ tail s k) ∙ modes_either ms s k)
  where
    modes_slash : (x : Node) (l : List Param) → modes_from BeforeSlash (slash x ∷ l) ≡ modes_from SeenSlash l
    modes_slash x l = refl
