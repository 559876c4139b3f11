-- Lists that keep the rules of the kinds have the form of a cut, and lists of that form keep them. The induction is on
-- the list, one law for each state, from the last to the first: after `**kwargs` nothing may follow (`last_rules`),
-- after a star ordinary parameters and perhaps `**kwargs` (`named_rules`), after `/` or without it anything of the
-- second part on (`either_rules`), and before `/` the first part, or there is no `/` at all (`pos_rules`, with
-- `slash_here` and `slash_later`). The way back is `rules_either` and `rules_pos`, with where the first `/` is
-- (`slash_at`, `none_either`). Assumes nothing.
use Rattle.std.specs.Prelude.{None, Some}
use mathlib.Core.Path.{◌≡◌, refl, ap}
use mathlib.Core.Bool.{Bool, true, false, ◌||◌}
use mathlib.Core.Logic.{◌⊎◌, inl, inr}
use mathlib.Core.List.{List, [], ◌∷◌, ◌++◌}
use Prim.Native.Nat.{ℕ, suc, ◌+◌, ◌≤◌}
use native.Mathlib.Omega.{arith}
use lib.ListN.{length}
use Rattle.fields.proofs.Basics.{never}
use Rattle.forest.specs.Forest.{Node}
use Rattle.deflist.specs.Written.{Name, Param, normal, no_args, slash, args, kwargs, kind_in}
use Rattle.deflist.specs.Unpack.{written_at, default_rule, is_slash, slash_from}
use Rattle.deflist.specs.declared.State.TheVariants.{Normal as BeforeSlash, SeenSlash, SeenStar, SeenStarStar}
use Rattle.deflist.specs.declared.Check.TheVariants.{Fine}
use Rattle.fields.specs.Choice.{if'}
use Rattle.deflist.specs.declared.Written.{Written}
use Rattle.deflist.proofs.Steps.{broken≢fine}
use Rattle.demand3.specs.Cut.{Ordinary, Star, no_star, bare, starred, Last, no_kwargs, with_kwargs, ordinary}
use Rattle.demand3.specs.Cut.{star_part, kwargs_part}
use Rattle.demand3.proofs.Walks.{Rules}

-- the default rule along ordinary parameters, where o says whether there was a default
abbrev pub Defaults : Bool → List Ordinary → Type 0
Defaults o [] = Unit {0}
Defaults o (q ∷ qs) = (default_rule o q.default ≡ Fine) × Defaults (o || q.default) qs

-- the star's part and `**kwargs`
abbrev pub tail : Star → Last → List Param
tail s k = star_part s ++ kwargs_part k

abbrev pub one : Node → Name → Bool → Ordinary
one r n d = record { node = r; name = n; default = d }

and_then : {p : Param} {l m : List Param} → l ≡ m → p ∷ l ≡ p ∷ m
and_then {p} e = ap (λ (x : List Param). p ∷ x) e

-- after `**kwargs` nothing
last_rules : (o : Bool) (l : List Param) → Rules SeenStarStar o l → l ≡ []
last_rules o [] r = refl
last_rules o (normal x n d ∷ ps) r = broken≢fine r.0
last_rules o (no_args x ∷ ps) r = broken≢fine r.0
last_rules o (slash x ∷ ps) r = broken≢fine r.0
last_rules o (args x n ∷ ps) r = broken≢fine r.0
last_rules o (kwargs x n ∷ ps) r = broken≢fine r.0

-- after a star ordinary parameters, then perhaps `**kwargs`
record AfterStar (l : List Param) : Type 0 where
  named : List Ordinary
  last : Last
  is : l ≡ ordinary named ++ kwargs_part last

named_rules : (o : Bool) (l : List Param) → Rules SeenStar o l → AfterStar l
named_rules o [] r = record { named = []; last = no_kwargs; is = refl }
named_rules o (normal x n d ∷ ps) r = let h = named_rules (o || d) ps r.1 in
    record { named = one x n d ∷ h.named; last = h.last; is = and_then h.is }
named_rules o (no_args x ∷ ps) r = broken≢fine r.0
named_rules o (slash x ∷ ps) r = broken≢fine r.0
named_rules o (args x n ∷ ps) r = broken≢fine r.0
named_rules o (kwargs x n ∷ ps) r =
    record { named = []; last = with_kwargs x n; is = and_then (last_rules o ps r.1) }

-- after `/`, or where there is none: the second part, a star with its part, and the last
pub record AfterSlash (o : Bool) (l : List Param) : Type 0 where
  pub middle : List Ordinary
  pub star : Star
  pub last : Last
  pub is : l ≡ ordinary middle ++ tail star last
  pub defaults : Defaults o middle

pub either_rules : (o : Bool) (l : List Param) → Rules SeenSlash o l → AfterSlash o l
either_rules o [] r = record { middle = []; star = no_star; last = no_kwargs; is = refl; defaults = tt }
either_rules o (normal x n d ∷ ps) r = let h = either_rules (o || d) ps r.1 in record {
  middle = one x n d ∷ h.middle;
  star = h.star;
  last = h.last;
  is = and_then h.is;
  defaults = (r.0, h.defaults);
}
either_rules o (no_args x ∷ ps) r = let h = named_rules o ps r.1 in
    record { middle = []; star = bare x h.named; last = h.last; is = and_then h.is; defaults = tt }
either_rules o (slash x ∷ ps) r = broken≢fine r.0
either_rules o (args x n ∷ ps) r = let h = named_rules o ps r.1 in
    record { middle = []; star = starred x n h.named; last = h.last; is = and_then h.is; defaults = tt }
either_rules o (kwargs x n ∷ ps) r = let e = and_then (last_rules o ps r.1) in
    record { middle = []; star = no_star; last = with_kwargs x n; is = e; defaults = tt }

-- a list without `/`, wherever it is counted from
abbrev pub NoSlash : List Param → Type 0
NoSlash l = (i : ℕ) → slash_from i l ≡ None

none_empty : NoSlash []
unfolding slash_from
none_empty i = refl

none_more_lem : (p : Param) (l : List Param) → is_slash (kind_in p) ≡ false → NoSlash l → NoSlash (p ∷ l)
unfolding slash_from
none_more_lem p l e h i = rw e (h (i + 1))

named_no_slash : (o : Bool) (l : List Param) → Rules SeenStar o l → NoSlash l
named_no_slash o [] r = none_empty
named_no_slash o (normal x n d ∷ ps) r = none_more_lem (normal x n d) ps refl (named_no_slash (o || d) ps r.1)
named_no_slash o (no_args x ∷ ps) r = broken≢fine r.0
named_no_slash o (slash x ∷ ps) r = broken≢fine r.0
named_no_slash o (args x n ∷ ps) r = broken≢fine r.0
named_no_slash o (kwargs x n ∷ ps) r = none_more_lem (kwargs x n) ps refl (rw (last_rules o ps r.1) none_empty)

-- before `/`: the list has the form with `/`, or it has none
pub record Slashed (o : Bool) (l : List Param) : Type 0 where
  pub before : List Ordinary
  pub mark : Node
  pub middle : List Ordinary
  pub star : Star
  pub last : Last
  pub is : l ≡ ordinary before ++ slash mark ∷ (ordinary middle ++ tail star last)
  pub defaults : Defaults o (before ++ middle)

-- the form with `/` begins with `/`, or with an ordinary parameter
slash_here : (o : Bool) (x : Node) (ps : List Param) → AfterSlash o ps → Slashed o (slash x ∷ ps)
slash_here o x ps h = record {
  before = [];
  mark = x;
  middle = h.middle;
  star = h.star;
  last = h.last;
  is = and_then h.is;
  defaults = h.defaults;
}

slash_later : (o : Bool) (x : Node) (n : Name) (d : Bool) (ps : List Param) → default_rule o d ≡ Fine
    → Slashed (o || d) ps → Slashed o (normal x n d ∷ ps)
slash_later o x n d ps fine h = record {
  before = one x n d ∷ h.before;
  mark = h.mark;
  middle = h.middle;
  star = h.star;
  last = h.last;
  is = and_then h.is;
  defaults = (fine, h.defaults);
}

pub pos_rules : (o : Bool) (l : List Param) → Rules BeforeSlash o l → Slashed o l ⊎ NoSlash l
pos_rules o [] r = inr none_empty
pos_rules o (normal x n d ∷ ps) r = go (pos_rules (o || d) ps r.1)
  where
    go : Slashed (o || d) ps ⊎ NoSlash ps → Slashed o (normal x n d ∷ ps) ⊎ NoSlash (normal x n d ∷ ps)
    go (inl h) = inl (slash_later o x n d ps r.0 h)
    go (inr e) = inr (none_more_lem (normal x n d) ps refl e)
pos_rules o (no_args x ∷ ps) r = inr (none_more_lem (no_args x) ps refl (named_no_slash o ps r.1))
pos_rules o (slash x ∷ ps) r = inl (slash_here o x ps (either_rules o ps r.1))
pos_rules o (args x n ∷ ps) r = inr (none_more_lem (args x n) ps refl (named_no_slash o ps r.1))
pos_rules o (kwargs x n ∷ ps) r = inr (none_more_lem (kwargs x n) ps refl (rw (last_rules o ps r.1) none_empty))

-- and back
rules_named : (o : Bool) (qs : List Ordinary) (k : Last) → Rules SeenStar o (ordinary qs ++ kwargs_part k)
rules_named o [] no_kwargs = tt
rules_named o [] (with_kwargs x n) = (refl, tt)
rules_named o (q ∷ qs) k = (refl, rules_named (o || q.default) qs k)

rules_tail : (o : Bool) (s : Star) (k : Last) → Rules SeenSlash o (tail s k)
rules_tail o no_star no_kwargs = tt
rules_tail o no_star (with_kwargs x n) = (refl, tt)
rules_tail o (bare x qs) k = (refl, rules_named o qs k)
rules_tail o (starred x n qs) k = (refl, rules_named o qs k)

pub rules_either : (o : Bool) (ms : List Ordinary) (s : Star) (k : Last) → Defaults o ms
    → Rules SeenSlash o (ordinary ms ++ tail s k)
rules_either o [] s k d = rules_tail o s k
rules_either o (m ∷ ms) s k d = (d.0, rules_either (o || m.default) ms s k d.1)

pub rules_pos : (o : Bool) (qs : List Ordinary) (x : Node) (ms : List Ordinary) (s : Star) (k : Last)
    → Defaults o (qs ++ ms) → Rules BeforeSlash o (ordinary qs ++ slash x ∷ (ordinary ms ++ tail s k))
rules_pos o [] x ms s k d = (refl, rules_either o ms s k d)
rules_pos o (q ∷ qs) x ms s k d = (d.0, rules_pos (o || q.default) qs x ms s k d.1)

-- the position of the first `/`
pub slash_at : (i : ℕ) (qs : List Ordinary) (x : Node) (l : List Param)
    → slash_from i (ordinary qs ++ slash x ∷ l) ≡ Some (written_at (i + length (ordinary qs)))
unfolding slash_from
slash_at i [] x l = let e : i + 0 ≡ i = omega arith in rw e refl
slash_at i (q ∷ qs) x l = let e : i + suc (length (ordinary qs)) ≡ i + 1 + length (ordinary qs) = omega arith in
    rw e (slash_at (i + 1) qs x l)

-- it is no earlier than the list is counted from
pub slash_from_lem : (i : ℕ) (l : List Param) {w : Written} → slash_from i l ≡ Some w → i ≤ w.0
unfolding slash_from
slash_from_lem i [] e = never (cc)
slash_from_lem i (p ∷ ps) {w} e = go (is_slash (kind_in p)) e (λ h. slash_from_lem (i + 1) ps h)
  where
    go : (b : Bool) → if' b (λ _. Some (written_at i)) (λ _. slash_from (i + 1) ps) ≡ Some w
        → (slash_from (i + 1) ps ≡ Some w → i + 1 ≤ w.0) → i ≤ w.0
    go true e f = let same : written_at i ≡ w = cc in rw (← same) (omega arith)
    go false e f = omega (arith, f e)

pub none_either : (ms : List Ordinary) (s : Star) (k : Last) → NoSlash (ordinary ms ++ tail s k)
none_either [] s k = none_tail s k
  where
    none_last : (k : Last) → NoSlash (kwargs_part k)
    none_last no_kwargs = none_empty
    none_last (with_kwargs x n) = none_more_lem (kwargs x n) [] refl none_empty

    none_named : (qs : List Ordinary) (k : Last) → NoSlash (ordinary qs ++ kwargs_part k)
    none_named [] k = none_last k
    none_named (q ∷ qs) k = none_more_lem (normal q.node q.name q.default) (ordinary qs ++ kwargs_part k) refl
        (none_named qs k)

    none_tail : (s : Star) (k : Last) → NoSlash (tail s k)
    none_tail no_star k = none_last k
    none_tail (bare x qs) k = none_more_lem (no_args x) (ordinary qs ++ kwargs_part k) refl (none_named qs k)
    none_tail (starred x n qs) k = none_more_lem (args x n) (ordinary qs ++ kwargs_part k) refl (none_named qs k)
none_either (m ∷ ms) s k = none_more_lem (normal m.node m.name m.default) (ordinary ms ++ tail s k) refl
    (none_either ms s k)
