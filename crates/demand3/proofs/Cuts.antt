-- A list is accepted exactly when it has a good cut. From right to left (`cut_accepted`): a cut's list keeps the rules
-- (Shapes) and repeats no name (Names), so the walk goes to its end (Walks), where the counts are the cut's (Counting).
-- From left to right (`accepted_cut`): an accepted list keeps the rules, so it has the form of a cut (`loose_cut`), and
-- what follows the `*` is then as a good cut has it (`good_star`). The cut is unique because it can be read off the
-- list: `cut_of (join c) ≡ c`. No induction here; cite `cut_accepted`, `accepted_cut`, `cut_modes`,
-- `join_injective`.
-- Assumes nothing.
use Rattle.std.specs.Prelude.{None, Option, Some}
use mathlib.Core.Path.{◌≡◌, refl, sym, ap, ap₂, ◌∙◌, subst}
use mathlib.Core.Bool.{Bool, true, false}
use mathlib.Core.Logic.{◌⊎◌, inl, inr}
use mathlib.Core.List.{List, [], ◌∷◌, ◌++◌, append_assoc}
use Prim.Native.Nat.{ℕ, ◌+◌, ◌<◌}
use native.Mathlib.Omega.{arith}
use lib.ListN.{length, length-append}
use borrow.Author.Tests.{ne_eqb}
use Rattle.fields.proofs.Basics.{clash, never}
use Rattle.forest.specs.Forest.{Node}
use Rattle.deflist.specs.Written.{Param, normal, no_args, slash, args, kwargs, kind_in}
use Rattle.deflist.specs.Unpack.{written_at, flat_at, is_slash, slash_from, first_slash, positional_only, first_state}
use Rattle.deflist.specs.Unpack.{start, finish, Outcome, accepted, run, unpack, modes_from, modes}
use Rattle.deflist.specs.declared.State.{State}
use Rattle.deflist.specs.declared.State.TheVariants.{Normal as BeforeSlash, SeenSlash}
use Rattle.deflist.specs.declared.Written.{Written}
use Rattle.deflist.specs.declared.Flat.{Flat}
use Rattle.deflist.specs.declared.Counts.{Counts}
use Rattle.deflist.proofs.Steps.{clear_start}
use Rattle.deflist.proofs.Theorems.{refused≢accepted}
use Rattle.demand3.specs.Cut.{Ordinary, Before, no_slash, up_to_slash, Star, no_star, bare, starred, Last}
use Rattle.demand3.specs.Cut.{no_kwargs, with_kwargs, Cut, firsts, ordinary, slash_part}
use Rattle.demand3.specs.Cut.{kwargs_part, join, SlashGood, StarGood, Good}
use Rattle.demand3.specs.Cut.{parts_of, part_modes}
use Rattle.demand3.proofs.Walks.{Rules, Fresh, counts_from, star_from, run_accepted, run_finished}
use Rattle.demand3.proofs.Shapes.{Defaults, tail, either_rules, NoSlash, Slashed, pos_rules, rules_either}
use Rattle.demand3.proofs.Shapes.{AfterSlash, rules_pos, slash_at, slash_from_lem, none_either}
use Rattle.demand3.proofs.Names.{fresh_iff, defaults_iff}
use Rattle.demand3.proofs.Counting.{plain, with_tail, counts_either, counts_pos, star_place, star_either}
use Rattle.demand3.proofs.Counting.{star_pos, star_verdict, finish_tail, modes_either, modes_pos}

-- a list does not begin with `/`
abbrev Heads : List Param → Type 0
Heads [] = Unit {0}
Heads (p ∷ ps) = is_slash (kind_in p) ≡ false

heads_none : (l : List Param) → NoSlash l → Heads l
unfolding slash_from
heads_none [] h = tt
heads_none (p ∷ ps) h = go (is_slash (kind_in p)) refl
  where
    go : (b : Bool) → is_slash (kind_in p) ≡ b → b ≡ false
    go true e = let z : Some (written_at 0) ≡ None = rw e at (h 0) in let y : ◌≡◌ {A = ℕ} 0 1 = cc in
        absurd (omega arith)
    go false e = refl

empty_slash : first_slash [] ≡ None
unfolding slash_from
empty_slash = refl

-- past 10, unpack is the walk
unpack_walk : (l : List Param) → Heads l → unpack l ≡ run [] (start (positional_only (first_slash l))) l
unfolding unpack
unpack_walk [] h = rw empty_slash refl
unpack_walk (p ∷ ps) h = rw h refl

accepted_heads : (l : List Param) {c : Counts} → unpack l ≡ accepted c → Heads l
unfolding unpack
accepted_heads [] h = tt
accepted_heads (p ∷ ps) h = go (is_slash (kind_in p)) refl
  where
    go : (b : Bool) → is_slash (kind_in p) ≡ b → b ≡ false
    go true e = refused≢accepted (rw e at h)
    go false e = refl

-- the walk from its start
module _ (l : List Param) (only : Flat) (s : State) (first : first_state only ≡ s) where
  start_finished : Rules s false l → Fresh [] l
      → run [] (start only) l ≡ finish l (star_from None 0 l) (counts_from s (plain 0 only) l)
  unfolding start
  start_finished r f = run_finished [] (start only) l (clear_start only) (rw first r) f
      ∙ ap (λ (x : State). finish l (star_from None 0 l) (counts_from x (plain 0 only) l)) first

  start_accepted : {c : Counts} → run [] (start only) l ≡ accepted c → Rules s false l × Fresh [] l
  unfolding start
  start_accepted h =
      let r = run_accepted [] (start only) l (clear_start only) h in
      (rw first at r.rules, r.fresh)

first_some : (n : ℕ) → 0 < n → first_state (flat_at n) ≡ BeforeSlash
first_some n h = rw (ne_eqb n 0 (λ e. omega arith)) refl

-- what a cut counts
abbrev pub cut_counts : Cut → Counts
cut_counts c = with_tail (length (ordinary (firsts c.before)) + length (ordinary c.middle))
    (flat_at (length (ordinary (firsts c.before)))) c.star c.last

abbrev verdict : Cut → Outcome
verdict c = star_verdict c.star c.last (accepted (cut_counts c))

unpack_none : (ms : List Ordinary) (s : Star) (k : Last) → Fresh [] (ordinary ms ++ tail s k) → Defaults false ms
    → unpack (ordinary ms ++ tail s k) ≡ verdict (record { before = no_slash; middle = ms; star = s; last = k })
unpack_none ms s k f d =
    let l = ordinary ms ++ tail s k in
    let none = none_either ms s k in
    let zero-before : 0 + length (ordinary ms) ≡ length (ordinary ms) = omega arith in
    unpack_walk l (heads_none l none)
    ∙ ap (λ (x : Option Written). run [] (start (positional_only x)) l) (none 0)
    ∙ start_finished l (flat_at 0) SeenSlash refl (rules_either false ms s k d) f
    ∙ ap₂ (finish l) (star_either 0 ms s k ∙ ap (star_place s) zero-before) (counts_either 0 (flat_at 0) ms s k)
    ∙ finish_tail (ordinary ms) s k _

pub slash_form : (qs : List Ordinary) (x : Node) (l : List Param)
    → (ordinary qs ++ slash x ∷ []) ++ l ≡ ordinary qs ++ slash x ∷ l
slash_form qs x l = append_assoc (ordinary qs) (slash x ∷ []) l

unpack_some : (q : Ordinary) (qs : List Ordinary) (x : Node) (ms : List Ordinary) (s : Star) (k : Last)
    → Fresh [] (ordinary (q ∷ qs) ++ slash x ∷ (ordinary ms ++ tail s k)) → Defaults false ((q ∷ qs) ++ ms)
    → unpack (ordinary (q ∷ qs) ++ slash x ∷ (ordinary ms ++ tail s k))
    ≡ verdict (record { before = up_to_slash (q ∷ qs) x; middle = ms; star = s; last = k })
unpack_some q qs x ms s k f d =
    let firstOnes = ordinary (q ∷ qs) in
    let n = length firstOnes in
    let l = firstOnes ++ slash x ∷ (ordinary ms ++ tail s k) in
    let front = (firstOnes ++ slash x ∷ []) ++ ordinary ms in
    let zero-before : 0 + n ≡ n = omega arith in
    let whole : l ≡ front ++ tail s k = sym
    (append_assoc (firstOnes ++ slash x ∷ []) (ordinary ms) (tail s k) ∙ slash_form (q ∷ qs) x _) in
    let long : length front ≡ n + 1 + length (ordinary ms) = length-append (firstOnes ++ slash x ∷ []) (ordinary ms)
    ∙ ap (λ (y : ℕ). y + length (ordinary ms)) (length-append firstOnes (slash x ∷ [])) in
    unpack_walk l refl
    ∙ ap (λ (y : Option Written). run [] (start (positional_only y)) l)
    (slash_at 0 (q ∷ qs) x (ordinary ms ++ tail s k))
    ∙ ap (λ (y : ℕ). run [] (start (flat_at y)) l) zero-before
    ∙ start_finished l (flat_at n) BeforeSlash (first_some n (omega arith)) (rules_pos false (q ∷ qs) x ms s k d) f
    ∙ ap₂ (finish l) (star_pos (q ∷ qs) x ms s k) (counts_pos (flat_at n) (q ∷ qs) x ms s k)
    ∙ ap₂ (λ (y : List Param) (i : ℕ). finish y (star_place s i)
    (with_tail (n + length (ordinary ms)) (flat_at n) s k)) whole (sym long)
    ∙ finish_tail front s k _

-- LAW: unpack of a cut's list, with one or more before `/`, no repeated name and the default rule kept
pub unpack_cut : (c : Cut) → SlashGood c.before → Fresh [] (join c)
    → Defaults false (firsts c.before ++ c.middle) → unpack (join c) ≡ verdict c
unpack_cut c = go c.before c.middle c.star c.last
  where
    go : (b : Before) (ms : List Ordinary) (s : Star) (k : Last) → SlashGood b
        → Fresh [] (slash_part b ++ (ordinary ms ++ tail s k)) → Defaults false (firsts b ++ ms)
        → unpack (slash_part b ++ (ordinary ms ++ tail s k))
        ≡ verdict (record { before = b; middle = ms; star = s; last = k })
    go no_slash ms s k o f d = unpack_none ms s k f d
    go (up_to_slash [] x) ms s k o f d = absurd o
    go (up_to_slash (q ∷ qs) x) ms s k o f d = ap unpack (slash_form (q ∷ qs) x _)
        ∙ unpack_some q qs x ms s k (subst (Fresh []) (slash_form (q ∷ qs) x _) f) d

-- a `/` that is not first comes later
slash_later : (l : List Param) {w : Written} → Heads l → first_slash l ≡ Some w → 0 < w.0
unfolding slash_from
slash_later [] h e = never (cc)
slash_later (p ∷ ps) h e = let rest : slash_from (0 + 1) ps ≡ Some _ = rw h at e in
    omega (arith, slash_from_lem (0 + 1) ps rest)

-- an accepted list has a cut, but for what must follow the `*`
record Loose (l : List Param) : Type 0 where
  cut : Cut
  joins : join cut ≡ l
  slash : SlashGood cut.before
  fresh : Fresh [] l
  defaults : Defaults false (firsts cut.before ++ cut.middle)

-- with `/`, before which there is a parameter
slash_loose : (l : List Param) → Heads l → Fresh [] l → Slashed false l → Loose l
slash_loose l heads f m = by_first m.before m.is m.defaults
  where
    by_first : (qs : List Ordinary)
        → l ≡ ordinary qs ++ slash m.mark ∷ (ordinary m.middle ++ tail m.star m.last)
        → Defaults false (qs ++ m.middle) → Loose l
    by_first [] e d = clash refl (subst Heads e heads)
    by_first (q ∷ qs) e d = record {
      cut = record { before = up_to_slash (q ∷ qs) m.mark; middle = m.middle; star = m.star; last = m.last };
      joins = slash_form (q ∷ qs) m.mark _ ∙ sym e;
      slash = tt;
      fresh = f;
      defaults = d;
    }

-- without `/`
plain_loose : (l : List Param) → Fresh [] l → AfterSlash false l → Loose l
plain_loose l f m = record {
  cut = record { before = no_slash; middle = m.middle; star = m.star; last = m.last };
  joins = sym m.is;
  slash = tt;
  fresh = f;
  defaults = m.defaults;
}

loose_cut : (l : List Param) {c : Counts} → unpack l ≡ accepted c → Loose l
loose_cut l {c} h = go (first_slash l) refl
  where
    heads : Heads l
    heads = accepted_heads l h

    walked : (x : Option Written) → first_slash l ≡ x → run [] (start (positional_only x)) l ≡ accepted c
    walked x e = ap (λ (y : Option Written). run [] (start (positional_only y)) l) (sym e) ∙ sym (unpack_walk l heads)
        ∙ h

    slashed : {w : Written} → first_slash l ≡ Some w → Fresh [] l → Slashed false l ⊎ NoSlash l → Loose l
    slashed e f (inl m) = slash_loose l heads f m
    slashed e f (inr none) = let z : Some _ ≡ None = sym e ∙ none 0 in never (cc)

    go : (x : Option Written) → first_slash l ≡ x → Loose l
    go None e = let r = start_accepted l (flat_at 0) SeenSlash refl (walked None e) in
        plain_loose l r.1 (either_rules false l r.0)
    go (Some w) e =
        let r = start_accepted l (flat_at w.0) BeforeSlash (first_some w.0 (slash_later l heads e))
        (walked (Some w) e) in
        slashed e r.1 (pos_rules false l r.0)

-- what follows the `*` decides
good_star : (s : Star) (k : Last) (o : Outcome) {c : Counts} → star_verdict s k o ≡ accepted c
    → StarGood s × (o ≡ accepted c)
good_star no_star k o e = (tt, e)
good_star (bare r []) no_kwargs o e = refused≢accepted e
good_star (bare r []) (with_kwargs x n) o e = refused≢accepted e
good_star (bare r (q ∷ qs)) k o e = (tt, e)
good_star (starred r n qs) k o e = (tt, e)

star_good : (s : Star) (k : Last) (o : Outcome) → StarGood s → star_verdict s k o ≡ o
star_good no_star k o g = refl
star_good (bare r []) k o g = absurd g
star_good (bare r (q ∷ qs)) k o g = refl
star_good (starred r n qs) k o g = refl

-- LAW: a good cut's list is accepted, with what the cut counts
pub cut_accepted : (c : Cut) → Good c → unpack (join c) ≡ accepted (cut_counts c)
cut_accepted c g =
    unpack_cut c g.slash ((fresh_iff (join c)).1 g.distinct)
    ((defaults_iff (firsts c.before ++ c.middle)).1 g.defaulted)
    ∙ star_good c.star c.last (accepted (cut_counts c)) g.star

-- LAW: an accepted list has a good cut
pub accepted_cut : (l : List Param) {a : Counts} → unpack l ≡ accepted a → (c : Cut) × (join c ≡ l) × Good c
accepted_cut l h =
    let w = loose_cut l h in
    let c = w.cut in
    let f = subst (Fresh []) (sym w.joins) w.fresh in
    let v = good_star c.star c.last (accepted (cut_counts c))
    (sym (unpack_cut c w.slash f w.defaults) ∙ ap unpack w.joins ∙ h) in (
      c,
      w.joins,
      record {
        slash = w.slash;
        star = v.0;
        distinct = (fresh_iff (join c)).0 f;
        defaulted = (defaults_iff (firsts c.before ++ c.middle)).0 w.defaults;
      },
    )

-- LAW: the modes of a good cut's list are the cut's
pub cut_modes : (c : Cut) → SlashGood c.before → modes (join c) ≡ part_modes (parts_of c)
unfolding modes
cut_modes c = go c.before c.middle c.star c.last
  where
    from : (l : List Param) (x : Option Written) (s : State) → first_slash l ≡ x → first_state (positional_only x) ≡ s
        → modes_from (first_state (positional_only (first_slash l))) l ≡ modes_from s l
    from l x s e f = ap (λ (y : State). modes_from y l)
        (ap (λ (z : Option Written). first_state (positional_only z)) e ∙ f)

    go : (b : Before) (ms : List Ordinary) (s : Star) (k : Last) → SlashGood b
        → modes_from (first_state (positional_only (first_slash (slash_part b ++ (ordinary ms ++ tail s k)))))
        (slash_part b ++ (ordinary ms ++ tail s k))
        ≡ part_modes (parts_of (record { before = b; middle = ms; star = s; last = k }))
    go no_slash ms s k g = from (ordinary ms ++ tail s k) None SeenSlash (none_either ms s k 0) refl
        ∙ modes_either ms s k
    go (up_to_slash [] x) ms s k g = absurd g
    go (up_to_slash (q ∷ qs) x) ms s k g =
        let l = ordinary (q ∷ qs) ++ slash x ∷ (ordinary ms ++ tail s k) in
        ap (λ (y : List Param). modes_from (first_state (positional_only (first_slash y))) y) (slash_form (q ∷ qs) x _)
        ∙ from l _ BeforeSlash (slash_at 0 (q ∷ qs) x (ordinary ms ++ tail s k))
        (first_some (0 + length (ordinary (q ∷ qs))) (omega arith))
        ∙ modes_pos (q ∷ qs) x ms s k

-- The cut is unique: it can be read off the list

abbrev Split : Type 0
Split = List Ordinary × List Param

-- the ordinary parameters at the head, and the rest
abbrev split : List Param → Split
split [] = ([], [])
split (normal r n d ∷ ps) = (record { node = r; name = n; default = d } ∷ (split ps).0, (split ps).1)
split (no_args r ∷ ps) = ([], no_args r ∷ ps)
split (slash r ∷ ps) = ([], slash r ∷ ps)
split (args r n ∷ ps) = ([], args r n ∷ ps)
split (kwargs r n ∷ ps) = ([], kwargs r n ∷ ps)

split_stop : (qs : List Ordinary) (l : List Param) → split l ≡ ([], l) → split (ordinary qs ++ l) ≡ (qs, l)
split_stop [] l e = e
split_stop (q ∷ qs) l e = ap (λ (x : Split). (q ∷ x.0, x.1)) (split_stop qs l e)

abbrev last_of : List Param → Last
last_of [] = no_kwargs
last_of (normal r n d ∷ ps) = no_kwargs
last_of (no_args r ∷ ps) = no_kwargs
last_of (slash r ∷ ps) = no_kwargs
last_of (args r n ∷ ps) = no_kwargs
last_of (kwargs r n ∷ ps) = with_kwargs r n

abbrev tail_of : List Param → Star × Last
tail_of [] = (no_star, no_kwargs)
tail_of (normal r n d ∷ ps) = (no_star, no_kwargs)
tail_of (no_args r ∷ ps) = (bare r (split ps).0, last_of (split ps).1)
tail_of (slash r ∷ ps) = (no_star, no_kwargs)
tail_of (args r n ∷ ps) = (starred r n (split ps).0, last_of (split ps).1)
tail_of (kwargs r n ∷ ps) = (no_star, with_kwargs r n)

abbrev cut_by : Before → Split → Cut
cut_by b x = record { before = b; middle = x.0; star = (tail_of x.1).0; last = (tail_of x.1).1 }

abbrev cut_rest : List Ordinary → List Param → Cut
cut_rest qs [] = cut_by no_slash (qs, [])
cut_rest qs (normal r n d ∷ ps) = cut_by no_slash (qs, normal r n d ∷ ps)
cut_rest qs (no_args r ∷ ps) = cut_by no_slash (qs, no_args r ∷ ps)
cut_rest qs (slash r ∷ ps) = cut_by (up_to_slash qs r) (split ps)
cut_rest qs (args r n ∷ ps) = cut_by no_slash (qs, args r n ∷ ps)
cut_rest qs (kwargs r n ∷ ps) = cut_by no_slash (qs, kwargs r n ∷ ps)

abbrev cut_of : List Param → Cut
cut_of l = cut_rest (split l).0 (split l).1

last_stop : (k : Last) → split (kwargs_part k) ≡ ([], kwargs_part k)
last_stop no_kwargs = refl
last_stop (with_kwargs r n) = refl

tail_stop : (s : Star) (k : Last) → split (tail s k) ≡ ([], tail s k)
tail_stop no_star no_kwargs = refl
tail_stop no_star (with_kwargs r n) = refl
tail_stop (bare r qs) k = refl
tail_stop (starred r n qs) k = refl

last_of_lem : (k : Last) → last_of (kwargs_part k) ≡ k
last_of_lem no_kwargs = refl
last_of_lem (with_kwargs r n) = refl

tail_of_lem : (s : Star) (k : Last) → tail_of (tail s k) ≡ (s, k)
tail_of_lem no_star no_kwargs = refl
tail_of_lem no_star (with_kwargs r n) = refl
tail_of_lem (bare r qs) k = ap (λ (x : Split). (bare r x.0, last_of x.1))
    (split_stop qs (kwargs_part k) (last_stop k)) ∙ ap (λ (x : Last). (bare r qs, x)) (last_of_lem k)
tail_of_lem (starred r n qs) k = ap (λ (x : Split). (starred r n x.0, last_of x.1))
    (split_stop qs (kwargs_part k) (last_stop k)) ∙ ap (λ (x : Last). (starred r n qs, x)) (last_of_lem k)

cut_by_lem : (b : Before) (ms : List Ordinary) (s : Star) (k : Last)
    → cut_by b (ms, tail s k) ≡ record { before = b; middle = ms; star = s; last = k }
cut_by_lem b ms s k = ap {A = Star × Last} {B = Cut} (λ x. record { before = b; middle = ms; star = x.0; last = x.1 })
    (tail_of_lem s k)

rest_tail : (ms : List Ordinary) (s : Star) (k : Last) → cut_rest ms (tail s k) ≡ cut_by no_slash (ms, tail s k)
rest_tail ms no_star no_kwargs = refl
rest_tail ms no_star (with_kwargs r n) = refl
rest_tail ms (bare r qs) k = refl
rest_tail ms (starred r n qs) k = refl

cut_of_join : (c : Cut) → cut_of (join c) ≡ c
cut_of_join c = go c.before c.middle c.star c.last
  where
    go : (b : Before) (ms : List Ordinary) (s : Star) (k : Last)
        → cut_of (slash_part b ++ (ordinary ms ++ tail s k)) ≡ record { before = b; middle = ms; star = s; last = k }
    go no_slash ms s k = ap (λ (x : Split). cut_rest x.0 x.1) (split_stop ms (tail s k) (tail_stop s k))
        ∙ rest_tail ms s k ∙ cut_by_lem no_slash ms s k
    go (up_to_slash qs x) ms s k =
        ap cut_of (slash_form qs x _)
        ∙ ap (λ (y : Split). cut_rest y.0 y.1) (split_stop qs (slash x ∷ (ordinary ms ++ tail s k)) refl)
        ∙ ap (cut_by (up_to_slash qs x)) (split_stop ms (tail s k) (tail_stop s k))
        ∙ cut_by_lem (up_to_slash qs x) ms s k

-- LAW: a list has one cut
pub join_injective : (c d : Cut) → join c ≡ join d → c ≡ d
join_injective c d e = sym (cut_of_join c) ∙ ap cut_of e ∙ cut_of_join d
