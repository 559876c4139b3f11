-- The walk of code over the records of a stretch gives what `unpack` gives for the written parameters. Both keep the
-- same state, so after n records the code is where `unpack` is after the first n parameters (`Judging`, its field
-- `same`). The induction is the loop: a turn passes (`judge_on`) or stops (`judge_stop`), because the check of code is
-- that of `unpack`: 11 first, then the rule of the kind. The search for 11 is skipped only where the marks show that
-- the name is new (`meets_new`, forest's `known_new`). After the last parameter 17 and 18 look at what follows a bare
-- `*` (`star_last_lem`, `star_normal`, `star_other`). Cite `judge_list`. Assumes nothing.
use Rattle.std.specs.Prelude.{Err, None, Ok, Option, Result, Some, ℕ}
use mathlib.Core.Path.{◌≡◌, refl, sym, ap, ◌∙◌}
use mathlib.Core.Bool.{Bool, true, false, ◌&&◌}
use mathlib.Core.List.{List, [], ◌∷◌, ◌++◌, append-nil}
use Prim.Native.Nat.{ℕ, ◌+◌, ◌-◌, ◌*◌, ◌/◌, ◌<◌, ◌≤◌, ◌^◌}
use native.Mathlib.Omega.{arith}
use lib.ListN.{length, take, drop, length-take, length-drop, length-append, take-append-drop}
use lib.Seq.{length-take-le}
use Rattle.fields.proofs.Basics.{and_left, and_right, clash, never}
use Rattle.fields.proofs.Fields.{tail_part}
use Rattle.forest.specs.Forest.{Node, node_of, span_of, kids_of, forest, rest_of}
use Rattle.fields.specs.Choice.{if'}
use Rattle.forest.proofs.Stretch.{length_kids, length_rest}
use Rattle.forest.specs.Names.{name_of}
use Rattle.forest.specs.Marks.{may_stand, noted, Known}
use Rattle.forest.proofs.Marked.{Searches, known_start, known_named, known_other, known_new}
use Rattle.table.specs.Numbers.{slash_first, duplicated_parameter, normal_after_kwargs, star_last, no_normal_after_star}
use Rattle.deflist.specs.Written.{Name, Param, normal, no_args, slash, args, kwargs, node_in, kind_in, param}
use Rattle.deflist.specs.Written.{param_of, params_in, written}
use Rattle.deflist.specs.Unpack.{seen_slash, seen_star, seen_star_star, default_rule}
use Rattle.deflist.specs.Unpack.{written_at, has_name, first_same, repeats, rule, firstly, check, advance}
use Rattle.deflist.specs.Unpack.{next_star, start, slash_from, first_slash, positional_only, is_slash, normal_next}
use Rattle.deflist.specs.Unpack.{from_star, finish, Outcome, accepted, refused, run, unpack}
use Rattle.deflist.specs.Told.{fault, turn_of, told}
use Rattle.deflist.specs.Reading.{is_listed, kind_here, begins_with_slash, is_named, is_normal, StarIn, Inside, Skips}
use Rattle.deflist.specs.Reading.{Finishes, NotPast, Earlier, Meets, Says, SlashAt, Bounded}
use Rattle.deflist.specs.declared.State.{State}
use Rattle.deflist.specs.declared.Kind.{Kind}
use Rattle.deflist.specs.declared.Kind.TheVariants.{Normal, NoArgs, Slash, Args, KwArgs}
use Rattle.deflist.specs.declared.Check.{Check}
use Rattle.deflist.specs.declared.Check.TheVariants.{Fine, Broken, Repeated}
use Rattle.deflist.specs.declared.Written.{Written}
use Rattle.deflist.specs.declared.Flat.{Flat}
use Rattle.deflist.specs.declared.Counts.{Counts}
use Rattle.deflist.specs.declared.Unpacking.{Unpacking}
use Rattle.deflist.specs.declared.Fault.{Fault}
use Rattle.deflist.proofs.Reading.{node_in_lem, kind_in_lem, listed_long, list_end, list_on, list_next, Reading, read_start}
use Rattle.deflist.proofs.Parts.{name_none, name_tested}
use Rattle.deflist.proofs.Reading.{read_here, read_on, read_end}
use Rattle.deflist.proofs.Steps.{Cleared, run_stop, run_again, run_on_lem, clear_on, clear_start, bounded_on}

-- 11: marks repeat no name, others the first of theirs
module _ (ns : List ℕ) (before : List Param) (left : List ℕ) {k : Kind} (k_is : k ≡ kind_here left) {b : Bool}
    (b_is : b ≡ is_named k) where
  pub repeats_none : b ≡ false → (i : ℕ) → None ≡ repeats before (param_of ns (node_of i left))
  unfolding repeats param_of kind_here
  repeats_none h i = rw (← k_is) (go k (sym b_is ∙ h))
    where
      go : (k : Kind) → is_named k ≡ false
          → None ≡ repeats before (param k (node_of i left) (name_of ns (node_of i left)))
      go (Normal d) e = clash refl e
      go NoArgs e = refl
      go Slash e = refl
      go Args e = clash refl e
      go KwArgs e = clash refl e

  pub repeats_named : b ≡ true → {x : Name} {r : Option ℕ} → x ≡ name_of ns (node_of 0 left) → r ≡ first_same x before
      → (i : ℕ) → r ≡ repeats before (param_of ns (node_of i left))
  unfolding repeats param_of kind_here name_of
  repeats_named h x-is r-is i = r-is ∙ rw (← k_is, x-is) (go k (sym b_is ∙ h))
    where
      go : (k : Kind) → is_named k ≡ true → first_same (name_of ns (node_of i left)) before
          ≡ repeats before (param k (node_of i left) (name_of ns (node_of i left)))
      go (Normal d) e = refl
      go NoArgs e = clash e refl
      go Slash e = clash e refl
      go Args e = refl
      go KwArgs e = refl

-- the search for an earlier name goes by `has_name`
unfoldable pub searches : Searches first_same has_name
unfolding first_same
searches = record { node = λ p. (node_in p).at; none = λ x. refl; first = λ x p l. refl }

-- the marks know one parameter more: `*` and `/` have no name, others are noted; a name that they do not show is new
module _ (ns : List ℕ) {marks : List ℕ} {before : List Param} (known : Known first_same marks before) (left : List ℕ)
    {k : Kind} (k_is : k ≡ kind_here left) {b : Bool} (b_is : b ≡ is_named k) where
  pub meets_none : (m : ℕ) → b ≡ false → Meets ns before left marks m None
  meets_none m h = record {
    says = repeats_none ns before left k_is b_is h;
    inside = tt;
    known = λ i. known_other searches known _ (λ x. name_none ns x left k_is b_is h i);
  }

  module _ (h : b ≡ true) {x : Name} (x-is : x ≡ name_of ns (node_of 0 left)) {ms : List ℕ}
      (ms-are : ms ≡ noted marks x)
      {m : ℕ} where
    pub meets_searched : {r : Option ℕ} → Earlier x before m r → Meets ns before left ms m r
    meets_searched r-is = record {
      says = repeats_named ns before left k_is b_is h x-is r-is.says;
      inside = r-is.inside;
      known = λ i. rw ms-are (known_named searches known _ x (λ y. name_tested ns y left k_is b_is h x-is refl i));
    }

    pub meets_new : {t : Bool} → t ≡ may_stand marks x → t ≡ false → Meets ns before left ms m None
    meets_new t-is new = meets_searched (record { says = known_new known t-is new; inside = tt })

-- 11 before the rule of the kind
pub check_found : (f : Option ℕ) (c : Check) {j : ℕ} → f ≡ Some j → Repeated j ≡ firstly f c
check_found f c e = rw e refl

pub check_rule : (f : Option ℕ) {c r : Check} → f ≡ None → r ≡ c → r ≡ firstly f c
check_rule f e r-is = rw e r-is

-- a rule finds no repeated name, so one that is repeated was found
test_new : (b : Bool) (n : ℕ) {i : ℕ} → if' b (λ _. Broken n) (λ _. Fine) ≡ Repeated i → ⊥
test_new true n e = never (cc)
test_new false n e = never (cc)

default_new : (a b o d : Bool) {i : ℕ}
    → if' a (λ _. Broken normal_after_kwargs) (λ _. if' b (λ _. Fine) (λ _. default_rule o d)) ≡ Repeated i → ⊥
default_new true b o d e = never (cc)
default_new false true o d e = never (cc)
default_new false false true true e = never (cc)
default_new false false true false e = never (cc)
default_new false false false d e = never (cc)

rule_new : (s : State) (o : Bool) (k : Kind) {i : ℕ} → rule s o k ≡ Repeated i → ⊥
rule_new s o (Normal d) e = default_new (seen_star_star s) (seen_star s) o d e
rule_new s o NoArgs e = test_new (seen_star s) _ e
rule_new s o Slash e = test_new (seen_slash s) _ e
rule_new s o Args e = test_new (seen_star s) _ e
rule_new s o KwArgs e = test_new (seen_star_star s) _ e

pub found_repeated : (f : Option ℕ) (s : State) (o : Bool) (k : Kind) {i : ℕ} → firstly f (rule s o k) ≡ Repeated i
    → f ≡ Some i
found_repeated (Some j) s o k {i} e = let same : j ≡ i = cc in ap Some same
found_repeated None s o k e = absurd (rule_new s o k e)

-- what its check makes of a parameter's turn
module _ (x : Check) (r : Node) {c : Check} (c-is : c ≡ x) where
  pub turn_fine : c ≡ Fine → (Ok tt) ≡ turn_of x r
  turn_fine h = rw (← c-is, h) refl

  module _ {f : Fault} where
    pub turn_broken : {n : ℕ} → c ≡ Broken n → f ≡ fault n r None → Err f ≡ turn_of x r
    turn_broken h f-is = rw (← c-is, h, f-is) refl

    pub turn_repeated : {i : ℕ} → c ≡ Repeated i → f ≡ fault duplicated_parameter r (Some i) → Err f ≡ turn_of x r
    turn_repeated h f-is = rw (← c-is, h, f-is) refl

-- what passes is fine
fine_passes : (c : Check) (r : Node) → (Ok tt) ≡ turn_of c r → c ≡ Fine
fine_passes Fine r e = refl
fine_passes (Broken n) r e = never (cc)
fine_passes (Repeated i) r e = never (cc)

not_past_wider : (f : Option ℕ) {m n : ℕ} → NotPast m f → m ≤ n → NotPast n f
not_past_wider (Some i) h g = omega arith
not_past_wider None h g = tt

-- 17 and 18
normal_next_lem : (p : Param) (o : Outcome) → is_normal (kind_in p) ≡ true → normal_next p o ≡ o
normal_next_lem (normal r n d) o e = refl
normal_next_lem (no_args r) o e = clash e refl
normal_next_lem (slash r) o e = clash e refl
normal_next_lem (args r n) o e = clash e refl
normal_next_lem (kwargs r n) o e = clash e refl

other_next : (p : Param) (o : Outcome) → is_normal (kind_in p) ≡ false
    → normal_next p o ≡ refused no_normal_after_star (node_in p)
other_next (normal r n d) o e = clash refl e
other_next (no_args r) o e = refl
other_next (slash r) o e = refl
other_next (args r n) o e = refl
other_next (kwargs r n) o e = refl

module _ (kids : List ℕ) (first : ℕ) (star : Written) (c : Counts) {at e : ℕ}
    (skips : Skips kids star.0 at) (e-is : e ≡ span_of (take (length kids - at) (drop at kids))) where
  abbrev here : List ℕ
  here = take (length kids - at) (drop at kids)

  abbrev after : List ℕ
  after = take (length here - e) (drop e here)

  long : length here ≡ length kids - at
  long = simp (length-take, length-drop) (omega (arith, skips.within))

  from_star_lem : (ns : List ℕ) → star.0 < length (params_in ns (forest first kids))
      → drop star.0 (params_in ns (forest first kids)) ≡ params_in ns (forest (first + at / 24) here)
  from_star_lem ns h = skips.rest ns first (omega arith)
      ∙ ap (λ (l : List ℕ). params_in ns (forest (first + at / 24) l)) (sym (tail_part at kids))

  star_then : (ns : List ℕ) → star.0 < length (params_in ns (forest first kids))
      → drop star.0 (params_in ns (forest first kids)) ≡ param_of ns (node_of (first + at / 24) here)
      ∷ params_in ns (forest (first + at / 24 + e / 24) after)
  star_then ns h = go (is_listed here) refl
    where
      go : (b : Bool) → is_listed here ≡ b
          → drop star.0 (params_in ns (forest first kids)) ≡ param_of ns (node_of (first + at / 24) here)
          ∷ params_in ns (forest (first + at / 24 + e / 24) after)
      go true l = from_star_lem ns h ∙ list_on ns (first + at / 24) here l e-is
      go false l = let z : length (params_in ns (forest first kids)) - star.0 ≡ 0 = sym (length-drop star.0 _)
          ∙ ap length (from_star_lem ns h ∙ list_end ns (first + at / 24) here l) in absurd (omega arith)

  module _ {l : Bool} (l-is : l ≡ is_listed after) where
    pub star_last_lem : l ≡ false → {f : Fault} → f ≡ fault star_last (node_of (first + at / 24) here) None
        → Finishes kids first (Some star) c (Err f)
    unfolding finish
    star_last_lem l-no f-is = record {
      says = λ ns h.
          let w-is : drop star.0 (params_in ns (forest first kids)) ≡ param_of ns (node_of (first + at / 24) here) ∷
          [] = star_then ns h ∙ ap (λ (ps : List Param). param_of ns (node_of (first + at / 24) here) ∷ ps)
          (list_end ns _ after (sym l-is ∙ l-no)) in
          rw (f-is, w-is, node_in_lem ns (node_of (first + at / 24) here)) refl;
      inside = rw f-is (omega (arith, skips.within), tt);
    }

    module _ (l-yes : l ≡ true) {k : Kind} (k_is : k ≡ kind_here after) {b : Bool} (b_is : b ≡ is_normal k) where
      next_is : (ns : List ℕ) → star.0 < length (params_in ns (forest first kids))
          → from_star (drop star.0 (params_in ns (forest first kids))) (accepted c)
          ≡ normal_next (param_of ns (node_of (first + at / 24 + e / 24) after)) (accepted c)
      next_is ns h = rw (star_then ns h, list_on ns (first + at / 24 + e / 24) after (sym l-is ∙ l-yes) refl) refl

      abbrev follower : List ℕ → Param
      follower ns = param_of ns (node_of (first + at / 24 + e / 24) after)

      kind_next : (ns : List ℕ) → is_normal (kind_in (param_of ns (node_of (first + at / 24 + e / 24) after))) ≡ b
      kind_next ns = ap is_normal (kind_in_lem ns _ after ∙ sym k_is) ∙ sym b_is

      pub star_normal : b ≡ true → Finishes kids first (Some star) c (Ok c)
      unfolding finish
      star_normal b-yes = record {
        says = λ ns h. rw (next_is ns h ∙ normal_next_lem (follower ns) (accepted c) (kind_next ns ∙ b-yes)) refl;
        inside = tt;
      }

      pub star_other : b ≡ false → {f : Fault}
          → f ≡ fault no_normal_after_star (node_of (first + at / 24 + e / 24) after) None
          → Finishes kids first (Some star) c (Err f)
      unfolding finish
      star_other b-no f-is = record {
        says = λ ns h. rw (
          f-is,
          next_is ns h ∙ other_next (follower ns) (accepted c) (kind_next ns ∙ b-no),
          node_in_lem ns (node_of (first + at / 24 + e / 24) after),
        ) refl;
        inside = rw f-is (omega (arith, long, skips.within), tt);
      }

-- The parameters in turn: n are read, u is known of them, and the node at comes next
pub record Judging (ns kids : List ℕ) (first : ℕ) (marks₀ : List ℕ) (u₀ : Unpacking) (marks : List ℕ) (u : Unpacking)
    (left : List ℕ) (at n : ℕ) : Type 0 where
  pub reads : Reading ns (params_in ns (forest first kids)) n at left
  pub fits : 24 * first + length kids < 2 ^ 64
  pub room : 24 * at + length left ≤ 24 * first + length kids
  pub fewer : 24 * n + length left ≤ length kids
  pub bounded : Bounded n u₀.counts.num_positional_only.0 u.counts
  pub clear : Cleared u
  pub star : StarIn (take n (params_in ns (forest first kids))) u.index_of_star
  pub known : Known first_same marks (take n (params_in ns (forest first kids)))
  pub long : length marks ≡ length marks₀
  pub same : run (take n (params_in ns (forest first kids))) u (drop n (params_in ns (forest first kids))) ≡ run
      [] u₀ (params_in ns (forest first kids))

pub judge_start : (ns kids : List ℕ) (first : ℕ) → 24 * first + length kids < 2 ^ 64 → (marks : List ℕ) (only : Flat)
    {u : Unpacking} → u ≡ start only → Judging ns kids first marks u marks u kids first 0
unfolding start
judge_start ns kids first fits marks only u-is =
    rw u-is
    (record {
      reads = read_start ns first kids;
      fits = fits;
      room = omega arith;
      fewer = omega arith;
      bounded = record { positional = omega arith; only = omega arith; args = tt; kwargs = tt; flat = omega arith };
      clear = clear_start only;
      star = tt;
      known = known_start searches marks;
      long = refl;
      same = refl;
    })

star_wider : (w : List Param) (p : Param) (star : Option Written) → StarIn w star → StarIn (w ++ p ∷ []) star
star_wider w p None h = tt
star_wider w p (Some i) h = omega (arith, length-append w (p ∷ []))

star_more : (w : List Param) (p : Param) (star : Option Written) (k : Kind) → StarIn w star
    → StarIn (w ++ p ∷ []) (next_star star (written_at (length w)) k)
star_more w p star (Normal d) h = star_wider w p star h
star_more w p star NoArgs h = omega (arith, length-append w (p ∷ []))
star_more w p star Slash h = star_wider w p star h
star_more w p star Args h = star_wider w p star h
star_more w p star KwArgs h = star_wider w p star h

module _ {ns kids : List ℕ} {first : ℕ} {marks₀ : List ℕ} {u₀ : Unpacking} {marks : List ℕ} {u : Unpacking}
    {left : List ℕ} {at n : ℕ} (j : Judging ns kids first marks₀ u₀ marks u left at n) where
  -- the list, what is read of it, and the parameter that comes next
  abbrev list : List Param
  list = params_in ns (forest first kids)

  abbrev done : List Param
  done = take n list

  abbrev next : Param
  next = param_of ns (node_of at left)

  module _ (listed : is_listed left ≡ true) where
    here_then : {place : ℕ} {after : List ℕ} → place ≡ at + span_of left / 24 → after ≡ rest_of left
        → run done u (next ∷ params_in ns (forest place after)) ≡ run [] u₀ list
    here_then place-is after-is =
        ap (run done u) (sym (j.reads.rest ∙ list_next ns at left listed place-is after-is)) ∙ j.same

    module _ {ms : List ℕ} {f : Option ℕ} (met : Meets ns done left ms (first + length kids / 24) f) {k : Kind}
        (k_is : k ≡ kind_here left) where
      abbrev judged : Check
      judged = firstly f (rule u.state u.seen_optional k)

      checked : check done u.state u.seen_optional next ≡ judged
      checked = sym (rw (met.says at, k_is, ← (kind_in_lem ns at left)) refl)

      -- what a parameter that stops the walk says: it breaks the rule of its kind, or its name is repeated
      module _ (ps : List Param) {o : Outcome} (run_is : run done u (next ∷ ps) ≡ o) where
        stopped_broken : {m : ℕ} → judged ≡ Broken m → {r : Fault} → r ≡ fault m (node_of at left) None
            → Says o (first + length kids / 24) (Err r)
        stopped_broken x-is r-is = record {
          same = rw (r-is, ← run_is, run_stop _ u next _ (checked ∙ x-is), node_in_lem ns (node_of at left)) refl;
          inside = rw r-is (omega (arith, j.room), tt);
        }

        stopped_repeated : {i : ℕ} → judged ≡ Repeated i → {r : Fault}
            → r ≡ fault duplicated_parameter (node_of at left) (Some i) → Says o (first + length kids / 24) (Err r)
        stopped_repeated x-is r-is = record {
          same = rw (r-is, ← run_is, run_again _ u next _ (checked ∙ x-is), node_in_lem ns (node_of at left)) refl;
          inside = rw r-is (omega (arith, j.room), rw (found_repeated f _ _ k x-is) at met.inside);
        }

        stopped : (x : Check) → judged ≡ x → {r : Fault} → Err r ≡ turn_of x (node_of at left)
            → Says o (first + length kids / 24) (Err r)
        stopped Fine x-is e = never (cc)
        stopped (Broken m) x-is e = stopped_broken x-is (cc)
        stopped (Repeated i) x-is e = stopped_repeated x-is (cc)

      pub judge_stop : (only : Flat) → u₀ ≡ start only → {t : Result (Unit {0}) Fault}
          → t ≡ turn_of judged (node_of at left) → {r : Fault} → t ≡ Err r
          → Says (run [] (start only) (params_in ns (forest first kids))) (first + length kids / 24) (Err r)
      judge_stop only u₀-is t-is e = stopped _ (rw u₀-is at (here_then refl refl)) judged refl (sym e ∙ t-is)

      pub judge_on : length ms ≡ length marks → {t : Result (Unit {0}) Fault} → t ≡ turn_of judged (node_of at left)
          → t ≡ Ok tt → {v : Unpacking} → v ≡ advance u (written_at n) k
          → {place : ℕ} {after : List ℕ} → place ≡ at + span_of left / 24 → after ≡ rest_of left
          → Judging ns kids first marks₀ u₀ ms v after place (n + 1)
      unfolding advance
      judge_on same-long t-is passes v-is place-is after-is =
          let x = read_here j.reads listed place-is after-is in
          let good = checked ∙ fine_passes judged _ (sym passes ∙ t-is) in
          let long : length done ≡ n = length-take-le n list j.reads.upto in
          let kind : k ≡ kind_in next = k_is ∙ sym (kind_in_lem ns at left) in
          let less = length_rest left in
          rw (v-is, kind)
          (record {
            reads = read_on j.reads listed place-is after-is;
            fits = j.fits;
            room = omega (arith, j.room, place-is, ap length after-is, less, listed_long left listed);
            fewer = omega (arith, j.fewer, ap length after-is, less, listed_long left listed);
            bounded = bounded_on u.state u.counts (kind_in next) j.bounded;
            clear = rw long at (clear_on done u next [] j.clear good);
            star = rw x.front (rw long at (star_more done next u.index_of_star (kind_in next) j.star));
            known = rw x.front (met.known at);
            long = same-long ∙ j.long;
            same = rw (x.front, x.rest)
                (rw long at (sym (run_on_lem done u next _ j.clear good) ∙ here_then place-is after-is));
          })

  module _ (ended : is_listed left ≡ false) where
    whole : done ≡ list
    whole = sym (append-nil _) ∙ ap (λ (ps : List Param). done ++ ps)
        (sym (read_end j.reads ended)) ∙ take-append-drop n list

    pub judge_end : (only : Flat) → u₀ ≡ start only → {r : Result Counts Fault}
        → Finishes kids first u.index_of_star u.counts r
        → Says (run [] (start only) (params_in ns (forest first kids))) (first + length kids / 24) r
    unfolding run
    judge_end only u₀-is r-is = record {
      same = rw (← u₀-is) (r-is.says ns (rw whole at j.star)
          ∙ ap told (rw (whole, read_end j.reads ended) at j.same));
      inside = r-is.inside;
    }

-- 10, and the rest
unpack_not_slash : (ns kids : List ℕ) (first : ℕ) → begins_with_slash kids ≡ false
    → unpack (params_in ns (forest first kids)) ≡ run
    [] (start (positional_only (first_slash (params_in ns (forest first kids))))) (params_in ns (forest first kids))
unfolding unpack begins_with_slash slash_from
unpack_not_slash ns kids first h = go (is_listed kids) refl
  where
    go : (l : Bool) → is_listed kids ≡ l → unpack (params_in ns (forest first kids)) ≡ run
        [] (start (positional_only (first_slash (params_in ns (forest first kids))))) (params_in ns (forest first kids))
    go true e =
        let miss : is_slash (kind_in (param_of ns (node_of first kids)))
        ≡ false = ap is_slash (kind_in_lem ns first kids)
        ∙ (rw e at h) in
        rw (list_on ns first kids e refl, miss) refl
    go false e = rw (list_end ns first kids e) refl

module _ (ns kids : List ℕ) (first : ℕ) {b : Bool} (b_is : b ≡ begins_with_slash kids) where
  pub unpack_slash : b ≡ true → {f : Fault} → f ≡ fault slash_first (node_of first kids) None
      → Says (unpack (params_in ns (forest first kids))) (first + length kids / 24) (Err f)
  unfolding unpack begins_with_slash
  unpack_slash b-yes f-is =
      let yes : (is_listed kids && is_slash (kind_here kids)) ≡ true = sym b_is ∙ b-yes in
      let hit : is_slash (kind_in (param_of ns (node_of first kids))) ≡ true = ap is_slash (kind_in_lem ns first kids)
      ∙ and_right (is_listed kids) _ yes in
      record {
        same = rw (f-is, list_on ns first kids (and_left _ _ yes) refl, hit, node_in_lem ns (node_of first kids)) refl;
        inside = rw f-is (omega arith, tt);
      }

  pub unpack_run : b ≡ false → {s : Option Written} → SlashAt kids s → {only : Flat} → only ≡ positional_only s
      → {r : Result Counts Fault}
      → Says (run [] (start only) (params_in ns (forest first kids))) (first + length kids / 24) r
      → Says (unpack (params_in ns (forest first kids))) (first + length kids / 24) r
  unpack_run b-no {s} s-is {only} only-is r-is = rw start_is r-is
    where
      start_is : unpack (params_in ns (forest first kids)) ≡ run [] (start only) (params_in ns (forest first kids))
      start_is = unpack_not_slash ns kids first (sym b_is ∙ b-no)
          ∙ ap (λ (x : Flat). run [] (start x) (params_in ns (forest first kids)))
          (ap positional_only (sym (s-is.first ns first)) ∙ sym only-is)

-- a node's list is in its children
module _ (t : List ℕ) (node : ℕ) {kids : List ℕ} (kids_are : kids ≡ kids_of t) where
  pub judge_room : 24 * (node + 1) + length kids ≤ 24 * (node + 1) + length t
  judge_room = omega (arith, ap length kids_are ∙ length_kids t)

  pub judge_list : (ns : List ℕ) {r : Result Counts Fault}
      → Says (unpack (params_in ns (forest (node + 1) kids))) (node + 1 + length kids / 24) r
      → Says (unpack (written ns node t)) (node + 1 + length t / 24) r
  unfolding written
  judge_list ns {r} r-is = record { same = rw kids_are at r-is.same; inside = wider r r-is.inside }
    where
      wider : (r : Result Counts Fault) → Inside (node + 1 + length kids / 24) r → Inside (node + 1 + length t / 24) r
      wider (Ok c) h = tt
      wider (Err f) h =
          (omega (arith, h.0, judge_room), not_past_wider f.earlier h.1 (omega (arith, judge_room)))
