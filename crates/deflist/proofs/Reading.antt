-- Reading the written list from a stretch, for any bytes. A stretch begins with no parameter (`list_end`), or with one
-- and then the parameters of the rest (`list_on`). So a loop that steps over one parameter a turn keeps that what is
-- left of the stretch is what is left of the list (`Reading`: start, on, end). Four loops do so and cite it: the search
-- for `/` (`Slashing`), counting (`Counting`), counting up to a limit (`Limiting`) and stepping over n parameters
-- (`Skipping`). None of them reads names or indices, so their promises hold for all; each has its start, on and end.
-- Assumes nothing.
use Rattle.std.specs.Prelude.{None, Some}
use mathlib.Core.Path.{◌≡◌, refl, sym, ap, ◌∙◌}
use mathlib.Core.Bool.{Bool, true, false}
use mathlib.Core.List.{List, [], ◌∷◌, ◌++◌}
use Prim.Native.Nat.{ℕ, zero, suc, ◌+◌, ◌-◌, ◌*◌, ◌/◌, ◌%◌, ◌<◌, ◌≤◌, min, max}
use native.Mathlib.Omega.{arith}
use lib.ListN.{length, take, drop, length-take, length-drop}
use lib.Seq.{drop-drop}
use lib.Dec.{eqb, leb}
use borrow.Author.Tests.{le-leb, leb-true, lt-ltb, le-ltb}
use Rattle.fields.proofs.Basics.{and_left, and_right, never}
use Rattle.fields.proofs.Fields.{tail_part}
use Rattle.forest.specs.Forest.{Node, size_of, node_of, span_of, rest_of, forest}
use Rattle.forest.specs.Names.{name_of}
use Rattle.forest.specs.Nodes.{NextNode}
use Rattle.std.specs.Prelude.{Option, None, Some}
use denote.Ref.{Bor}
use Rattle.deflist.specs.Params.{NextParam}
use Rattle.std.specs.Iterator.{Drains}
use Rattle.forest.proofs.Drained.{drained}
use Rattle.deflist.specs.declared.Params.{Params}
use Rattle.forest.proofs.Stretch.{forest_none, forest_tree, rest_part, record_or_none, length_rest}
use Rattle.soundness.specs.Kinds.{parameter, class_of}
use Rattle.deflist.specs.Written.{Param, node_in, kind_in, param, param_of, params_in, kind_at}
use Rattle.deflist.specs.Unpack.{is_slash, slash_from, first_slash, written_at}
use Rattle.deflist.specs.Reading.{is_listed, kind_here, SlashAt, is_over, Exceeds, Skips}
use Rattle.deflist.specs.declared.Kind.{Kind}
use Rattle.deflist.specs.declared.Kind.TheVariants.{Normal, NoArgs, Slash, Args, KwArgs}

-- the record and the kind of the parameter that a record is
pub node_in_lem : (ns : List ℕ) (r : Node) → node_in (param_of ns r) ≡ r
unfolding param_of
node_in_lem ns r = go (kind_at r.kind r.detail)
  where
    go : (k : Kind) → node_in (param k r (name_of ns r)) ≡ r
    go (Normal d) = refl
    go NoArgs = refl
    go Slash = refl
    go Args = refl
    go KwArgs = refl

pub kind_in_lem : (ns : List ℕ) (i : ℕ) (t : List ℕ) → kind_in (param_of ns (node_of i t)) ≡ kind_here t
unfolding param_of kind_here
kind_in_lem ns i t = go (kind_at (node_of 0 t).kind (node_of 0 t).detail)
  where
    go : (k : Kind) → kind_in (param k (node_of i t) (name_of ns (node_of i t))) ≡ k
    go (Normal d) = refl
    go NoArgs = refl
    go Slash = refl
    go Args = refl
    go KwArgs = refl

-- a stretch that begins with a parameter has a record
pub listed_long : (t : List ℕ) → is_listed t ≡ true → 24 ≤ length t
unfolding is_listed
listed_long t h = leb-true 24 (length t) (and_left _ _ h)

-- a walk over parameters gives what a walk over nodes gives where a parameter begins
pub gives_param : (s t : Params) (r : Option (ℕ × Bor (List ℕ))) {l : Bool} → l ≡ is_listed s.nodes.left.now
    → l ≡ true → NextNode s.nodes r t.nodes → NextParam s r t
gives_param s t None l-is l-yes short = absurd (omega (arith, listed_long s.nodes.left.now (sym l-is ∙ l-yes)))
gives_param s t (Some x) l-is l-yes given = record {
  index = given.index;
  stretch = given.stretch;
  listed = rw given.stretch (sym l-is ∙ l-yes);
  next = given.next;
  rest = given.rest;
}

-- what is left after it is shorter
pub rest_less : (t : List ℕ) {l : Bool} {e : ℕ} → l ≡ is_listed t → l ≡ true → e ≡ span_of t
    → length (take (length t - e) (drop e t)) < length t
rest_less t l-is l-yes e-is = simp (length-take, length-drop) (omega (arith, listed_long t (sym l-is ∙ l-yes)))

-- LAW: a stretch begins with no parameter, or with one that is followed by those of the rest
pub list_end : (ns : List ℕ) (i : ℕ) (t : List ℕ) → is_listed t ≡ false → params_in ns (forest i t) ≡ []
unfolding params_in is_listed
list_end ns i t h =
    record_or_none t (λ short. rw (forest_none i t short) refl) λ big.
    let no : eqb (class_of (node_of 0 t).kind) parameter ≡ false = rw (le-leb 24 (length t) big) at h in
    rw (forest_tree i t big, no) refl

pub list_next : (ns : List ℕ) (i : ℕ) (t : List ℕ) {next : ℕ} {after : List ℕ} → is_listed t ≡ true
    → next ≡ i + span_of t / 24 → after ≡ rest_of t
    → params_in ns (forest i t) ≡ param_of ns (node_of i t) ∷ params_in ns (forest next after)
unfolding params_in is_listed
list_next ns i t h next-is after-is =
    let yes : eqb (class_of (node_of 0 t).kind) parameter ≡ true = and_right (leb 24 (length t)) _ h in
    rw (forest_tree i t (listed_long t h), yes, next-is, after-is) refl

-- the same, cut as code cuts it
pub list_on : (ns : List ℕ) (i : ℕ) (t : List ℕ) {e : ℕ} → is_listed t ≡ true → e ≡ span_of t
    → params_in ns (forest i t) ≡ param_of ns (node_of i t)
    ∷ params_in ns (forest (i + e / 24) (take (length t - e) (drop e t)))
list_on ns i t {e} h e-is = list_next ns i t h (ap (λ (n : ℕ). i + n / 24) e-is) (rest_part e t e-is)

-- LAW: a walk gives as many parameters as the list has, whatever the names and the index
pub params_counted : (ns : List ℕ) (i : ℕ) (xs : List (ℕ × Bor (List ℕ))) (s : Params) → Drains NextParam s xs
    → length xs ≡ length (params_in ns (forest i s.nodes.left.now))
params_counted ns i xs s given =
    drained NextParam (λ (j : ℕ) (u : Params). length (params_in ns (forest j u.nodes.left.now)))
    (λ j u v none. ap length (list_end ns j u.nodes.left.now none))
    (λ j u x v on. (
      j + span_of u.nodes.left.now / 24,
      ap length (list_next ns j u.nodes.left.now (rw on.stretch at on.listed) refl (rw on.stretch at on.rest)),
    ))
    xs i s given

-- what is at a place of a list
pub record Next {A : Type 0} (w : List A) (n : ℕ) (p : A) (ps : List A) : Type 0 where
  pub within : n < length w
  pub rest : drop (n + 1) w ≡ ps
  pub front : take (n + 1) w ≡ take n w ++ p ∷ []

pub next : {A : Type 0} (n : ℕ) (w : List A) {p : A} {ps : List A} → drop n w ≡ p ∷ ps → Next w n p ps
next zero [] e = never (cc)
next (suc n) [] e = never (cc)
next zero (x ∷ w) {p} {ps} e = let h : x ≡ p = cc in let t : w ≡ ps = cc in
    record { within = omega arith; rest = t; front = rw h refl }
next {A} (suc n) (x ∷ w) e =
    let r = next n w e in
    let more : suc n + 1 ≡ suc (n + 1) = omega arith in
    record {
      within = omega (arith, r.within);
      rest = rw more r.rest;
      front = rw more (ap (λ (l : List A). x ∷ l) r.front);
    }

-- the list w of names ns is read up to n; what is left begins with the node i
pub record Reading (ns : List ℕ) (w : List Param) (n i : ℕ) (left : List ℕ) : Type 0 where
  pub upto : n ≤ length w
  pub rest : drop n w ≡ params_in ns (forest i left)

pub read_start : (ns : List ℕ) (i : ℕ) (t : List ℕ) → Reading ns (params_in ns (forest i t)) 0 i t
read_start ns i t = record { upto = omega arith; rest = refl }

module _ {ns : List ℕ} {w : List Param} {n i : ℕ} {left : List ℕ} (r : Reading ns w n i left) where
  module _ (h : is_listed left ≡ true) {j : ℕ} {after : List ℕ} (j-is : j ≡ i + span_of left / 24)
      (after-is : after ≡ rest_of left) where
    pub read_here : Next w n (param_of ns (node_of i left)) (params_in ns (forest j after))
    read_here = next n w (r.rest ∙ list_next ns i left h j-is after-is)

    pub read_on : Reading ns w (n + 1) j after
    read_on = let x = read_here in record { upto = omega (arith, x.within); rest = x.rest }

  pub read_end : is_listed left ≡ false → drop n w ≡ []
  read_end h = r.rest ∙ list_end ns i left h

  -- while the list goes on, a parameter is there
  pub read_listed : n < length w → is_listed left ≡ true
  read_listed h = go (is_listed left) refl
    where
      go : (b : Bool) → is_listed left ≡ b → b ≡ true
      go true e = refl
      go false e = let z : length w - n ≡ 0 = sym (length-drop n w) ∙ ap length (read_end e) in absurd (omega arith)

-- The search for the first `/`: n parameters are looked at, whatever the names and the index
pub record Slashing (kids left : List ℕ) (n : ℕ) : Type 0 where
  pub room : 24 * n + length left ≤ length kids
  pub from : (ns : List ℕ) (i : ℕ) → ℕ
  pub reads : (ns : List ℕ) (i : ℕ) → Reading ns (params_in ns (forest i kids)) n (from ns i) left
  pub same : (ns : List ℕ) (i : ℕ) → slash_from n (drop n (params_in ns (forest i kids)))
      ≡ first_slash (params_in ns (forest i kids))

pub slash_start : (kids : List ℕ) → Slashing kids kids 0
slash_start kids = record {
  room = omega arith;
  from = λ ns i. i;
  reads = λ ns i. read_start ns i kids;
  same = λ ns i. refl;
}

module _ {kids left : List ℕ} {n : ℕ} (s : Slashing kids left n) where
  module _ (listed : is_listed left ≡ true) {k : Kind} (k_is : k ≡ kind_here left) {b : Bool} (b_is : b ≡ is_slash k)
    where
      tested : (ns : List ℕ) (i : ℕ) → is_slash (kind_in (param_of ns (node_of (s.from ns i) left))) ≡ b
      tested ns i = ap is_slash (kind_in_lem ns (s.from ns i) left ∙ sym k_is) ∙ sym b_is

      slash_one : {after : List ℕ} → after ≡ rest_of left → (ns : List ℕ) (i : ℕ)
          → slash_from n (param_of ns (node_of (s.from ns i) left)
          ∷ params_in ns (forest (s.from ns i + span_of left / 24) after))
          ≡ first_slash (params_in ns (forest i kids))
      slash_one after-is ns i = ap (slash_from n)
          (sym ((s.reads ns i).rest ∙ list_next ns (s.from ns i) left listed refl after-is)) ∙ s.same ns i

      pub slash_at : b ≡ true → SlashAt kids (Some (written_at n))
      unfolding slash_from
      slash_at b-yes = record { first = λ ns i. rw (tested ns i ∙ b-yes) at (slash_one refl ns i) }

      pub slash_on : b ≡ false → {after : List ℕ} → after ≡ rest_of left → Slashing kids after (n + 1)
      unfolding slash_from
      slash_on b-no after-is = record {
        room = omega (arith, s.room, ap length after-is, length_rest left, listed_long left listed);
        from = λ ns i. s.from ns i + span_of left / 24;
        reads = λ ns i. read_on (s.reads ns i) listed refl after-is;
        same = λ ns i.
            rw (read_on (s.reads ns i) listed refl after-is).rest
            (rw (tested ns i ∙ b-no) at (slash_one after-is ns i));
      }

  pub slash_end : is_listed left ≡ false → SlashAt kids None
  unfolding slash_from
  slash_end none = record { first = λ ns i. rw (read_end (s.reads ns i) none) at (s.same ns i) }

-- Counting: n parameters are read, whatever the names and the index
pub record Counting (kids left : List ℕ) (n : ℕ) : Type 0 where
  pub room : 24 * n + length left ≤ length kids
  pub from : (ns : List ℕ) (i : ℕ) → ℕ
  pub reads : (ns : List ℕ) (i : ℕ) → Reading ns (params_in ns (forest i kids)) n (from ns i) left

pub count_start : (kids : List ℕ) → Counting kids kids 0
count_start kids = record { room = omega arith; from = λ ns i. i; reads = λ ns i. read_start ns i kids }

module _ {kids left : List ℕ} {n : ℕ} (s : Counting kids left n) where
  pub count_on : is_listed left ≡ true → {after : List ℕ} → after ≡ rest_of left → Counting kids after (n + 1)
  count_on listed after-is = record {
    room = omega (arith, s.room, ap length after-is, length_rest left, listed_long left listed);
    from = λ ns i. s.from ns i + span_of left / 24;
    reads = λ ns i. read_on (s.reads ns i) listed refl after-is;
  }

  pub count_all : is_listed left ≡ false → (ns : List ℕ) (i : ℕ) → n ≡ length (params_in ns (forest i kids))
  count_all none ns i =
      let none_left = read_end (s.reads ns i) none in
      omega (arith, (s.reads ns i).upto, length-drop n (params_in ns (forest i kids)), ap length none_left)

-- The same up to a limit: while the list goes on, it has at least one more than n
pub record Limiting (most : ℕ) (kids left : List ℕ) (n : ℕ) : Type 0 where
  pub counts : Counting kids left n
  pub few : n ≤ most

pub limit_start : (most : ℕ) (kids : List ℕ) → Limiting most kids kids 0
limit_start most kids = record { counts = count_start kids; few = omega arith }

-- of the two promises of `has_more` the second says the first
pub is_over_lem : {most : ℕ} {kids : List ℕ} {b : Bool} → Exceeds most kids b → b ≡ is_over most kids
unfolding is_over
is_over_lem b_is = b_is.says [] 0

-- what follows a node of one record, and of any size
pub after_one : (t : List ℕ) {s : ℕ} → s ≡ size_of t → s ≡ 1 → 24 ≤ length t
    → take (length t - 24) (drop 24 t) ≡ drop (span_of t) t
after_one t s-is one long =
    let span : span_of t ≡ 24 = omega (arith, s-is) in
    tail_part 24 t ∙ ap (λ (e : ℕ). drop e t) (sym span)

pub after_any : (t : List ℕ) {e : ℕ} → e ≡ span_of t → take (length t - e) (drop e t) ≡ drop (span_of t) t
after_any t {e} e-is = tail_part e t ∙ ap (λ (k : ℕ). drop k t) e-is

module _ {most : ℕ} {kids left : List ℕ} {n : ℕ} (s : Limiting most kids left n) {l : Bool} (l-is : l ≡ is_listed left)
  where
    pub limit_over : l ≡ true → most ≤ n → Exceeds most kids true
    limit_over l-yes full = record {
      says = λ ns i.
          let here = read_here (s.counts.reads ns i) (sym l-is ∙ l-yes) refl refl in
          sym (lt-ltb most (length (params_in ns (forest i kids))) (omega (arith, full, here.within)));
    }

    pub limit_on : l ≡ true → n < most → {next : List ℕ} → next ≡ drop (span_of left) left
        → Limiting most kids next (n + 1)
    unfolding rest_of
    limit_on l-yes more next_is = record {
      counts = count_on s.counts (sym l-is ∙ l-yes) next_is;
      few = omega (arith, more);
    }

    pub limit_end : l ≡ false → Exceeds most kids false
    limit_end l-no = record {
      says = λ ns i.
          sym (le-ltb most (length (params_in ns (forest i kids)))
          (omega (arith, s.few, count_all s.counts (sym l-is ∙ l-no) ns i)));
    }

-- what follows a parameter is shorter
pub after_less : (t : List ℕ) {l : Bool} {next : List ℕ} → l ≡ is_listed t → l ≡ true → next ≡ drop (span_of t) t
    → length next < length t
after_less t l-is l-yes next_is = rw (next_is, length-drop) (omega (arith, listed_long t (sym l-is ∙ l-yes)))

pub after_long : (t : List ℕ) {l : Bool} → l ≡ is_listed t → l ≡ true → 24 ≤ length t
after_long t l-is l-yes = listed_long t (sym l-is ∙ l-yes)

-- Stepping over n parameters: i are stepped over, and they take at bytes
pub record Skipping (kids : List ℕ) (n at i : ℕ) : Type 0 where
  pub upto : i ≤ n
  pub inside : at ≤ length kids
  pub whole : 24 + at ≤ length kids → at % 24 ≡ 0
  pub reads : (ns : List ℕ) (j : ℕ) → n ≤ length (params_in ns (forest j kids))
      → Reading ns (params_in ns (forest j kids)) i (j + at / 24) (drop at kids)

pub skip_start : (kids : List ℕ) (n : ℕ) → Skipping kids n 0 0
skip_start kids n = record {
  upto = omega arith;
  inside = omega arith;
  whole = λ _. refl;
  reads = λ ns j h. rw (zero_index j) (read_start ns j kids);
}
  where
    zero_index : (j : ℕ) → j + 0 / 24 ≡ j
    zero_index j = omega arith

module _ {kids : List ℕ} {n at i : ℕ} (s : Skipping kids n at i) where
  pub skip_on : i < n → {e : ℕ} → e ≡ span_of (take (length kids - at) (drop at kids))
      → Skipping kids n (at + e) (i + 1)
  unfolding rest_of
  skip_on h {e} e-is =
      let here : e ≡ span_of (drop at kids) = e-is ∙ ap span_of (tail_part at kids) in
      let size : e ≡ min (24 * max 1 (size_of (drop at kids))) (length kids - at) = here
      ∙ ap (min (24 * max 1 (size_of (drop at kids)))) (length-drop at kids) in
      record {
        upto = omega arith;
        inside = omega (arith, s.inside);
        whole = λ g. omega (arith, s.whole (omega arith));
        reads = λ ns j most.
            let listed : is_listed (drop at kids) ≡ true = read_listed (s.reads ns j most) (omega arith) in
            let long : 24 ≤ length kids - at = rw length-drop at (listed_long (drop at kids) listed) in
            let index : j + (at + e) / 24 ≡ j + at / 24 + span_of (drop at kids) / 24 =
            ap (λ (m : ℕ). j + (at + m) / 24) here
            ∙ omega (arith, s.whole (omega arith)) in
            let left : drop (at + e) kids ≡ rest_of (drop at kids) = ap (λ (m : ℕ). drop (at + m) kids) here
            ∙ sym (drop-drop (span_of (drop at kids)) at kids) in
            read_on (s.reads ns j most) listed index left;
      }

  pub skip_end : n ≤ i → Skips kids n at
  skip_end h = let same : i ≡ n = omega (arith, s.upto) in
      record { within = s.inside; rest = λ ns j most. rw same at (s.reads ns j most).rest }
