-- The parameter lists of two forests whose records say the same. Both are made from one list of pairs: a kind, a name
-- and two records with the same span (`params_paired`). `unpack` reads only kinds and names, so it takes the same steps
-- on both; the node of an earlier parameter of the same name may differ, but it is not among the words that are read.
-- The induction is on the list of pairs (`run_same`). Cite `list_same` for the one error of a list, and `marks_same`
-- for its `*` and `/` markers. Assumes nothing.
use Rattle.std.specs.Prelude.{None, Option, Some, ℕ}
use Rattle.deflist.specs.declared.Written.{Written}
use mathlib.Core.Path.{◌≡◌, refl, ap}
use mathlib.Core.Bool.{Bool, true, false, not}
use mathlib.Core.List.{List, [], ◌∷◌, ◌++◌}
use Prim.Native.Nat.{ℕ, ◌+◌}
use lib.ListN.{length, drop}
use lib.Dec.{eqb, ltb}
use Rattle.fields.specs.Choice.{if'}
use Rattle.fields.proofs.Basics.{never}
use Rattle.dialect.specs.declared.Dialect.{Dialect}
use Rattle.forest.specs.Forest.{Node, node, Forest, none, ◌then◌}
use Rattle.forest.specs.Names.{name_of}
use Rattle.soundness.specs.Kinds.{parameter, class_of}
use Rattle.table.specs.Numbers.{slash_first, star_last, no_normal_after_star, too_many_parameters}
use Rattle.deflist.specs.Written.{Name, Param, node_in, kind_in, kind_at, param, param_of, params_in}
use Rattle.deflist.specs.Unpack.{written_at, has_name, first_same, repeats, rule, firstly, Step, on, stop, again, broken}
use Rattle.deflist.specs.Unpack.{unless_broken, keep, step, Outcome, accepted, normal_next}
use Rattle.deflist.specs.Unpack.{from_star, finish, after, run, is_slash, slash_from}
use Rattle.deflist.specs.Unpack.{unpack}
use Rattle.deflist.specs.Limited.{most_parameters, limited}
use Rattle.deflist.specs.Told.{told}
use Rattle.deflist.specs.declared.Kind.{Kind}
use Rattle.deflist.specs.declared.Kind.TheVariants.{Normal, NoArgs, Slash, Args, KwArgs}
use Rattle.deflist.specs.declared.Check.{Check}
use Rattle.deflist.specs.declared.Check.TheVariants.{Fine, Broken, Repeated}
use Rattle.deflist.specs.declared.Counts.{Counts}
use Rattle.deflist.specs.declared.Unpacking.{Unpacking}
use Rattle.deflist.proofs.Walking.{searches}
use Rattle.errors.specs.Errors.{err_at, unless}
use Rattle.validate.specs.Params.{is_mark, not_permitted, permits, every_mark, marks, unpack_error}
use Rattle.validate.specs.declared.Mark.{Mark}
use Rattle.parts.specs.Parts.{SameRecord, SameTrees, read}
use Rattle.parts.proofs.Pairs.{made, made_length, made_drop, made_more, is_at, found_same}
use Rattle.parts.proofs.Read.{Reads, reads_both, reads_if, reads_at}

-- two records with the same span and source file
record SamePlace (r s : Node) : Type 0 where
  begin : r.begin ≡ s.begin
  stop : r.stop ≡ s.stop
  file : r.file ≡ s.file

place_at_lem : {r s : Node} → SamePlace r s → (n : ℕ) → Reads (err_at n r ∷ []) (err_at n s ∷ [])
unfolding read
place_at_lem h n = rw (h.file, h.begin, h.stop) refl

-- an entry of two lists: its kind and name, and its record in each
record Pair : Type 0 where
  kind : Kind
  name : Name
  one : Node
  other : Node
  place : SamePlace one other

abbrev one_of : Pair → Param
one_of p = param p.kind p.one p.name

abbrev other_of : Pair → Param
other_of p = param p.kind p.other p.name

-- the two lists that pairs make
abbrev one_list : List Pair → List Param
one_list ps = made one_of ps

abbrev other_list : List Pair → List Param
other_list ps = made other_of ps

pub record Paired (l m : List Param) : Type 0 where
  pairs : List Pair
  is_one_lem : l ≡ one_list pairs
  is_other : m ≡ other_list pairs

module _ (names others : List ℕ) where
  abbrev pair_of : {r s : Node} → SameRecord names others r s → Pair
  pair_of {r} {s} h = record {
    kind = kind_at s.kind s.detail;
    name = name_of others s;
    one = r;
    other = s;
    place = record { begin = h.begin; stop = h.stop; file = h.file };
  }

  -- LAW: the parameters that come first among trees that say the same
  pub params_paired : (ts us : Forest) → SameTrees names others ts us
      → Paired (params_in names ts) (params_in others us)
  unfolding params_in param_of kind_at SameTrees made
  params_paired none none h = record { pairs = []; is_one_lem = refl; is_other = refl }
  params_paired none (u then us) h = absurd h
  params_paired (t then ts) none h = absurd h
  params_paired (node r ks then ts) (node s ls then us) ((h, below), rest) =
      go _ _ (ap (λ (k : ℕ). eqb (class_of k) parameter) h.kind) (params_paired ts us rest)
    where
      made : (k m : Kind) → k ≡ m → (x y : Name) → x ≡ y → (l n : List Param) → l ≡ n
          → param k r x ∷ l ≡ param m r y ∷ n
      made k m e x y d l n c = rw (e, d, c) refl

      kinds : (k m : ℕ) → k ≡ m → (d e : ℕ) → d ≡ e → kind_at k d ≡ kind_at m e
      kinds k m p d e q = rw (p, q) refl

      go : (b c : Bool) → b ≡ c → Paired (params_in names ts) (params_in others us)
          → Paired (if' b (λ _. param_of names r ∷ params_in names ts) (λ _. []))
          (if' c (λ _. param_of others s ∷ params_in others us) (λ _. []))
      go false false e more = record { pairs = []; is_one_lem = refl; is_other = refl }
      go true true e more = record {
        pairs = pair_of h ∷ more.pairs;
        is_one_lem = made _ _ (kinds _ _ h.kind _ _ h.detail) _ _ h.name _ _ more.is_one_lem;
        is_other = ap (λ (l : List Param). param_of others s ∷ l) more.is_other;
      }
      go true false e more = never (cc)
      go false true e more = never (cc)

-- the record and the kind of a parameter that was made from a pair
node_made : (k : Kind) (r : Node) (n : Name) → node_in (param k r n) ≡ r
node_made (Normal d) r n = refl
node_made NoArgs r n = refl
node_made Slash r n = refl
node_made Args r n = refl
node_made KwArgs r n = refl

kind_made : (k : Kind) (r : Node) (n : Name) → kind_in (param k r n) ≡ k
kind_made (Normal d) r n = refl
kind_made NoArgs r n = refl
kind_made Slash r n = refl
kind_made Args r n = refl
kind_made KwArgs r n = refl

-- both parameters of a pair have the same name, so an earlier one is found in both lists or in neither
has_same : (x : Name) (p : Pair) → has_name x (one_of p) ≡ has_name x (other_of p)
unfolding has_name
has_same x p = go p.kind
  where
    go : (k : Kind) → has_name x (param k p.one p.name) ≡ has_name x (param k p.other p.name)
    go (Normal d) = refl
    go NoArgs = refl
    go Slash = refl
    go Args = refl
    go KwArgs = refl

earlier_same : (x : Name) (ps : List Pair) → is_at (first_same x (one_list ps)) ≡ is_at (first_same x (other_list ps))
earlier_same = found_same searches one_of other_of has_same

-- the words that are read of an outcome
abbrev Same : Outcome → Outcome → Type 0
Same o q = Reads (unpack_error (told o)) (unpack_error (told q))

-- one step, and then the others
module _ {r s : Node} (h : SamePlace r s) (next then' : Unpacking → Outcome)
    (on_same : (u : Unpacking) → Same (next u) (then' u)) where
  after_same : (x : Step) → Same (after x r next) (after x s then')
  after_same (on u) = on_same u
  after_same (stop n) = place_at_lem h n
  after_same (again i) = place_at_lem h _
  after_same (broken e) = place_at_lem h _

  checked_same : (f g : Option ℕ) → is_at f ≡ is_at g → (c : Check) (x : Step)
      → Same (after (unless_broken (firstly f c) (λ _. x)) r next)
      (after (unless_broken (firstly g c) (λ _. x)) s then')
  checked_same (Some i) (Some j) e c x = place_at_lem h _
  checked_same (Some i) None e c x = never (cc)
  checked_same None (Some j) e c x = never (cc)
  checked_same None None e Fine x = after_same x
  checked_same None None e (Broken n) x = place_at_lem h n
  checked_same None None e (Repeated i) x = place_at_lem h _

  turn_same : (bs : List Pair) (u : Unpacking) (k : Kind) (n : Name)
      → Same (after (step (one_list bs) u (param k r n)) (node_in (param k r n)) next)
      (after (step (other_list bs) u (param k s n)) (node_in (param k s n)) then')
  unfolding step repeats
  turn_same bs u (Normal d) n = rw (made_length one_of bs, made_length other_of bs)
      (checked_same (first_same n (one_list bs)) (first_same n (other_list bs)) (earlier_same n bs)
      (rule u.state u.seen_optional (Normal d)) (keep u (written_at (length bs)) (Normal d)))
  turn_same bs u NoArgs n = rw (made_length one_of bs, made_length other_of bs)
      (checked_same None None refl (rule u.state u.seen_optional NoArgs)
      (keep u (written_at (length bs)) NoArgs))
  turn_same bs u Slash n = rw (made_length one_of bs, made_length other_of bs)
      (checked_same None None refl (rule u.state u.seen_optional Slash)
      (keep u (written_at (length bs)) Slash))
  turn_same bs u Args n = rw (made_length one_of bs, made_length other_of bs)
      (checked_same (first_same n (one_list bs)) (first_same n (other_list bs)) (earlier_same n bs)
      (rule u.state u.seen_optional Args) (keep u (written_at (length bs)) Args))
  turn_same bs u KwArgs n = rw (made_length one_of bs, made_length other_of bs)
      (checked_same (first_same n (one_list bs)) (first_same n (other_list bs)) (earlier_same n bs)
      (rule u.state u.seen_optional KwArgs) (keep u (written_at (length bs)) KwArgs))

-- after the last parameter
next_same : (q : Pair) (c : Counts) (k : Kind) → Same (normal_next (param k q.one q.name) (accepted c))
    (normal_next (param k q.other q.name) (accepted c))
next_same q c (Normal d) = refl
next_same q c NoArgs = place_at_lem q.place no_normal_after_star
next_same q c Slash = place_at_lem q.place no_normal_after_star
next_same q c Args = place_at_lem q.place no_normal_after_star
next_same q c KwArgs = place_at_lem q.place no_normal_after_star

star_same : (ps : List Pair) (c : Counts)
    → Same (from_star (one_list ps) (accepted c)) (from_star (other_list ps) (accepted c))
unfolding made
star_same [] c = refl
star_same (p ∷ []) c =
    rw (node_made p.kind p.one p.name, node_made p.kind p.other p.name) (place_at_lem p.place star_last)
star_same (p ∷ q ∷ ps) c = next_same q c q.kind

finish_same : (ps : List Pair) (star : Option Written) (c : Counts)
    → Same (finish (one_list ps) star c) (finish (other_list ps) star c)
unfolding finish
finish_same ps None c = refl
finish_same ps (Some i) c =
    rw (made_drop one_of i.0 ps, made_drop other_of i.0 ps) (star_same (drop i.0 ps) c)

run_same : (bs : List Pair) (u : Unpacking) (ps : List Pair)
    → Same (run (one_list bs) u (one_list ps)) (run (other_list bs) u (other_list ps))
unfolding run made
run_same bs u [] = finish_same bs u.index_of_star u.counts
run_same bs u (p ∷ ps) =
    turn_same p.place _ _
    (λ v. rw (made_more one_of bs p, made_more other_of bs p) (run_same (bs ++ p ∷ []) v ps)) bs u p.kind p.name

slash_same : (i : ℕ) (ps : List Pair) → slash_from i (one_list ps) ≡ slash_from i (other_list ps)
unfolding slash_from made
slash_same i [] = refl
slash_same i (p ∷ ps) =
    rw (kind_made p.kind p.one p.name, kind_made p.kind p.other p.name, slash_same (i + 1) ps) refl

choose_same : (b : Bool) (x y v w : Unit {0} → Outcome) → Same (x tt) (v tt) → Same (y tt) (w tt)
    → Same (if' b x y) (if' b v w)
choose_same true x y v w p q = p
choose_same false x y v w p q = q

unpack_same : (ps : List Pair) → Same (unpack (one_list ps)) (unpack (other_list ps))
unfolding unpack made
unpack_same [] = run_same [] _ []
unpack_same (p ∷ ps) =
    rw (kind_made p.kind p.one p.name, kind_made p.kind p.other p.name, slash_same 0 (p ∷ ps))
    (choose_same (is_slash p.kind) _ _ _ _
    (rw (node_made p.kind p.one p.name, node_made p.kind p.other p.name)
    (place_at_lem p.place slash_first)) (run_same [] _ (p ∷ ps)))

-- LAW: the one error of a list, where the owners say the same
module _ {names others : List ℕ} {r s : Node} (h : SameRecord names others r s) {l m : List Param} where
  pub list_same : Paired l m → Reads (unpack_error (told (limited r l))) (unpack_error (told (limited s m)))
  unfolding limited
  list_same both =
      rw (both.is_one_lem, both.is_other, made_length one_of both.pairs, made_length other_of both.pairs)
      (choose_same (ltb most_parameters (length both.pairs)) _ _ _ _
      (reads_at h too_many_parameters)
      (unpack_same both.pairs))

-- LAW: the `*` and `/` markers of a list
every_same : (m : Mark) (ps : List Pair) → Reads (every_mark m (one_list ps)) (every_mark m (other_list ps))
unfolding every_mark made
every_same m [] = refl
every_same m (p ∷ ps) =
    rw (kind_made p.kind p.one p.name, kind_made p.kind p.other p.name)
    (rw (node_made p.kind p.one p.name, node_made p.kind p.other p.name)
    (reads_both _ _ _ _ (mark_here (not (is_mark m p.kind))) (every_same m ps)))
  where
    mark_here : (b : Bool) → Reads (unless b (not_permitted m) p.one) (unless b (not_permitted m) p.other)
    mark_here true = refl
    mark_here false = place_at_lem p.place (not_permitted m)

pub marks_same : (d : Dialect) (m : Mark) {l k : List Param} → Paired l k → Reads (marks d m l) (marks d m k)
marks_same d m both =
    rw (both.is_one_lem, both.is_other) (reads_if (permits d m) _ refl _ _ _ _ refl (every_same m both.pairs))
