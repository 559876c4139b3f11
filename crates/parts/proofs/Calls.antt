-- The argument lists of two calls whose records say the same. As with parameters (Lists), both are made from one list
-- of pairs: a kind, a name and two records at the same source position (`arguments_paired`). `unpack` reads only kinds
-- and names; the node of an earlier argument of the same name may differ, but it is not among the words that are read.
-- The place of 22 is the name: it begins at the record's source position and ends after the length of the name. The
-- induction is on the list of pairs (`run_same`). Cite `call_same`. Assumes nothing.
use Rattle.std.specs.Prelude.{None, Option, Some, ℕ}
use mathlib.Core.Path.{◌≡◌, refl, ap}
use mathlib.Core.Bool.{Bool, true, false}
use mathlib.Core.List.{List, [], ◌∷◌, ◌++◌}
use Prim.Native.Nat.{ℕ}
use lib.ListN.{length}
use lib.Dec.{eqb}
use Rattle.fields.specs.Choice.{if'}
use Rattle.fields.proofs.Basics.{never}
use Rattle.forest.specs.Forest.{Node, Tree, node, Forest, none, ◌then◌}
use Rattle.forest.specs.Names.{name_of}
use Rattle.table.specs.Answer.{refused_at}
use Rattle.table.specs.Numbers.{named_after_star, repeated_named}
use Rattle.arguments.specs.Written.{Name, Argument, node_in, kind_in, kind_at, argument, argument_of, arguments_in}
use Rattle.arguments.specs.Written.{arguments_of}
use Rattle.arguments.specs.Call.{past_named, has_name, first_same, repeats, new_name, rule, check, advance, total, taken}
use Rattle.arguments.specs.Call.{Outcome, unless_broken, run, start, unpack}
use Rattle.arguments.specs.Job.{refused_at_name, outcome_answer, call_answer}
use Rattle.arguments.specs.declared.Kind.{Kind}
use Rattle.arguments.specs.declared.Kind.TheVariants.{Positional, Named, Args, KwArgs}
use Rattle.arguments.specs.declared.ArgsStage.{ArgsStage}
use Rattle.arguments.specs.declared.Check.{Check}
use Rattle.arguments.specs.declared.Check.TheVariants.{Fine, Broken, Repeated}
use Rattle.arguments.specs.declared.Walk.{Walk}
use Rattle.arguments.proofs.Walking.{searches}
use Rattle.parts.specs.Parts.{SameRecord, SameTree, SameTrees, read}
use Rattle.parts.proofs.Pairs.{made, made_length, made_more, is_at, found_same}
use Rattle.parts.proofs.Read.{Answers}

-- an entry of two lists: its kind and name, and its record in each, which have the same span and the same position of
-- the name
record Pair : Type 0 where
  kind : Kind
  name : Name
  one : Node
  other : Node
  begin : one.begin ≡ other.begin
  stop : one.stop ≡ other.stop
  file : one.file ≡ other.file
  source : one.source ≡ other.source
  name_len : one.name_len ≡ other.name_len

at_same : (p : Pair) (n : ℕ) → Answers (refused_at n p.one) (refused_at n p.other)
unfolding read
at_same p n = rw (p.file, p.begin, p.stop) refl

at_name_same : (p : Pair) (n i j : ℕ) → Answers (refused_at_name n p.one i) (refused_at_name n p.other j)
unfolding read
at_name_same p n i j = rw (p.file, p.source, p.name_len) refl

abbrev one_of : Pair → Argument
one_of p = argument p.kind p.one p.name

abbrev other_of : Pair → Argument
other_of p = argument p.kind p.other p.name

-- the two lists that pairs make
abbrev one_list : List Pair → List Argument
one_list ps = made one_of ps

abbrev other_list : List Pair → List Argument
other_list ps = made other_of ps

record Paired (l m : List Argument) : Type 0 where
  pairs : List Pair
  is_one_lem : l ≡ one_list pairs
  is_other : m ≡ other_list pairs

module _ (names others : List ℕ) where
  abbrev pair_of : {r s : Node} → SameRecord names others r s → Pair
  pair_of {r} {s} h = record {
    kind = kind_at s.kind;
    name = name_of others s;
    one = r;
    other = s;
    begin = h.begin;
    stop = h.stop;
    file = h.file;
    source = h.source;
    name_len = h.name_len;
  }

  arguments_paired : (ts us : Forest) → SameTrees names others ts us
      → Paired (arguments_in names ts) (arguments_in others us)
  unfolding arguments_in argument_of kind_at SameTrees made
  arguments_paired none none h = record { pairs = []; is_one_lem = refl; is_other = refl }
  arguments_paired none (u then us) h = absurd h
  arguments_paired (t then ts) none h = absurd h
  arguments_paired (node r ks then ts) (node s ls then us) ((h, below), rest) =
      let more = arguments_paired ts us rest in
      record {
        pairs = pair_of h ∷ more.pairs;
        is_one_lem = made _ _ (ap kind_at h.kind) _ _ h.name _ _ more.is_one_lem;
        is_other = ap (λ (l : List Argument). argument_of others s ∷ l) more.is_other;
      }
    where
      made : (k m : Kind) → k ≡ m → (x y : Name) → x ≡ y → (l n : List Argument) → l ≡ n
          → argument k r x ∷ l ≡ argument m r y ∷ n
      made k m e x y d l n c = rw (e, d, c) refl

  call_paired : (t u : Tree) → SameTree names others t u → Paired (arguments_of names t) (arguments_of others u)
  unfolding SameTree arguments_in
  call_paired (node r none) (node s none) h = arguments_paired none none tt
  call_paired (node r none) (node s (u then us)) (h, below) = absurd below
  call_paired (node r (t then ts)) (node s none) (h, below) = absurd below
  call_paired (node r (t then ts)) (node s (u then us)) (h, (callee, rest)) = arguments_paired ts us rest

-- the record and the kind of an argument that was made from a pair
node_made : (k : Kind) (r : Node) (n : Name) → node_in (argument k r n) ≡ r
node_made Positional r n = refl
node_made Named r n = refl
node_made Args r n = refl
node_made KwArgs r n = refl

kind_made : (k : Kind) (r : Node) (n : Name) → kind_in (argument k r n) ≡ k
kind_made Positional r n = refl
kind_made Named r n = refl
kind_made Args r n = refl
kind_made KwArgs r n = refl

-- both arguments of a pair have the same name, so an earlier one is found in both lists or in neither
has_same : (x : Name) (p : Pair) → has_name x (one_of p) ≡ has_name x (other_of p)
unfolding has_name
has_same x p = go p.kind
  where
    go : (k : Kind) → has_name x (argument k p.one p.name) ≡ has_name x (argument k p.other p.name)
    go Positional = refl
    go Named = refl
    go Args = refl
    go KwArgs = refl

earlier_same : (x : Name) (ps : List Pair) → is_at (first_same x (one_list ps)) ≡ is_at (first_same x (other_list ps))
earlier_same = found_same searches one_of other_of has_same

-- the words that are read of an outcome
abbrev Same : Outcome → Outcome → Type 0
Same o q = Answers (outcome_answer o) (outcome_answer q)

choose_same : (b : Bool) (x y v w : Unit {0} → Outcome) → Same (x tt) (v tt) → Same (y tt) (w tt)
    → Same (if' b x y) (if' b v w)
choose_same true x y v w p q = p
choose_same false x y v w p q = q

-- one argument, and then the others
module _ (p : Pair) (next more : Unit {0} → Outcome) (on_same : Same (next tt) (more tt)) where
  checked_same : (c : Check) → Same (unless_broken c p.one next) (unless_broken c p.other more)
  checked_same Fine = on_same
  checked_same (Broken n) = at_same p n
  checked_same (Repeated i) = at_name_same p repeated_named i i

  named_same : (past : Bool) (f g : Option ℕ) → is_at f ≡ is_at g
      → Same (unless_broken (if' past (λ _. Broken named_after_star) (λ _. new_name f)) p.one next)
      (unless_broken (if' past (λ _. Broken named_after_star) (λ _. new_name g)) p.other more)
  named_same true f g e = at_same p named_after_star
  named_same false (Some i) (Some j) e = at_name_same p repeated_named i j
  named_same false (Some i) None e = never (cc)
  named_same false None (Some j) e = never (cc)
  named_same false None None e = on_same

  turn_same : (bs : List Pair) (stage : ArgsStage) (k : Kind) (n : Name)
      → Same (unless_broken (check (one_list bs) stage (argument k p.one n)) p.one next)
      (unless_broken (check (other_list bs) stage (argument k p.other n)) p.other more)
  unfolding check repeats
  turn_same bs stage Positional n = checked_same (rule stage None Positional)
  turn_same bs stage Named n =
      named_same (past_named stage) (first_same n (one_list bs)) (first_same n (other_list bs)) (earlier_same n bs)
  turn_same bs stage Args n = checked_same (rule stage None Args)
  turn_same bs stage KwArgs n = checked_same (rule stage None KwArgs)

run_same : (bs : List Pair) (w : Walk) (ps : List Pair)
    → Same (run (one_list bs) w (one_list ps)) (run (other_list bs) w (other_list ps))
unfolding run made
run_same bs w [] =
    rw (made_length one_of bs, made_length other_of bs)
    (choose_same (eqb (total w.counts) (length bs)) _ _ _ _ refl refl)
run_same bs w (p ∷ ps) =
    rw (node_made p.kind p.one p.name, node_made p.kind p.other p.name)
    (rw (kind_made p.kind p.one p.name, kind_made p.kind p.other p.name)
    (rw (made_more one_of bs p, made_more other_of bs p, made_length one_of bs, made_length other_of bs)
    (turn_same p _ _ (choose_same (taken w.counts p.kind) _ _ _ _ refl
    (run_same (bs ++ p ∷ []) (advance w (length bs) p.kind) ps)) bs w.stage p.kind p.name)))

-- LAW: a call
pub call_same : (names others : List ℕ) (t u : Tree) → SameTree names others t u
    → Answers (call_answer names t) (call_answer others u)
unfolding call_answer unpack made
call_same names others t u h =
    let both = call_paired names others t u h in
    rw (both.is_one_lem, both.is_other) (run_same [] start both.pairs)
