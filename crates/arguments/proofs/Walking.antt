-- The walk of code over the records behind a callee gives what `unpack` gives for the written arguments. After n
-- records the code is where `unpack` is after n arguments (`Walking`, its field `rest`). A turn is refused
-- (`walk_refused`) or goes on (`walk_on`), because the check of code is that of `unpack`: the search for 22 among
-- records is the search among arguments (`list_entries`, by induction on the siblings), and it is skipped only where
-- the marks show that the name is new (`meets_new`). At the end as many are counted as there are (`walk_end`, Order's
-- `order_total`). Assumes nothing.
use Rattle.std.specs.Prelude.{Err, None, Ok, Option, Result, Some, ℕ}
use mathlib.Core.Path.{◌≡◌, refl, sym, ap, ◌∙◌}
use mathlib.Core.Bool.{Bool, true, false, ◌&&◌}
use mathlib.Core.List.{List, [], ◌∷◌, ◌++◌}
use Prim.Native.Nat.{ℕ, zero, suc, ◌+◌, ◌*◌, ◌/◌, ◌<◌, ◌≤◌, ◌^◌}
use native.Mathlib.Nat.{add-zero}
use native.Mathlib.Omega.{arith}
use lib.ListN.{length, take, length-append}
use lib.Seq.{append_snoc, take-append_seam, take-nil}
use lib.Dec.{eqb}
use borrow.Author.Tests.{eqb-true}
use Rattle.fields.specs.Choice.{if'}
use Rattle.fields.proofs.Basics.{never}
use Rattle.forest.specs.Forest.{Node, node_of, span_of, rest_of, Forest, none, node, ◌then◌, forest, roots}
use Rattle.forest.specs.Names.{name_of, same}
use Rattle.forest.specs.Marks.{may_stand, noted, Known}
use Rattle.forest.proofs.Marked.{Searches, known_start, known_named, known_other, known_new}
use Rattle.forest.proofs.Stretch.{forest_none, forest_tree, length_rest}
use Rattle.table.specs.Answer.{accepted, refusal, checked}
use Rattle.table.specs.declared.Refusal.{Refusal}
use Rattle.table.proofs.Answers.{never_accepted}
use Rattle.arguments.specs.Written.{Name, Argument, node_in, kind_in, kind_at, argument, argument_of, arguments_in}
use Rattle.soundness.specs.KindNumbers.{kind_positional, kind_named, kind_args_arg}
use Rattle.table.specs.Numbers.{named_after_star}
use Rattle.table.specs.Check.{Within}
use Rattle.table.specs.Naming as entry
use Rattle.table.specs.Naming.{bears_name, first_named, counted_from}
use Rattle.table.specs.declared.Entries.TheVariants.{Arguments}
use Rattle.table.proofs.Naming.{first_shifted, first_within}
use Rattle.arguments.proofs.Steps.{name_none, name_tested, repeats_none, repeats_named}
use Rattle.arguments.specs.Call.{has_name, first_same, repeats, rule, check, advance, Outcome, unless_broken, run}
use Rattle.arguments.specs.Call.{start, unpack, past_positional, past_named, in_kwargs, new_name}
use Rattle.arguments.specs.Reading.{SmallFound, SmallCheck, Earlier, Meets}
use Rattle.arguments.specs.declared.ArgsStage.{ArgsStage}
use Rattle.arguments.specs.Job.{call_values, check_answer, outcome_answer}
use Rattle.arguments.specs.declared.Kind.{Kind}
use Rattle.arguments.specs.declared.Kind.TheVariants.{Positional, Named, Args, KwArgs}
use Rattle.arguments.specs.declared.Check.{Check}
use Rattle.arguments.specs.declared.Check.TheVariants.{Fine, Broken, Repeated}
use Rattle.arguments.specs.declared.Walk.{Walk}
use Rattle.arguments.proofs.Order.{Walked, walked_start, order_total, kinds_long, walked_more, run_more}
use Rattle.arguments.proofs.Order.{run_last}

-- the record of the argument that a record is
pub node_in_lem : (ns : List ℕ) (r : Node) → node_in (argument_of ns r) ≡ r
unfolding argument_of
node_in_lem ns r = go (kind_at r.kind)
  where
    go : (k : Kind) → node_in (argument k r (name_of ns r)) ≡ r
    go Positional = refl
    go Named = refl
    go Args = refl
    go KwArgs = refl

-- a stretch has no argument, or one that is followed by those of the rest
module _ (ns : List ℕ) (i : ℕ) (t : List ℕ) where
  pub list_end : length t < 24 → arguments_in ns (forest i t) ≡ []
  unfolding arguments_in
  list_end h = rw (forest_none i t h) refl

  pub list_on : {next : ℕ} {after : List ℕ} → 24 ≤ length t → next ≡ i + span_of t / 24 → after ≡ rest_of t
      → arguments_in ns (forest i t) ≡ argument_of ns (node_of i t) ∷ arguments_in ns (forest next after)
  unfolding arguments_in
  list_on big next-is after-is = rw (forest_tree i t big, next-is, after-is) refl

  -- the kind of its argument; the tests do not read its index
  kind_in_lem : kind_in (argument_of ns (node_of i t)) ≡ kind_at (node_of 0 t).kind
  unfolding argument_of
  kind_in_lem = go (kind_at (node_of 0 t).kind)
    where
      go : (k : Kind) → kind_in (argument k (node_of i t) (name_of ns (node_of i t))) ≡ k
      go Positional = refl
      go Named = refl
      go Args = refl
      go KwArgs = refl

  has_anywhere : (x : Name) → has_name x (argument_of ns (node_of 0 t)) ≡ has_name x (argument_of ns (node_of i t))
  unfolding argument_of has_name name_of
  has_anywhere x = go (kind_at (node_of 0 t).kind)
    where
      go : (k : Kind) → has_name x (argument k (node_of 0 t) (name_of ns (node_of 0 t)))
          ≡ has_name x (argument k (node_of i t) (name_of ns (node_of i t)))
      go Positional = refl
      go Named = refl
      go Args = refl
      go KwArgs = refl

  repeats_anywhere : (before : List Argument)
      → repeats before (argument_of ns (node_of 0 t)) ≡ repeats before (argument_of ns (node_of i t))
  unfolding argument_of repeats name_of
  repeats_anywhere before = go (kind_at (node_of 0 t).kind)
    where
      go : (k : Kind) → repeats before (argument k (node_of 0 t) (name_of ns (node_of 0 t)))
          ≡ repeats before (argument k (node_of i t) (name_of ns (node_of i t)))
      go Positional = refl
      go Named = refl
      go Args = refl
      go KwArgs = refl

-- an argument that bears a name is named, and the first n are searched as the first n entries
named_kind : (k : ℕ) (r : Node) (n : Name) (x : Name)
    → has_name x (argument (kind_at k) r n) ≡ (bears_name Arguments k && same n x)
unfolding kind_at bears_name has_name
named_kind k r n x = go (eqb k kind_named) refl
  where
    other : (a b : Bool) → has_name x (argument (if' a (λ _. Positional) (λ _. if' b (λ _. Args) (λ _. KwArgs))) r n)
        ≡ false
    other true b = refl
    other false true = refl
    other false false = refl

    go : (b : Bool) → eqb k kind_named ≡ b
        → has_name x (argument (if' (eqb k kind_positional) (λ _. Positional) (λ _.
        if' b (λ _. Named) (λ _. if' (eqb k kind_args_arg) (λ _. Args) (λ _. KwArgs)))) r n) ≡ (b && same n x)
    go true e = let k_is : k ≡ kind_named = eqb-true k kind_named e in rw k_is refl
    go false e = other (eqb k kind_positional) (eqb k kind_args_arg)

has_entry : (ns x : List ℕ) (r : Node) → has_name x (argument_of ns r) ≡ entry.has_name Arguments ns x r
unfolding argument_of entry.has_name
has_entry ns x r = named_kind r.kind r (name_of ns r) x

list_entries : (ns x : List ℕ) (f : Forest) (n : ℕ)
    → first_same x (take n (arguments_in ns f)) ≡ first_named Arguments ns x (take n (roots f))
unfolding arguments_in roots first_same first_named
list_entries ns x none n = rw (take-nil n, take-nil n) refl
list_entries ns x (node r ks then ts) zero = refl
list_entries ns x (node r ks then ts) (suc n) = rw (has_entry ns x r, node_in_lem ns r, list_entries ns x ts n) refl

-- what is found behind the callee is an earlier argument
module _ (ns x args : List ℕ) (first n : ℕ) (within : Within first args) {f : Option ℕ}
    (f-is : f ≡ first_named Arguments ns x (take n (roots (forest 0 args)))) where
  found_same : counted_from first f ≡ first_same x (take n (arguments_in ns (forest first args)))
  found_same = rw f-is (sym (list_entries ns x (forest first args) n
      ∙ rw add-zero at (first_shifted Arguments ns x first 0 args n)))

  earlier_small : {i : ℕ} → f ≡ Some i → first + i < 4294967296
  earlier_small h = omega (arith, first_within Arguments ns x 0 args n _ (sym f-is ∙ h))

  pub earlier_room : {i : ℕ} → f ≡ Some i → first + i < 2 ^ 64
  earlier_room h = omega (arith, earlier_small h)

  pub earlier_at : {i : ℕ} → f ≡ Some i → Earlier x (take n (arguments_in ns (forest first args))) (Some (first + i))
  earlier_at h = record { says = rw h at found_same; small = earlier_small h }

  pub earlier_none : f ≡ None → Earlier x (take n (arguments_in ns (forest first args))) None
  earlier_none h = record { says = rw h at found_same; small = tt }

-- the search for an earlier name goes by `has_name`
unfoldable pub searches : Searches first_same has_name
unfolding first_same
searches = record { node = λ p. (node_in p).at; none = λ x. refl; first = λ x p l. refl }

-- the marks know one argument more: a named one is noted; a name that they do not show is new
module _ (ns : List ℕ) {marks : List ℕ} {before : List Argument} (known : Known first_same marks before) (left : List ℕ)
    {k : ℕ} (k_is : k ≡ (node_of 0 left).kind) where
  pub meets_none : (k ≡ kind_named → ⊥) → Meets ns before left marks None
  meets_none d = record {
    says = λ i. repeats_none ns before left k_is d ∙ repeats_anywhere ns i left before;
    small = tt;
    known = λ i. known_other searches known _ (λ x. name_none ns x left k_is d ∙ has_anywhere ns i left x);
  }

  module _ (h : k ≡ kind_named) {x : Name} (x-is : x ≡ name_of ns (node_of 0 left)) {m : List ℕ}
      (m_is : m ≡ noted marks x)
    where
      pub meets_searched : {r : Option ℕ} → Earlier x before r → Meets ns before left m r
      meets_searched r-is = record {
        says = λ i. repeats_named ns before left k_is h x-is r-is.says ∙ repeats_anywhere ns i left before;
        small = r-is.small;
        known = λ i. rw m_is (known_named searches known _ x
            (λ y. name_tested ns y left k_is h x-is refl ∙ has_anywhere ns i left y));
      }

      pub meets_new : {t : Bool} → t ≡ may_stand marks x → t ≡ false → Meets ns before left m None
      meets_new t-is new = meets_searched (record { says = known_new known t-is new; small = tt })

-- The walk: n arguments are read, and the node at comes next
pub record Walking (ns args : List ℕ) (first : ℕ) (marks₀ marks : List ℕ) (w : Walk) (left : List ℕ) (at n : ℕ) : Type 0
  where
    pub before : List Argument
    pub many : length before ≡ n
    pub all : before ++ arguments_in ns (forest at left) ≡ arguments_in ns (forest first args)
    pub fits : Within first args
    pub room : 24 * at + length left ≤ 24 * first + length args
    pub from : first + n ≤ at
    pub walked : Walked before w
    pub known : Known first_same marks before
    pub long : length marks ≡ length marks₀
    pub rest : run before w (arguments_in ns (forest at left)) ≡ unpack (arguments_in ns (forest first args))

pub walk_start : (ns args : List ℕ) (first : ℕ) (marks : List ℕ) → Within first args
    → Walking ns args first marks marks start args first 0
unfolding unpack
walk_start ns args first marks fits = record {
  before = [];
  many = refl;
  all = refl;
  fits = fits;
  room = omega arith;
  from = omega arith;
  walked = walked_start;
  known = known_start searches marks;
  long = refl;
  rest = refl;
}

test_small : (b : Bool) (n : ℕ) → SmallCheck (if' b (λ _. Broken n) (λ _. Fine))
test_small true n = tt
test_small false n = tt

-- the check of an argument carries no more than what was found
check_small : (s : ArgsStage) (f : Option ℕ) (k : Kind) → SmallFound f → SmallCheck (rule s f k)
check_small s f Positional h = test_small (past_positional s) _
check_small s f Named h = go (past_named s) f h
  where
    go : (b : Bool) (f : Option ℕ) → SmallFound f
        → SmallCheck (if' b (λ _. Broken named_after_star) (λ _. new_name f))
    go true f h = tt
    go false (Some i) h = h
    go false None h = tt
check_small s f Args h = test_small (past_named s) _
check_small s f KwArgs h = test_small (in_kwargs s) _

-- an argument that is not refused is fine
fine_told : (c : Check) (r : Node) → accepted [] ≡ check_answer c r → c ≡ Fine
fine_told Fine r e = refl
fine_told (Broken n) r e = never (cc)
fine_told (Repeated i) r e = never (cc)

module _ {ns args : List ℕ} {first : ℕ} {marks₀ marks : List ℕ} {w : Walk} {left : List ℕ} {at n : ℕ}
    (k : Walking ns args first marks₀ marks w left at n) where
  read : take n (arguments_in ns (forest first args)) ≡ k.before
  read = rw (← k.all, ← k.many) (take-append_seam k.before (arguments_in ns (forest at left)))

  pub walk_known : Known first_same marks (take n (arguments_in ns (forest first args)))
  walk_known = rw read k.known

  pub walk_end : length left < 24
      → accepted (call_values w.counts) ≡ outcome_answer (unpack (arguments_in ns (forest first args)))
  walk_end h =
      let last : run k.before w [] ≡ unpack (arguments_in ns (forest first args)) = rw (list_end ns at left h) at
      k.rest in
      rw (← last, run_last k.before w (sym (order_total k.walked) ∙ kinds_long k.before)) refl

  -- what is read is there, and no more is counted
  pub walk_upto : n ≤ length (arguments_in ns (forest first args))
  walk_upto = omega (arith, k.many, ap length k.all, length-append k.before (arguments_in ns (forest at left)))

  pub walk_small : (w.counts.num_pos < 4294967295) × (w.counts.num_named < 4294967295)
  walk_small = omega (arith, k.fits, k.many, k.from, k.room, order_total k.walked, kinds_long k.before)

  module _ (big : 24 ≤ length left) {m : List ℕ} {f : Option ℕ}
      (met : Meets ns (take n (arguments_in ns (forest first args))) left m f) {q : Kind}
      (q-is : q ≡ kind_at (node_of 0 left).kind) {c : Check} (c-is : c ≡ rule w.stage f q) where
    pub walk_carried : SmallCheck c
    walk_carried = rw c-is (check_small w.stage f q met.small)

    check_here : check k.before w.stage (argument_of ns (node_of at left)) ≡ c
    unfolding check
    check_here = sym (c-is ∙ rw (met.says at, q-is, read, ← (kind_in_lem ns at left)) refl)

    pub walk_refused : {j : Result (Unit {0}) Refusal} {why : Refusal} → checked j ≡ check_answer c (node_of at left)
        → j ≡ Err why
        → refusal why ≡ outcome_answer (unpack (arguments_in ns (forest first args)))
    unfolding run
    walk_refused {j} {why} j-is h =
        rw (← k.rest, list_on ns at left big refl refl, check_here, node_in_lem ns (node_of at left))
        (go c _ (rw h at j-is))
      where
        go : (c : Check) (next : Unit {0} → Outcome) → refusal why ≡ check_answer c (node_of at left)
            → refusal why ≡ outcome_answer (unless_broken c (node_of at left) next)
        go Fine next e = never_accepted why e
        go (Broken m) next e = e
        go (Repeated i) next e = e

    pub walk_on : length m ≡ length marks → {j : Result (Unit {0}) Refusal} {v : Walk} {next : ℕ} {after : List ℕ}
        → checked j ≡ check_answer c (node_of at left) → j ≡ Ok tt → v ≡ advance w n q → next ≡ at + span_of left / 24
        → after ≡ rest_of left → Walking ns args first marks₀ m v after next (n + 1)
    walk_on same-long {j} {v} {next} {after} j-is h v-is next-is after-is =
        let p : Argument = argument_of ns (node_of at left) in
        let ps : List Argument = arguments_in ns (forest next after) in
        let here : arguments_in ns (forest at left) ≡ p ∷ ps = list_on ns at left big next-is after-is in
        let less = length_rest left in
        let fine : check k.before w.stage p ≡ Fine = check_here ∙ fine_told c (node_of at left) (rw h at j-is) in
        let v-is' : v ≡ advance w (length k.before) (kind_in p) = v-is
        ∙ rw (k.many, kind_in_lem ns at left, q-is) refl in
        record {
          before = k.before ++ p ∷ [];
          many = simp length-append (omega (arith, k.many));
          all = append_snoc k.before p ps ∙ rw (← here) k.all;
          fits = k.fits;
          room = omega (arith, k.room, next-is, ap length after-is, less);
          from = omega (arith, big, k.from, next-is);
          known = rw read at (met.known at);
          long = same-long ∙ k.long;
          walked = rw v-is' (walked_more k.before w p ps fine k.walked);
          rest = rw (v-is', ← (run_more k.before w p ps fine k.walked), ← here) k.rest;
        }
