-- One law for each return of the functions that judge a single argument: its kind, the tests of the stage, the rules 20
-- to 24, the span of a name, and what a refusal carries. The tests before a return are known, so the definition
-- computes; nothing here recurs. The last laws put the rule of a list behind the checks of `judge` and `call`. Assumes
-- nothing.
use Rattle.std.specs.Prelude.{None, Option, Some, ℕ}
use mathlib.Core.Path.{◌≡◌, refl, sym, ap, ◌∙◌}
use mathlib.Core.Bool.{Bool, true, false}
use mathlib.Core.List.{List, [], ◌∷◌, ◌++◌}
use Prim.Native.Nat.{ℕ, ◌+◌, ◌-◌, ◌/◌, ◌<◌}
use native.Mathlib.Omega.{arith}
use lib.ListN.{length, take, drop, length-take, length-drop}
use lib.Dec.{eqb}
use borrow.Author.Tests.{ne_eqb}
use Rattle.fields.specs.Choice.{if'}
use Rattle.forest.specs.Forest.{Node, node_of, span_of, forest, tree_of}
use Rattle.forest.specs.Names.{name_of, same}
use Rattle.forest.proofs.Stretch.{forest_none, forest_tree, kids_part, rest_part, record_or_none}
use Rattle.soundness.specs.KindNumbers.{kind_positional, kind_named, kind_args_arg}
use Rattle.table.specs.Numbers.{named_after_star, repeated_named}
use Rattle.table.specs.Answer.{Answer, accepted, refused, span_values}
use Rattle.table.specs.Check.{is_headed, headed_of}
use Rattle.table.proofs.Heads.{headed_leaf, headed_is}
use Rattle.table.specs.declared.Span.{Span}
use Rattle.arguments.specs.Written.{Name, Argument, kind_at, argument, argument_of, arguments_in}
use Rattle.arguments.specs.Call.{past_named, has_name, first_same, repeats, new_name, named_rule, rule, run, unpack}
use Rattle.arguments.specs.Job.{name_span, check_answer, outcome_answer, call_answer}
use Rattle.arguments.specs.Reading.{SmallCheck}
use Rattle.arguments.specs.declared.Kind.{Kind}
use Rattle.arguments.specs.declared.Kind.TheVariants.{Positional, Named, Args, KwArgs}
use Rattle.arguments.specs.declared.ArgsStage.{ArgsStage}
use Rattle.arguments.specs.declared.Check.{Check}
use Rattle.arguments.specs.declared.Check.TheVariants.{Broken, Repeated}

-- the kind of the argument that a record's kind says
module _ {k m : ℕ} (k_is : k ≡ m) where
  pub kind_positional_lem : k ≡ kind_positional → Positional ≡ kind_at m
  unfolding kind_at
  kind_positional_lem h = rw (← k_is, h) refl

  pub kind_named_lem : k ≡ kind_named → Named ≡ kind_at m
  unfolding kind_at
  kind_named_lem h = rw (← k_is, h) refl

  pub kind_args : k ≡ kind_args_arg → Args ≡ kind_at m
  unfolding kind_at
  kind_args h = rw (← k_is, h) refl

  pub kind_kwargs : (k ≡ kind_positional → ⊥) → (k ≡ kind_named → ⊥) → (k ≡ kind_args_arg → ⊥) → KwArgs ≡ kind_at m
  unfolding kind_at
  kind_kwargs d e f = rw (← k_is, ne_eqb k kind_positional d, ne_eqb k kind_named e, ne_eqb k kind_args_arg f) refl

-- an argument has a name if it is named
module _ (ns x t : List ℕ) {k : ℕ} (k_is : k ≡ (node_of 0 t).kind) where
  pub name_none : (k ≡ kind_named → ⊥) → false ≡ has_name x (argument_of ns (node_of 0 t))
  unfolding argument_of has_name kind_at
  name_none d = rw (← k_is, ne_eqb k kind_named d) (go (eqb k kind_positional) (eqb k kind_args_arg) _ _)
    where
      go : (p q : Bool) (r : Node) (n : Name)
          → false ≡ has_name x (argument (if' p (λ _. Positional) (λ _. if' q (λ _. Args) (λ _. KwArgs))) r n)
      go true q r n = refl
      go false true r n = refl
      go false false r n = refl

  pub name_tested : k ≡ kind_named → {nm : List ℕ} {b : Bool} → nm ≡ name_of ns (node_of 0 t) → b ≡ same nm x
      → b ≡ has_name x (argument_of ns (node_of 0 t))
  unfolding argument_of has_name
  name_tested h nm-is b_is = b_is ∙ rw (← (kind_named_lem k_is h), nm-is) refl

-- what an argument repeats: one with another kind nothing, a named one the first of its name
module _ (ns : List ℕ) (before : List Argument) (t : List ℕ) {k : ℕ} (k_is : k ≡ (node_of 0 t).kind) where
  pub repeats_none : (k ≡ kind_named → ⊥) → None ≡ repeats before (argument_of ns (node_of 0 t))
  unfolding argument_of repeats kind_at
  repeats_none d = rw (← k_is, ne_eqb k kind_named d) (go (eqb k kind_positional) (eqb k kind_args_arg) _ _)
    where
      go : (p q : Bool) (r : Node) (n : Name)
          → None ≡ repeats before (argument (if' p (λ _. Positional) (λ _. if' q (λ _. Args) (λ _. KwArgs))) r n)
      go true q r n = refl
      go false true r n = refl
      go false false r n = refl

  pub repeats_named : k ≡ kind_named → {x : Name} {r : Option ℕ} → x ≡ name_of ns (node_of 0 t)
      → r ≡ first_same x before
      → r ≡ repeats before (argument_of ns (node_of 0 t))
  unfolding argument_of repeats
  repeats_named h x-is r-is = r-is ∙ rw (← (kind_named_lem k_is h), x-is) refl

-- a name that is found is repeated, with what was found
pub new_found : (f : Option ℕ) {i : ℕ} → f ≡ Some i → Repeated i ≡ new_name f
new_found f h = rw h refl

pub carried_small : (c : Check) {i : ℕ} → SmallCheck c → c ≡ Repeated i → i < 4294967296
carried_small c small h = rw h at small

pub refused_again : (c : Check) (r : Node) {i n : ℕ} {s : Span} {x : Answer} → c ≡ Repeated i
    → x ≡ refused repeated_named (r.at ∷ span_values s ++ n ∷ []) → s ≡ name_span r → n ≡ i → x ≡ check_answer c r
refused_again c r h x-is s-is n_is = x-is ∙ rw (h, s-is, n_is) refl

-- the stage chooses 21, and the kind the rule
pub named_late : (s : ArgsStage) (f : Option ℕ) {b : Bool} → b ≡ past_named s → b ≡ true
    → Broken named_after_star ≡ named_rule s f
named_late s f b_is late = rw (← b_is, late) refl

pub named_new : (s : ArgsStage) (f : Option ℕ) {b : Bool} {r : Check} → b ≡ past_named s → b ≡ false → r ≡ new_name f
    → r ≡ named_rule s f
named_new s f b_is early r-is = rw (← b_is, early) r-is

pub rule_named : (s : ArgsStage) (f : Option ℕ) {k : Kind} {r : Check} → k ≡ Named → r ≡ named_rule s f → r ≡ rule s f k
rule_named s f h r-is = rw h r-is

rest_short : (l : List ℕ) (c : ℕ) → length l < 24 → length (take (length l - c) (drop c l)) < 24
rest_short l c h = simp (length-take, length-drop) (omega arith)

-- the arguments of a call follow its first child
pub call_answer_lem : (ns : List ℕ) (i : ℕ) (t : List ℕ) {e c : ℕ} {a : Answer} → e ≡ span_of t
    → c ≡ span_of (take (e - 24) (drop 24 t))
    → a ≡ outcome_answer (unpack (arguments_in ns (forest (i + 1 + c / 24)
    (take (length (take (e - 24) (drop 24 t)) - c) (drop c (take (e - 24) (drop 24 t)))))))
    → a ≡ call_answer ns (tree_of i t)
unfolding call_answer arguments_in
call_answer_lem ns i t {e} {c} {a} e-is c-is a-is =
    a-is ∙ ap (λ (l : List Argument). outcome_answer (unpack l)) (rw (← (kids_part e t e-is))
    (record_or_none kids
    (λ short. rw (
      forest_none (i + 1) kids short,
      forest_none (i + 1 + c / 24) (take (length kids - c) (drop c kids)) (rest_short kids c short),
    ) refl)
    (λ more. rw (forest_tree (i + 1) kids more, rest_part c kids c-is, c-is) refl)))
  where
    kids : List ℕ
    kids = take (e - 24) (drop 24 t)

-- a call that a stretch of any bytes begins with, in the terms of code: b is what `is_headed` answered
module _ (ns : List ℕ) (i : ℕ) (t : List ℕ) {b : Bool} (b_is : b ≡ is_headed i t) where
  pub judge_none : b ≡ false → accepted (0 ∷ 0 ∷ 0 ∷ 0 ∷ 0 ∷ 0 ∷ []) ≡ call_answer ns (tree_of i (headed_of i t))
  unfolding call_answer unpack run
  judge_none h = rw (headed_leaf i t b_is h) refl

  pub judge_call : b ≡ true → {a : Answer} → a ≡ call_answer ns (tree_of i t)
      → a ≡ call_answer ns (tree_of i (headed_of i t))
  judge_call h a-is = a-is ∙ ap (λ (l : List ℕ). call_answer ns (tree_of i l)) (sym (headed_is i t b_is h))
