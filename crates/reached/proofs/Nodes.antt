-- The nodes of a call's arguments: each is behind the call, and behind the argument before it (`Rising`). An argument's
-- node is the index of its record, and the next argument begins after its subtree; so they rise along the stretch
-- (`rising`, by `forest_induction` on the siblings). Cite `call_rising`, and
-- `call_nodes`: the first node is not 0, so no argument has the word of an empty parameter. Assumes nothing.
use mathlib.Core.Path.{◌≡◌, refl, ap}
use mathlib.Core.List.{List, [], ◌∷◌}
use Prim.Native.Nat.{ℕ, zero, suc, ◌+◌, ◌/◌, ◌<◌, ◌≤◌}
use native.Mathlib.Omega.{arith}
use Rattle.forest.specs.Forest.{node_of, span_of, kids_of, forest}
use Rattle.forest.proofs.Stretch.{forest_induction, rest_part}
use Rattle.table.specs.Check.{stretch_of}
use Rattle.arguments.specs.Written.{Argument, node_in, argument_of, arguments_in}
use Rattle.bind.specs.Job.{arguments_at}
use Rattle.bind.specs.Reading.{behind_callee}
use Rattle.bind.proofs.Lists.{args_end, args_on, arg_node, args_behind}
use Rattle.reached.specs.Said.{IsAt}

-- each argument's node is no earlier than the first, and earlier than those behind it
pub record Rising (first : ℕ) (qs : List Argument) : Type 0 where
  pub least : (j : ℕ) (a : Argument) → IsAt qs j a → first ≤ (node_in a).at
  pub rises : (j l : ℕ) (a b : Argument) → j < l → IsAt qs j a → IsAt qs l b → (node_in a).at < (node_in b).at

rising_none : (i : ℕ) → Rising i []
rising_none i = record { least = λ j a (e : ⊥). absurd e; rises = λ j l a b h (e : ⊥) f. absurd e }

rising_more : (i n : ℕ) (a : Argument) (qs : List Argument) → (node_in a).at ≡ i → i < n → Rising n qs
    → Rising i (a ∷ qs)
rising_more i n a qs at h r = record { least = least; rises = rises }
  where
    least : (j : ℕ) (b : Argument) → IsAt (a ∷ qs) j b → i ≤ (node_in b).at
    least zero b e = let same : (node_in a).at ≡ (node_in b).at = ap (λ (x : Argument). (node_in x).at) e in omega arith
    least (suc j) b e = omega (arith, r.least j b e)

    rises : (j l : ℕ) (b c : Argument) → j < l → IsAt (a ∷ qs) j b → IsAt (a ∷ qs) l c → (node_in b).at < (node_in c).at
    rises zero zero b c g e f = absurd (omega arith)
    rises zero (suc l) b c g e f = let same : (node_in a).at
        ≡ (node_in b).at = ap (λ (x : Argument). (node_in x).at) e in
        omega (arith, r.least l c f)
    rises (suc j) zero b c g e f = absurd (omega arith)
    rises (suc j) (suc l) b c g e f = r.rises j l b c (omega arith) e f

pub rising : (ns : List ℕ) (i : ℕ) (t : List ℕ) → Rising i (arguments_in ns (forest i t))
rising ns =
    forest_induction (λ i t. Rising i (arguments_in ns (forest i t)))
    (λ i t short. rw (args_end ns i t short) (rising_none i))
    (λ i t big ks rs. rw (args_on ns i t big refl, rest_part (span_of t) t refl)
    (rising_more i (i + span_of t / 24) (argument_of ns (node_of i t)) _
    (ap (λ x. x.at) (arg_node ns i t)) (omega arith) rs))

-- the first node of some arguments, which is not 0, and that the nodes rise from there
pub record FromFirst (qs : List Argument) : Type 0 where
  pub first : ℕ
  pub positive : 0 < first
  pub rising : Rising first qs

-- LAW: the arguments of a call
pub call_rising : (t ns : List ℕ) (call : ℕ) → FromFirst (arguments_at t ns call)
unfolding arguments_at
call_rising t ns call =
    let s = stretch_of t call in
    let first = call + 1 + span_of (kids_of s) / 24 in
    record {
      first = first;
      positive = omega arith;
      rising = rw (args_behind ns call s) at (rising ns first (behind_callee s));
    }

-- LAW: no argument of a call has the node 0
pub call_nodes : (t ns : List ℕ) (call j : ℕ) (a : Argument) → IsAt (arguments_at t ns call) j a → 0 < (node_in a).at
call_nodes t ns call j a e = let r = call_rising t ns call in omega (arith, r.positive, r.rising.least j a e)
