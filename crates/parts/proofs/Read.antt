-- The words that are read of errors and of answers at two records that say the same: number, source file, begin and end
-- are equal, because none of them is the index of the node (`reads_at`, `answers_at`). Lists that are joined, or chosen
-- by equal tests, have the same words if their parts have (`reads_both`, `reads_if`). So have answers in order
-- (`answers_then`): the words of an answer's errors show whether it is a refusal. The inductions are on the list of
-- errors. Cite these five. Assumes nothing.
use mathlib.Core.Path.{◌≡◌, refl, sym, ap, ◌∙◌}
use mathlib.Core.Bool.{Bool, true, false}
use mathlib.Core.List.{List, [], ◌∷◌, ◌++◌}
use Prim.Native.Nat.{ℕ}
use Rattle.fields.specs.Choice.{if'}
use Rattle.fields.proofs.Basics.{never}
use Rattle.forest.specs.Forest.{Node}
use Rattle.table.specs.Answer.{Answer, accepted, refused, and_then, refused_at}
use Rattle.errors.specs.declared.Finding.{Finding}
use Rattle.errors.specs.Errors.{place_words, err_at, unless}
use Rattle.audit.specs.Refusals.{answer_errors}
use Rattle.parts.specs.Parts.{SameRecord, read}

-- two lists of errors with the same words, and two answers
abbrev pub Reads : List Finding → List Finding → Type 0
Reads es fs = read es ≡ read fs

abbrev pub Answers : Answer → Answer → Type 0
Answers a b = Reads (answer_errors a) (answer_errors b)

-- LAW: joined lists, and lists chosen by equal tests
pub read_append : (es fs : List Finding) → read (es ++ fs) ≡ read es ++ read fs
unfolding read
read_append [] fs = refl
read_append (e ∷ es) fs = ap (λ (xs : List (List ℕ)). place_words e ∷ xs) (read_append es fs)

pub reads_both : (es fs gs hs : List Finding) → Reads es fs → Reads gs hs → Reads (es ++ gs) (fs ++ hs)
reads_both es fs gs hs p q = read_append es gs ∙ rw (p, q) (sym (read_append fs hs))

pub reads_if : (b c : Bool) → b ≡ c → (x y v w : Unit {0} → List Finding) → Reads (x tt) (v tt) → Reads (y tt) (w tt)
    → Reads (if' b x y) (if' c v w)
reads_if true true e x y v w p q = p
reads_if true false e x y v w p q = never (cc)
reads_if false true e x y v w p q = never (cc)
reads_if false false e x y v w p q = q

-- LAW: answers in order, and answers chosen by equal tests
pub answers_then : (a b : Answer) (next after : Unit {0} → Answer) → Answers a b → Answers (next tt) (after tt)
    → Answers (and_then a next) (and_then b after)
unfolding read
answers_then (accepted vs) (accepted ws) next after h k = k
answers_then (accepted vs) (refused m ws) next after h k = never (cc)
answers_then (refused n vs) (accepted ws) next after h k = never (cc)
answers_then (refused n vs) (refused m ws) next after h k = h

pub answers_if : (b c : Bool) → b ≡ c → (x y v w : Unit {0} → Answer) → Answers (x tt) (v tt) → Answers (y tt) (w tt)
    → Answers (if' b x y) (if' c v w)
answers_if true true e x y v w p q = p
answers_if true false e x y v w p q = never (cc)
answers_if false true e x y v w p q = never (cc)
answers_if false false e x y v w p q = q

-- LAW: an error, and a refusal, at two records that say the same
module _ {names others : List ℕ} {r s : Node} (h : SameRecord names others r s) where
  pub reads_at : (n : ℕ) → Reads (err_at n r ∷ []) (err_at n s ∷ [])
  unfolding read
  reads_at n = rw (h.file, h.begin, h.stop) refl

  pub reads_unless : (b : Bool) (n : ℕ) → Reads (unless b n r) (unless b n s)
  reads_unless true n = refl
  reads_unless false n = reads_at n

  pub answers_at : (n : ℕ) → Answers (refused_at n r) (refused_at n s)
  unfolding read
  answers_at n = rw (h.file, h.begin, h.stop) refl
