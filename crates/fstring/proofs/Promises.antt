-- The contract of each public function leaves one answer: two answers that meet it are equal, and so are the buffers at
-- exit, for every input. No two answers have the same meaning (`written_injective`, `got_injective`, by cases), and the
-- buffers are given by definitions. Assumes nothing.
use Rattle.std.specs.Prelude.{Err, Ok, Result}
use Rattle.table.specs.declared.Refusal.{Refusal}
use mathlib.Core.Path.{◌≡◌, refl, ap, ◌∙◌}
use mathlib.Core.Bool.{Bool, true, false}
use mathlib.Core.List.{List}
use Prim.Native.Nat.{ℕ}
use native.Mathlib.Omega.{arith}
use lib.ListN.{length, get_or}
use Rattle.fields.proofs.Coincide.{coincide, coincide_by}
use Rattle.fields.proofs.Basics.{never}
use Rattle.table.specs.Answer.{Answer, accepted, refused}
use Rattle.table.proofs.Answers.{refusal_injective}
use Rattle.fstring.specs.declared.Written.{Written}
use Rattle.fstring.specs.declared.Reading.{Reading}
use Rattle.fstring.specs.declared.Reading.TheVariants.{Accepted as Read, StrayAt, Short}
use Rattle.fstring.specs.Writing.{notice, write_of, text_after, written}
use Rattle.fstring.specs.Reading.{read_of, words_after, texts_after, got}

-- the values of an answer, and its number
abbrev value : ℕ → Answer → ℕ
value i (accepted vs) = get_or vs i 0
value i (refused n vs) = get_or vs i 0

abbrev number : Answer → ℕ
number (accepted vs) = 0
number (refused n vs) = n

notice_injective : (a b : Bool) → notice a ≡ notice b → a ≡ b
notice_injective true true e = refl
notice_injective true false e = absurd (omega arith)
notice_injective false true e = absurd (omega arith)
notice_injective false false e = refl

-- no two answers mean the same
pub written_injective : (r s : Result Written Refusal) → written r ≡ written s → r ≡ s
written_injective (Ok v) (Ok w) e =
    let lengths : v.length ≡ w.length = ap (value 0) e in
    let notices : v.enabled ≡ w.enabled = notice_injective v.enabled w.enabled (ap (value 1) e) in
    λ i. Ok (record { length = lengths i; enabled = notices i })
written_injective (Ok v) (Err s) e = never (cc)
written_injective (Err r) (Ok w) e = never (cc)
written_injective (Err r) (Err s) e = ap Err (refusal_injective r s e)

pub got_injective : (r s : Reading) → got r ≡ got s → r ≡ s
got_injective (Read k m) (Read l n) e = ap (λ (i : ℕ). Read i m) (ap (value 0) e) ∙ ap (Read l) (ap (value 1) e)
got_injective (Read k m) (StrayAt p) e = never (cc)
got_injective (Read k m) Short e = never (cc)
got_injective (StrayAt p) (Read l n) e = never (cc)
got_injective (StrayAt p) (StrayAt q) e = ap StrayAt (ap (value 0) e)
got_injective (StrayAt p) Short e = absurd (omega (arith, ap number e))
got_injective Short (Read l n) e = never (cc)
got_injective Short (StrayAt q) e = absurd (omega (arith, ap number e))
got_injective Short Short e = refl

-- of `write`: the answer and the buffer at exit
pub write_one : (parts texts dialect text : List ℕ) {r s : Result Written Refusal} {text-r text-s : List ℕ}
    → written r ≡ write_of parts texts dialect (length text) → text-r ≡ text_after parts texts dialect text
    → written s ≡ write_of parts texts dialect (length text) → text-s ≡ text_after parts texts dialect text
    → (r ≡ s) × (text-r ≡ text-s)
write_one parts texts dialect text r-is text-is s-is text-are =
    (coincide_by written written_injective r-is s-is, coincide text-is text-are)

-- of `read`: the answer and both buffers at exit
pub read_one : (text parts texts : List ℕ) {r s : Reading} {parts-r parts-s : List ℕ} {texts-r texts-s : List ℕ}
    → got r ≡ read_of text (length parts) (length texts) → parts-r ≡ words_after text parts (length texts)
    → texts-r ≡ texts_after text (length parts) texts → got s ≡ read_of text (length parts) (length texts)
    → parts-s ≡ words_after text parts (length texts) → texts-s ≡ texts_after text (length parts) texts
    → (r ≡ s) × (parts-r ≡ parts-s) × (texts-r ≡ texts-s)
read_one text parts texts r-is parts_is texts-is s-is parts_are texts-are =
    (coincide_by got got_injective r-is s-is, coincide parts_is parts_are, coincide texts-is texts-are)
