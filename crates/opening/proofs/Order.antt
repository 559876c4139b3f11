-- `permits_all` is a partial order of dialects. Each of its nine tests compares two numbers (`bit_order`,
-- `rank_order`), so `permits_all` is dialect's `within` on the two rows of nine numbers (`permits_row`). For rows,
-- which are lists, the three laws of an order are by induction: reflexive, transitive, antisymmetric (`within_self`,
-- `within_on`, `within_same`). A dialect is determined by its row (`record_back`), and valid bytes are the row of
-- their dialect, so the same holds for dialects (`order_self`, `order_on`, `order_one`) and for the bytes that people
-- type (`bytes_in_order`, `in_order_bytes`). Assumes nothing.
use mathlib.Core.Path.{◌≡◌, refl, sym, ap, ◌∙◌}
use mathlib.Core.Bool.{Bool, true, false, ◌&&◌}
use mathlib.Core.List.{List, [], ◌∷◌, map}
use Prim.Native.Nat.{ℕ, suc, ◌≤◌}
use native.Mathlib.Omega.{arith}
use lib.Dec.{eqb, leb}
use lib.ListN.{length, get_or}
use borrow.Author.Tests.{leb-true, le-leb}
use Rattle.fields.proofs.Basics.{never, and_left, and_right, and_both}
use Rattle.dialect.specs.declared.Dialect.{Dialect}
use Rattle.dialect.specs.declared.DialectTypes.{DialectTypes}
use Rattle.dialect.specs.declared.DialectTypes.TheVariants.{Disable, ParseOnly, Enable}
use Rattle.dialect.specs.declared.Name.TheVariants.{Standard, Extended, AllOptionsInternal}
use Rattle.dialect.specs.Rows.{types_of, record_of, dialect_named}
use Rattle.dialect.specs.Bytes.{within, valid_bytes}
use Rattle.dialect.proofs.Within.{within_at}
use Rattle.dialect.proofs.Laws.{bit_of, types_number, row_of, valid_length, row_of_record, same_dialect}
use Rattle.opening.specs.Opening.{at_least, rank, permits_all}

-- each test is a comparison of two numbers
bit_order : (b c : Bool) → at_least b c ≡ leb (bit_of b) (bit_of c)
bit_order true true = refl
bit_order true false = refl
bit_order false true = refl
bit_order false false = refl

rank_order : (x y : DialectTypes) → leb (rank x) (rank y) ≡ leb (types_number x) (types_number y)
rank_order x y = rw (rank_is x, rank_is y) refl
  where
    rank_is : (x : DialectTypes) → rank x ≡ types_number x
    rank_is Disable = refl
    rank_is ParseOnly = refl
    rank_is Enable = refl

-- two conjunctions with equal parts
and_same : {a b a' b' : Bool} → a ≡ a' → b ≡ b' → (a && b) ≡ (a' && b')
and_same p q = rw (p, q) refl

and_end : {a a' : Bool} → a ≡ a' → a ≡ (a' && true)
and_end {a} {a'} p = p ∙ go a'
  where
    go : (b : Bool) → b ≡ (b && true)
    go true = refl
    go false = refl

-- LAW: the order is that of the rows
pub permits_row : (d e : Dialect) → permits_all d e ≡ within (row_of e) (row_of d)
unfolding permits_all within row_of
permits_row d e =
    and_same (bit_order d.enable_def e.enable_def)
    (and_same (bit_order d.enable_lambda e.enable_lambda)
    (and_same (bit_order d.enable_load e.enable_load)
    (and_same (bit_order d.enable_keyword_only_arguments e.enable_keyword_only_arguments)
    (and_same (bit_order d.enable_positional_only_arguments e.enable_positional_only_arguments)
    (and_same (rank_order d.enable_types e.enable_types)
    (and_same (bit_order d.enable_load_reexport e.enable_load_reexport)
    (and_same (bit_order d.enable_top_level_stmt e.enable_top_level_stmt)
    (and_end (bit_order d.enable_f_strings e.enable_f_strings)))))))))

-- the three laws, for rows
within_self : (xs : List ℕ) → within xs xs ≡ true
unfolding within
within_self [] = refl
within_self (x ∷ xs) = and_both (leb x x) (within xs xs) (le-leb x x (omega arith)) (within_self xs)

within_on : (xs ys zs : List ℕ) → within ys xs ≡ true → within zs ys ≡ true → within zs xs ≡ true
unfolding within
within_on [] [] zs p q = q
within_on [] (y ∷ ys) zs p q = never (cc)
within_on (x ∷ xs) [] zs p q = never (cc)
within_on (x ∷ xs) (y ∷ ys) [] p q = never (cc)
within_on (x ∷ xs) (y ∷ ys) (z ∷ zs) p q =
    let first : x ≤ y = leb-true x y (and_left (leb x y) (within ys xs) p) in
    let then' : y ≤ z = leb-true y z (and_left (leb y z) (within zs ys) q) in
    and_both (leb x z) (within zs xs) (le-leb x z (omega (arith, first, then')))
    (within_on xs ys zs (and_right (leb x y) (within ys xs) p) (and_right (leb y z) (within zs ys) q))

within_same : (xs ys : List ℕ) → within ys xs ≡ true → within xs ys ≡ true → xs ≡ ys
unfolding within
within_same [] [] p q = refl
within_same [] (y ∷ ys) p q = never (cc)
within_same (x ∷ xs) [] p q = never (cc)
within_same (x ∷ xs) (y ∷ ys) p q =
    let below : x ≤ y = leb-true x y (and_left (leb x y) (within ys xs) p) in
    let above : y ≤ x = leb-true y x (and_left (leb y x) (within xs ys) q) in
    let here : x ≡ y = omega (arith, below, above) in
    rw (here, within_same xs ys (and_right (leb x y) (within ys xs) p) (and_right (leb y x) (within xs ys) q)) refl

within_all : (xs ys : List ℕ) → length xs ≡ length ys → ((i : ℕ) → get_or xs i 0 ≤ get_or ys i 0) → within ys xs ≡ true
unfolding within
within_all [] [] long below = refl
within_all [] (y ∷ ys) long below = absurd (omega (arith, long))
within_all (x ∷ xs) [] long below = absurd (omega (arith, long))
within_all (x ∷ xs) (y ∷ ys) long below =
    and_both (leb x y) (within ys xs) (le-leb x y (below 0))
    (within_all xs ys (omega (arith, long)) (λ i. below (suc i)))

-- a dialect is determined by its row
bit_back : (b : Bool) → eqb (bit_of b) 1 ≡ b
bit_back true = refl
bit_back false = refl

types_back : (x : DialectTypes) → types_of (types_number x) ≡ x
types_back Disable = refl
types_back ParseOnly = refl
types_back Enable = refl

record_back : (d : Dialect) → record_of (row_of d) ≡ d
unfolding record_of row_of
record_back d = λ i. record {
  enable_def = bit_back d.enable_def i;
  enable_lambda = bit_back d.enable_lambda i;
  enable_load = bit_back d.enable_load i;
  enable_keyword_only_arguments = bit_back d.enable_keyword_only_arguments i;
  enable_positional_only_arguments = bit_back d.enable_positional_only_arguments i;
  enable_types = types_back d.enable_types i;
  enable_load_reexport = bit_back d.enable_load_reexport i;
  enable_top_level_stmt = bit_back d.enable_top_level_stmt i;
  enable_f_strings = bit_back d.enable_f_strings i;
}

-- THEOREM: the order is reflexive, transitive and antisymmetric
pub order_self : (d : Dialect) → permits_all d d ≡ true
order_self d = permits_row d d ∙ within_self (row_of d)

pub order_on : (c d e : Dialect) → permits_all c d ≡ true → permits_all d e ≡ true → permits_all c e ≡ true
order_on c d e p q =
    permits_row c e
    ∙ within_on (row_of c) (row_of d) (row_of e) (sym (permits_row c d) ∙ p) (sym (permits_row d e) ∙ q)

pub order_one : (d e : Dialect) → permits_all d e ≡ true → permits_all e d ≡ true → d ≡ e
order_one d e p q =
    let rows : row_of d ≡ row_of e
    = within_same (row_of d) (row_of e) (sym (permits_row d e) ∙ p) (sym (permits_row e d) ∙ q) in
    sym (record_back d) ∙ ap record_of rows ∙ record_back e

-- LAW: the comparison at each place of the rows
pub permits_at : (d e : Dialect) → permits_all d e ≡ true → (i : ℕ) → get_or (row_of d) i 0 ≤ get_or (row_of e) i 0
permits_at d e h = within_at (row_of e) (row_of d) (sym (permits_row d e) ∙ h)

-- LAW: the same for nine valid bytes each, which are their own row; two that permit each other are the same bytes
module _ (first second : List ℕ) (p : valid_bytes first ≡ true) (q : valid_bytes second ≡ true) where
  rows : permits_all (record_of first) (record_of second) ≡ within second first
  rows = permits_row (record_of first) (record_of second) ∙ rw (row_of_record first p, row_of_record second q) refl

  pub bytes_in_order : permits_all (record_of first) (record_of second) ≡ true → (i : ℕ)
      → get_or first i 0 ≤ get_or second i 0
  bytes_in_order h = within_at second first (sym rows ∙ h)

  pub in_order_bytes : ((i : ℕ) → get_or first i 0 ≤ get_or second i 0)
      → permits_all (record_of first) (record_of second) ≡ true
  in_order_bytes below =
      rows ∙ within_all first second (valid_length first p ∙ sym (valid_length second q)) below

  pub bytes_one : permits_all (record_of first) (record_of second) ≡ true
      → permits_all (record_of second) (record_of first) ≡ true → first ≡ second
  bytes_one h k = same_dialect first second p q (order_one (record_of first) (record_of second) h k)

-- THEOREM: Standard is below Extended, and Extended below AllOptionsInternal, and not the other way round: a row for
-- each of the three says which of the three permit all that it does
abbrev pub named : List Dialect
named = dialect_named Standard ∷ dialect_named Extended ∷ dialect_named AllOptionsInternal ∷ []

pub named_order : map (λ (d : Dialect). map (permits_all d) named) named
    ≡ (true ∷ true ∷ true ∷ []) ∷ (false ∷ true ∷ true ∷ []) ∷ (false ∷ false ∷ true ∷ []) ∷ []
unfolding permits_all record_of
named_order = refl
