-- Laws of `header` and `judge_front`. The header's fields determine where the blocks are (`header_is`, `first_is`,
-- `taken_is`), and they depend on the first 8 bytes alone (`header_front`). The bytes of block 0 after the two counts
-- are the dialect and the edition (`tail_is`). `front_zero` and the laws after it are the returns of `judge_front`,
-- in the order of the tests; counts within the limits keep every product within the machine's numbers (`nodes_fit`,
-- `first_word`, `first_bytes`). `Fronted` lists what accepted blocks fulfil: cite `fronted` or `fronted_then`.
-- `sound_refused` and `sound_passed` are the returns of `check`. Assumes nothing.
use Rattle.std.specs.Prelude.{Err, Ok, Option, Result, ℕ}
use mathlib.Core.Path.{◌≡◌, refl, sym, ap, ◌∙◌}
use mathlib.Core.Bool.{Bool, true, false, ◌&&◌, ◌||◌}
use mathlib.Core.List.{List, [], ◌∷◌, ◌++◌}
use Prim.Native.Nat.{ℕ, zero, suc, ◌+◌, ◌*◌, ◌-◌, ◌^◌, ◌≤◌, ◌<◌}
use native.Mathlib.Omega.{arith}
use lib.ListN.{length, take, drop, length-drop}
use lib.Seq.{take-add, drop-drop}
use lib.Dec.{eqb, leb}
use borrow.Author.Tests.{eq-eqb, ne_eqb, leb-true, le-leb}
use Rattle.fields.specs.Choice.{if'}
use Rattle.fields.specs.Field.{field}
use Rattle.fields.proofs.Fields.{field_take, tail_part}
use Rattle.fields.proofs.Basics.{and_left, and_right}
use Rattle.dialect.specs.Editions.{stated_bytes, edition_held}
use Rattle.dialect.specs.declared.Dialect.{Dialect}
use Rattle.dialect.specs.declared.Edition.{Edition}
use Rattle.table.specs.Numbers.{block_counts}
use Rattle.table.specs.Answer.{Answer, accepted, refused, and_then, refusal}
use Rattle.table.specs.Check.{ruled, rules_of}
use Rattle.table.specs.declared.Refusal.{Refusal}
use Rattle.table.proofs.Answers.{after_both, never_passed}
use Rattle.table.proofs.Ruling.{unruled_is, by_is}
use Rattle.blocks.specs.Block.{demand, judge, judged}
use Rattle.blocks.specs.Run.{blocks_for, judge_run}
use Rattle.blocks.proofs.Blocks.{Passing, passing, passing_then}
use Rattle.blocks.proofs.Runs.{run_long, run_then, content_long}
use Rattle.tablefile.specs.File.{most_blocks}
use Rattle.tablefile.specs.Reading.{dialect_in, edition_in, header_at, used_of, stated_in, content_at, counts_fit}
use Rattle.tablefile.specs.Reading.{blocks_check, front_check, sound_check}
use Rattle.tablefile.specs.declared.Heading.{Heading}
use Rattle.tablefile.proofs.Copies.{dialect_long}

-- the numbers of dialect bytes and of edition bytes in block 0
pub dialect_nine : (u : ℕ) → (eqb u 13 || eqb u 14) ≡ true → (9 ≡ dialect_in u) × (9 ≤ 9)
unfolding dialect_in
dialect_nine u e = (rw e refl, omega arith)

pub dialect_none : (u : ℕ) → (eqb u 13 || eqb u 14) ≡ false → (0 ≡ dialect_in u) × (0 ≤ 9)
unfolding dialect_in
dialect_none u e = (rw e refl, omega arith)

pub edition_one : {u : ℕ} → u ≡ 14 → (1 ≡ edition_in u) × (1 ≤ 1)
unfolding edition_in
edition_one {u} e = (rw (eq-eqb u 14 e) refl, omega arith)

pub edition_none : {u : ℕ} → (u ≡ 14 → ⊥) → (0 ≡ edition_in u) × (0 ≤ 1)
unfolding edition_in
edition_none {u} e = (rw (ne_eqb u 14 e) refl, omega arith)

-- the fields of block 0, as the code reads them
pub header_is : (bs : List ℕ) {nodes names used d e k m : ℕ} → nodes ≡ field 2 bs 4 → names ≡ field 2 bs 6
    → used ≡ field 2 bs 2 → d ≡ dialect_in used → e ≡ edition_in used → k ≡ blocks_for names
    → m ≡ blocks_for (24 * nodes)
    → ◌≡◌ {A = Heading}
    (record {
      nodes = nodes;
      names = names;
      dialect = d;
      edition = e;
      first = 1 + k;
      taken = 512 * (1 + k + m);
    })
    (header_at bs)
unfolding header_at
header_is bs nodes-is names-is used-is d-is e-is k_is m_is =
    rw (m_is, k_is, d-is, e-is, used-is, names-is, nodes-is) refl

-- the first n bytes have the same header if they contain the counts
pub header_front : (n : ℕ) (bs : List ℕ) → 8 ≤ n → header_at (take n bs) ≡ header_at bs
unfolding header_at
header_front n bs h = rw (
  field_take 2 bs n 4 (omega arith),
  field_take 2 bs n 6 (omega arith),
  field_take 2 bs n 2 (omega arith),
) refl

-- the places of the blocks
module _ (bs : List ℕ) where
  pub first_is : (header_at bs).first ≡ 1 + blocks_for (header_at bs).names
  unfolding header_at
  first_is = refl

  pub taken_is : (header_at bs).taken ≡ 512 * ((header_at bs).first + blocks_for (24 * (header_at bs).nodes))
  unfolding header_at
  taken_is = refl

  pub dialect_few : (header_at bs).dialect ≤ 9
  unfolding header_at dialect_in
  dialect_few = few (eqb (field 2 bs 2) 13 || eqb (field 2 bs 2) 14)
    where
      few : (b : Bool) → if' b (λ _. 9) (λ _. 0) ≤ 9
      few true = omega arith
      few false = omega arith

  pub edition_few : (header_at bs).edition ≤ 1
  unfolding header_at edition_in
  edition_few = few (eqb (field 2 bs 2) 14)
    where
      few : (b : Bool) → if' b (λ _. 1) (λ _. 0) ≤ 1
      few true = omega arith
      few false = omega arith

  -- an edition byte comes after nine dialect bytes
  edition_behind : take (header_at bs).edition (drop (8 + (header_at bs).dialect) bs)
      ≡ take (header_at bs).edition (drop 17 bs)
  unfolding header_at edition_in dialect_in
  edition_behind = go (eqb (field 2 bs 2) 13) (eqb (field 2 bs 2) 14)
    where
      go : (a b : Bool)
          → take (if' b (λ _. 1) (λ _. 0)) (drop (8 + if' (a || b) (λ _. 9) (λ _. 0)) bs)
          ≡ take (if' b (λ _. 1) (λ _. 0)) (drop 17 bs)
      go true true = refl
      go false true = refl
      go true false = refl
      go false false = refl

  -- LAW: the stated edition is the byte after them
  pub stated_is : stated_bytes (content_at bs).edition ≡ take (header_at bs).edition (drop 17 bs)
  unfolding content_at
  stated_is = one (header_at bs).edition (drop 17 bs) edition_few
    where
      one : (n : ℕ) (l : List ℕ) → n ≤ 1 → stated_bytes (stated_in (take n l)) ≡ take n l
      one zero l h = refl
      one (suc zero) [] h = refl
      one (suc zero) (x ∷ l) h = refl
      one (suc (suc n)) l h = absurd (omega arith)

  dialect_is : (content_at bs).dialect ≡ take (header_at bs).dialect (drop 8 bs)
  unfolding content_at
  dialect_is = refl

  -- LAW: the used bytes of block 0 after its counts are the dialect and the edition
  pub tail_is : take ((header_at bs).dialect + (header_at bs).edition) (drop 8 bs)
      ≡ (content_at bs).dialect ++ stated_bytes (content_at bs).edition
  tail_is = take-add (header_at bs).dialect (header_at bs).edition (drop 8 bs)
      ∙ rw (drop-drop (header_at bs).dialect 8 bs, edition_behind, stated_is, dialect_is) refl

-- counts within their limits
pub record Small (nodes names : ℕ) : Type 0 where
  pub some : 1 ≤ nodes
  pub few : nodes ≤ 2100
  pub short : names ≤ 8064

pub counts_small : (nodes names : ℕ) → counts_fit nodes names ≡ true → Small nodes names
unfolding counts_fit
counts_small nodes names e =
    let rest = and_right (leb 1 nodes) (leb nodes 2100 && leb names 8064) e in
    record {
      some = leb-true 1 nodes (and_left (leb 1 nodes) (leb nodes 2100 && leb names 8064) e);
      few = leb-true nodes 2100 (and_left (leb nodes 2100) (leb names 8064) rest);
      short = leb-true names 8064 (and_right (leb nodes 2100) (leb names 8064) rest);
    }

pub small_fits : {nodes names : ℕ} → Small nodes names → counts_fit nodes names ≡ true
unfolding counts_fit
small_fits {nodes} {names} s =
    rw (le-leb 1 nodes s.some, le-leb nodes 2100 s.few, le-leb names 8064 s.short) refl

-- LAW: so few blocks are theirs: at most 16, at most 100, and at most 117 with block 0
module _ {nodes names : ℕ} (s : Small nodes names) where
  pub name_blocks : blocks_for names ≤ 16
  unfolding blocks_for
  name_blocks = omega (arith, s.short)

  pub node_blocks : blocks_for (24 * nodes) ≤ 100
  unfolding blocks_for
  node_blocks = omega (arith, s.few)

pub taken_few : (bs : List ℕ) → Small (header_at bs).nodes (header_at bs).names
    → (header_at bs).taken ≤ 512 * most_blocks
taken_few bs s = omega (arith, name_blocks s, node_blocks s, taken_is bs, first_is bs)

pub used_small : (bs : List ℕ) {h : Heading} → h ≡ header_at bs → used_of h ≤ 14
used_small bs h-is = rw h-is (omega (arith, dialect_few bs, edition_few bs))

-- the returns of `judge_front` in order; h is the header
module _ (bs : List ℕ) (h : Heading) (z : Result (Unit {0}) ℕ) (z-is : judged z ≡ judge 0 (used_of h) bs) where
  pub front_zero : {n : ℕ} → z ≡ Err n → refused n [] ≡ blocks_check h bs
  unfolding blocks_check
  front_zero e = rw (← z-is, e) refl

  module _ (z-good : z ≡ Ok tt) where
    pub zero_long : 512 ≤ length bs
    zero_long = (passing 0 (used_of h) bs (sym (rw z-good at z-is))).long

    module _ {f : Bool} (f-is : f ≡ counts_fit h.nodes h.names) where
      pub front_counts : f ≡ false → refused block_counts [] ≡ blocks_check h bs
      unfolding blocks_check
      front_counts f-no = rw (← z-is, z-good, ← f-is, f-no) refl

      module _ (f-yes : f ≡ true) (r : Result (Unit {0}) ℕ)
          (r-is : judged r ≡ judge_run 1 h.names (take (length bs - 512) (drop 512 bs))) where
        run : judge_run 1 h.names (drop 512 bs) ≡ judged r
        run = sym (r-is ∙ ap (judge_run 1 h.names) (tail_part 512 bs))

        pub front_names : {n : ℕ} → r ≡ Err n → refused n [] ≡ blocks_check h bs
        unfolding blocks_check
        front_names e = rw (← z-is, z-good, ← f-is, f-yes, run, e) refl

        module _ (r-good : r ≡ Ok tt) where
          pub front_nodes : {x : Answer} → x ≡ judge_run h.first (24 * h.nodes)
              (take (length bs - 512 * h.first) (drop (512 * h.first) bs)) → x ≡ blocks_check h bs
          unfolding blocks_check
          front_nodes x-is = x-is ∙ rw (tail_part (512 * h.first) bs, ← z-is, z-good, ← f-is, f-yes, run, r-good) refl

-- a run of names that passes is present whole
pub names_long : (bs : List ℕ) {h : Heading} → h ≡ header_at bs → (r : Result (Unit {0}) ℕ)
    → judged r ≡ judge_run 1 h.names (take (length bs - 512) (drop 512 bs)) → r ≡ Ok tt → 512 ≤ length bs
    → 512 * h.first ≤ length bs
names_long bs {h} h-is r r-is r-good long =
    let run : judge_run 1 h.names (drop 512 bs) ≡ judged r =
    sym (r-is ∙ ap (judge_run 1 h.names) (tail_part 512 bs)) in
    let there = run_long 1 h.names (drop 512 bs) (run ∙ ap judged r-good) in
    let first : h.first ≡ 1 + blocks_for h.names = rw h-is (first_is bs) in
    omega (arith, there, length-drop 512 bs, first)

-- with counts within the limits, every product fits the machine's numbers
module _ (bs : List ℕ) {h : Heading} (h-is : h ≡ header_at bs) {f : Bool}
    (f-is : f ≡ counts_fit h.nodes h.names) (f-yes : f ≡ true) where
  small : Small h.nodes h.names
  small = counts_small h.nodes h.names (sym f-is ∙ f-yes)

  pub nodes_fit : 24 * h.nodes < 2 ^ 64
  nodes_fit = omega (arith, small)

  first_few : h.first ≤ 17
  first_few =
      let first : h.first ≡ 1 + blocks_for h.names = rw h-is (first_is bs) in
      omega (arith, name_blocks small, first)

  pub first_word : h.first < 2 ^ 16
  first_word = omega (arith, first_few)

  pub first_bytes : 512 * h.first < 2 ^ 64
  first_bytes = omega (arith, first_few)

-- what the blocks of a file fulfil if they pass
pub record Fronted (bs : List ℕ) : Type 0 where
  pub header : Passing 0 (used_of (header_at bs)) bs
  pub counts : Small (header_at bs).nodes (header_at bs).names
  pub names : judge_run 1 (header_at bs).names (drop 512 bs) ≡ accepted []
  pub nodes : judge_run (header_at bs).first (24 * (header_at bs).nodes) (drop (512 * (header_at bs).first) bs)
      ≡ accepted []

-- a test that is passed, and what follows it
pub demand_then : (b : Bool) (n : ℕ) (next : Unit {0} → Answer) → and_then (demand b n) next ≡ accepted []
    → (b ≡ true) × (next tt ≡ accepted [])
demand_then true n next e = (refl, e)
demand_then false n next e = never_passed e

module _ (bs : List ℕ) where
  abbrev head : Heading
  head = header_at bs

  -- the tests after block 0, after its counts, and after the names
  abbrev nodes_pass : Unit {0} → Answer
  nodes_pass _ = judge_run head.first (24 * head.nodes) (drop (512 * head.first) bs)

  abbrev names_pass : Unit {0} → Answer
  names_pass _ = and_then (judge_run 1 head.names (drop 512 bs)) nodes_pass

  abbrev counts_pass : Unit {0} → Answer
  counts_pass _ = and_then (demand (counts_fit head.nodes head.names) block_counts) names_pass

  -- LAW: a file at the front whose blocks pass, and what follows it
  pub fronted_then : (next : Unit {0} → Answer) → and_then (front_check bs) next ≡ accepted []
      → Fronted bs × (next tt ≡ accepted [])
  unfolding blocks_check
  fronted_then next e =
      let fit : Bool = counts_fit head.nodes head.names in
      let one = passing_then 0 (used_of head) bs (λ _. and_then (counts_pass tt) next)
      (sym (after_both (judge 0 (used_of head) bs) counts_pass next) ∙ e) in
      let two = demand_then fit block_counts (λ _. and_then (names_pass tt) next)
      (sym (after_both (demand fit block_counts) names_pass next) ∙ one.1) in
      let three = run_then 1 head.names (drop 512 bs) (λ _. and_then (nodes_pass tt) next)
      (sym (after_both (judge_run 1 head.names (drop 512 bs)) nodes_pass next) ∙ two.1) in
      let four = run_then head.first (24 * head.nodes) (drop (512 * head.first) bs) next three.1 in
      let counts = counts_small head.nodes head.names two.0 in
      (record { header = one.0; counts = counts; names = three.0; nodes = four.0 }, four.1)

  pub fronted : front_check bs ≡ accepted [] → Fronted bs
  fronted e = (fronted_then (λ _. accepted []) (rw e refl)).0

  -- the bytes that are present, and the lengths of the parts
  module _ (f : Fronted bs) where
    pub names_there : 512 * blocks_for (header_at bs).names ≤ length (drop 512 bs)
    names_there = run_long 1 (header_at bs).names (drop 512 bs) f.names

    pub nodes_there : 512 * blocks_for (24 * (header_at bs).nodes) ≤ length (drop (512 * (header_at bs).first) bs)
    nodes_there = run_long (header_at bs).first (24 * (header_at bs).nodes) (drop (512 * (header_at bs).first) bs)
        f.nodes

    pub first_there_lem : 512 * (header_at bs).first ≤ length bs
    first_there_lem = omega (arith, names_there, length-drop 512 bs, f.header.long, first_is bs)

    pub taken_there : (header_at bs).taken ≤ length bs
    taken_there =
        omega (arith, nodes_there, first_there_lem, length-drop (512 * (header_at bs).first) bs, taken_is bs)

    pub table_length_lem : length (content_at bs).table ≡ 24 * (header_at bs).nodes
    unfolding content_at
    table_length_lem = content_long (24 * (header_at bs).nodes) (drop (512 * (header_at bs).first) bs) nodes_there

    pub names_length : length (content_at bs).names ≡ (header_at bs).names
    unfolding content_at
    names_length = content_long (header_at bs).names (drop 512 bs) names_there

    pub dialect_length : length (content_at bs).dialect ≡ (header_at bs).dialect
    unfolding content_at
    dialect_length = dialect_long bs (header_at bs).dialect f.header.long (dialect_few bs)

-- the returns of `check`: x is the answer of `edition_held`, and g that of `enter_rules`
module _ (t : List ℕ) (a : ℕ) (ns : List ℕ) (b : ℕ) (ds : List ℕ) (d : ℕ) (edition : Option ℕ) {x : Option Edition}
    (x-is : x ≡ edition_held (take (d - 0) ds) (stated_bytes edition)) (g : Result (Dialect × Edition) Refusal)
    (g-is : ruled g ≡ rules_of (take (a - 0) t) (take (b - 0) ns) (take (d - 0) ds) x) where
  abbrev held : Option Edition
  held = edition_held (take d ds) (stated_bytes edition)

  cut : ruled g ≡ rules_of (take a t) (take b ns) (take d ds) held
  cut =
      let p : a - 0 ≡ a = omega arith in
      let q : b - 0 ≡ b = omega arith in
      let r : d - 0 ≡ d = omega arith in
      rw (x-is, p, q, r) at g-is

  pub sound_refused : {why : Refusal} → g ≡ Err why → refusal why
      ≡ sound_check (record { table = take a t; names = take b ns; dialect = take d ds; edition = edition })
  sound_refused e = rw (unruled_is (take a t) (take b ns) (take d ds) held cut e) refl

  pub sound_passed : {p : Dialect × Edition} → g ≡ Ok p → accepted []
      ≡ sound_check (record { table = take a t; names = take b ns; dialect = take d ds; edition = edition })
  sound_passed e = rw (by_is (take a t) (take b ns) (take d ds) held cut e) refl
