-- `file_of` writes a content as a file, `content_at` reads the file at the front of some bytes; each is the inverse of
-- the other. If the blocks pass, the bytes are the file of their content: block 0 and both runs are (blocks'
-- `passed_is_block`, `passed_is_run`). One changed byte gives 72, because it lies in exactly one block. The file of a
-- content passes, holds that content and has the length that its header states. The three headers are without a
-- dialect, with one, and with a dialect and an edition (`Headed`); dialect and edition are one list here (`tail_is`,
-- `tail_there`). Cite `front_is_file`, `front_changed`, `file_passes`, `file_holds`, `file_taken`. Assumes nothing.
use Rattle.std.specs.Prelude.{None, Option, Some, ℕ}
use mathlib.Core.Path.{◌≡◌, refl, sym, ap, ◌∙◌}
use mathlib.Core.Bool.{true}
use mathlib.Core.Logic.{⊎_elim}
use mathlib.Core.List.{List, [], ◌++◌, append_assoc}
use Prim.Native.Nat.{ℕ, ◌+◌, ◌*◌, ◌-◌, ◌/◌, ◌<◌, ◌≤◌}
use native.Mathlib.Nat.{add-zero}
use native.Mathlib.Omega.{arith}
use lib.ListN.{length, get_or, take, drop, set, replicate, length-append}
use lib.Seq.{take_at, drop_at, take-take, take-add, drop-drop, take-set-le}
use Rattle.fields.proofs.Basics.{drop_take, le_or_lt}
use Rattle.dialect.specs.Editions.{stated_bytes}
use Rattle.fields.specs.Field.{field}
use Rattle.fields.proofs.Fields.{field_drop, field_take}
use Rattle.table.specs.Numbers.{block_check}
use Rattle.table.specs.Answer.{accepted, refused, and_then}
use Rattle.fields.specs.Field.{bytes_of}
use Rattle.blocks.specs.Block.{block_of, judge}
use Rattle.blocks.specs.Run.{blocks_for, run_of, judge_run}
use Rattle.fields.proofs.Spelling.{Bytes, bytes_drop, bytes_append, bytes_spelled, length_bytes}
use Rattle.fields.proofs.Spelling.{field_behind, field_bytes, bytes_field}
use Rattle.blocks.proofs.Blocks.{Passing, passing, passes, length_block, content_there, block_passes}
use Rattle.blocks.proofs.Blocks.{passed_is_block, changed_block, judge_outside}
use Rattle.blocks.proofs.Runs.{drop_set, get_d_behind, length_run, passed_is_run, run_passes, run_holds, run_outside}
use Rattle.blocks.proofs.Runs.{changed_run}
use Rattle.tablefile.specs.File.{Content, header_of, file_of}
use Rattle.tablefile.specs.Reading.{dialect_in, edition_in, header_at, used_of, stated_in, content_at, counts_fit}
use Rattle.tablefile.specs.Reading.{blocks_check, front_check}
use Rattle.tablefile.proofs.Fronts.{first_is, taken_is, used_small, tail_is, Fronted, table_length_lem}
use Rattle.tablefile.proofs.Fronts.{names_length, Small, small_fits, name_blocks, node_blocks}

-- ---- a file at the front whose blocks pass is the file of its content
module _ (bs : List ℕ) (small : Bytes bs) (f : Fronted bs) where
  nodes_spelled : bytes_of 2 (header_at bs).nodes ≡ take 2 (drop 4 bs)
  unfolding header_at
  nodes_spelled = bytes_field 2 bs 4 small (omega (arith, f.header.long))

  names_spelled : bytes_of 2 (header_at bs).names ≡ take 2 (drop 6 bs)
  unfolding header_at
  names_spelled = bytes_field 2 bs 6 small (omega (arith, f.header.long))

  header_is : take (used_of (header_at bs)) (drop 4 bs) ≡ header_of (content_at bs)
  unfolding header_of
  header_is =
      let d : ℕ = (header_at bs).dialect + (header_at bs).edition in
      let nodes : length (content_at bs).table / 24 ≡ (header_at bs).nodes = omega (arith, table_length_lem bs f) in
      let cut : used_of (header_at bs) ≡ 2 + (2 + d) = omega arith in
      rw (
        nodes,
        names_length bs f,
        nodes_spelled,
        names_spelled,
        cut,
        take-add 2 (2 + d) (drop 4 bs),
        drop-drop 2 4 bs,
        take-add 2 d (drop 6 bs),
        drop-drop 2 6 bs,
        tail_is bs,
      )
      refl

  names_are : take (512 * blocks_for (header_at bs).names) (drop 512 bs) ≡ run_of 1 (content_at bs).names
  unfolding content_at
  names_are = passed_is_run 1 (header_at bs).names (drop 512 bs) (bytes_drop bs 512 small) f.names

  nodes_are : take (512 * blocks_for (24 * (header_at bs).nodes)) (drop (512 * (header_at bs).first) bs)
      ≡ run_of (header_at bs).first (content_at bs).table
  unfolding content_at
  nodes_are = passed_is_run (header_at bs).first (24 * (header_at bs).nodes) (drop (512 * (header_at bs).first) bs)
      (bytes_drop bs (512 * (header_at bs).first) small) f.nodes

  -- THEOREM
  pub front_is_file : take (header_at bs).taken bs ≡ file_of (content_at bs)
  unfolding file_of
  front_is_file =
      let a : ℕ = blocks_for (header_at bs).names in
      let m : ℕ = blocks_for (24 * (header_at bs).nodes) in
      let cut : (header_at bs).taken ≡ 512 + (512 * a + 512 * m) = omega (arith, taken_is bs, first_is bs) in
      let at : 512 * (header_at bs).first ≡ 512 + 512 * a = omega (arith, first_is bs) in
      let block : take 512 bs ≡ block_of 0 (header_of (content_at bs)) = passed_is_block 0 (used_of (header_at bs)) bs
      (omega (arith, used_small bs refl)) small f.header ∙ ap (block_of 0) header_is in
      let names : take (512 * a) (drop 512 bs) ≡ run_of 1 (content_at bs).names = names_are in
      let nodes : take (512 * m) (drop (512 + 512 * a) bs)
      ≡ run_of (1 + a) (content_at bs).table = ap (λ (x : ℕ). take (512 * m) (drop x bs)) (sym at) ∙ nodes_are
      ∙ ap (λ (x : ℕ). run_of x (content_at bs).table) (first_is bs) in
      rw (
        cut,
        take-add 512 (512 * a + 512 * m) bs,
        take-add (512 * a) (512 * m) (drop 512 bs),
        drop-drop (512 * a) 512 bs,
        block,
        names,
        nodes,
        names_length bs f,
      )
      refl

-- ---- one changed byte of it gives 72
module _ (bs : List ℕ) (f : Fronted bs) (i v : ℕ) (other : v ≡ get_or bs i 0 → ⊥) where
  header_changed : i < 512 → front_check (set bs i v) ≡ refused block_check []
  unfolding blocks_check
  header_changed h = rw (changed_block 0 (used_of (header_at bs)) bs i v f.header h other 0
      (used_of (header_at (set bs i v)))) refl

  -- after a change behind block 0, the header is unchanged
  module _ (h : 512 ≤ i) where
    same_field : (at : ℕ) → at + 2 ≤ 512 → field 2 (set bs i v) at ≡ field 2 bs at
    same_field at k = sym (field_take 2 (set bs i v) 512 at k)
        ∙ ap (λ (x : List ℕ). field 2 x at) (take-set-le 512 bs i v h) ∙ field_take 2 bs 512 at k

    same_header : header_at (set bs i v) ≡ header_at bs
    unfolding header_at
    same_header = rw (same_field 4 (omega arith), same_field 6 (omega arith), same_field 2 (omega arith)) refl

    later : front_check (set bs i v) ≡ and_then (judge_run 1 (header_at bs).names (set (drop 512 bs) (i - 512) v))
        (λ _. judge_run (header_at bs).first (24 * (header_at bs).nodes)
        (drop (512 * (header_at bs).first) (set bs i v)))
    unfolding blocks_check
    later =
        rw (
          same_header,
          judge_outside 0 (used_of (header_at bs)) bs i v h,
          passes 0 (used_of (header_at bs)) bs f.header,
          small_fits f.counts,
          drop_set 512 bs i v h,
        )
        refl

    names_changed : i - 512 < 512 * blocks_for (header_at bs).names → front_check (set bs i v) ≡ refused block_check []
    names_changed k =
        later ∙ rw (changed_run 1 (header_at bs).names (drop 512 bs) (i - 512) v f.names k
        (λ e. other (e ∙ get_d_behind 512 bs i h))) refl

    nodes_changed : 512 * blocks_for (header_at bs).names ≤ i - 512 → 512 * (header_at bs).first ≤ i
        → i < (header_at bs).taken
        → front_check (set bs i v) ≡ refused block_check []
    nodes_changed k l m =
        later
        ∙ rw (
          run_outside 1 (header_at bs).names (drop 512 bs) (i - 512) v k,
          f.names,
          drop_set (512 * (header_at bs).first) bs i v l,
        )
        (changed_run (header_at bs).first (24 * (header_at bs).nodes) (drop (512 * (header_at bs).first) bs)
        (i - 512 * (header_at bs).first) v
        f.nodes (omega (arith, taken_is bs)) (λ e. other (e ∙ get_d_behind (512 * (header_at bs).first) bs i l)))

  -- THEOREM
  pub front_changed : i < (header_at bs).taken → front_check (set bs i v) ≡ refused block_check []
  front_changed h = ⊎_elim
      (λ (p : 512 ≤ i). ⊎_elim
      (λ (q : 512 * blocks_for (header_at bs).names ≤ i - 512). nodes_changed p q (omega (arith, first_is bs)) h)
      (λ (q : i - 512 < 512 * blocks_for (header_at bs).names). names_changed p q)
      (le_or_lt (512 * blocks_for (header_at bs).names) (i - 512)))
      (λ (p : i < 512). header_changed p)
      (le_or_lt 512 i)

-- ---- the file of a content, with any bytes after it, is read as that content

-- the three headers: the numbers of dialect bytes and of edition bytes
pub data Headed (d e : ℕ) : Type 0 where
  bare : d ≡ 0 → e ≡ 0 → Headed d e
  in_dialect : d ≡ 9 → e ≡ 0 → Headed d e
  by_edition : d ≡ 9 → e ≡ 1 → Headed d e

pub record Fits (c : Content) : Type 0 where
  pub whole : 24 * (length c.table / 24) ≡ length c.table
  pub some : 24 ≤ length c.table
  pub few : length c.table ≤ 50400
  pub names : length c.names ≤ 8064
  pub headed : Headed (length c.dialect) (length (stated_bytes c.edition))
  pub table_bytes : Bytes c.table
  pub names_bytes : Bytes c.names
  pub dialect_bytes : Bytes c.dialect
  pub edition_bytes : Bytes (stated_bytes c.edition)

-- such a header has at most ten bytes after its counts; the used bytes of block 0 give both numbers back; and the
-- edition byte is byte 17
headed_few : {d e : ℕ} → Headed d e → d + e ≤ 10
headed_few (bare p q) = omega arith
headed_few (in_dialect p q) = omega arith
headed_few (by_edition p q) = omega arith

headed_dialect : {d e : ℕ} → Headed d e → dialect_in (4 + (d + e)) ≡ d
unfolding dialect_in
headed_dialect (bare p q) = rw (p, q) refl
headed_dialect (in_dialect p q) = rw (p, q) refl
headed_dialect (by_edition p q) = rw (p, q) refl

headed_edition : {d e : ℕ} → Headed d e → edition_in (4 + (d + e)) ≡ e
unfolding edition_in
headed_edition (bare p q) = rw (p, q) refl
headed_edition (in_dialect p q) = rw (p, q) refl
headed_edition (by_edition p q) = rw (p, q) refl

headed_place : {d e : ℕ} → Headed d e → (bs : List ℕ) → take e (drop 17 bs) ≡ take e (drop (8 + d) bs)
headed_place (bare p q) bs = rw q refl
headed_place (in_dialect p q) bs = rw q refl
headed_place (by_edition p q) bs = rw p refl

-- an edition, by its bytes
stated_back : (e : Option ℕ) → stated_in (stated_bytes e) ≡ e
stated_back (Some n) = refl
stated_back None = refl

module _ (c : Content) (fit : Fits c) (rest : List ℕ) where
  abbrev edition : List ℕ
  edition = stated_bytes c.edition

  abbrev tail : List ℕ
  tail = c.dialect ++ edition

  abbrev bs : List ℕ
  bs = file_of c ++ rest

  abbrev nodes : ℕ
  nodes = length c.table / 24

  abbrev first : ℕ
  first = 1 + blocks_for (length c.names)

  abbrev node_part : List ℕ
  node_part = run_of first c.table ++ rest

  abbrev name_part : List ℕ
  name_part = run_of 1 c.names ++ node_part

  parts : bs ≡ block_of 0 (header_of c) ++ name_part
  unfolding file_of
  parts =
      append_assoc (block_of 0 (header_of c)) (run_of 1 c.names ++ run_of first c.table) rest
      ∙ ap (λ (x : List ℕ). block_of 0 (header_of c) ++ x)
      (append_assoc (run_of 1 c.names) (run_of first c.table) rest)

  tail_length : length tail ≡ length c.dialect + length edition
  tail_length = length-append c.dialect edition

  tail_small : length tail ≤ 10
  tail_small = omega (arith, tail_length, headed_few fit.headed)

  header_length : length (header_of c) ≡ 4 + length tail
  unfolding header_of
  header_length = simp (length-append, length_bytes) (omega arith)

  header_fits : length (header_of c) ≤ 504
  header_fits = omega (arith, header_length, tail_small)

  header_bytes : Bytes (header_of c)
  unfolding header_of
  header_bytes = bytes_append (bytes_of 2 nodes) _ (bytes_spelled 2 nodes)
      (bytes_append (bytes_of 2 (length c.names)) _ (bytes_spelled 2 (length c.names))
      (bytes_append c.dialect _ fit.dialect_bytes fit.edition_bytes))

  header_passes : judge 0 (length (header_of c)) bs ≡ accepted []
  header_passes = rw parts (block_passes 0 (header_of c) header_fits header_bytes (omega arith) name_part)

  used_so : field 2 bs 2 ≡ 4 + (length c.dialect + length edition)
  used_so =
      let p : Passing 0 (length (header_of c)) bs = passing 0 (length (header_of c)) bs header_passes in
      sym (field_take 2 bs 512 2 (omega arith)) ∙ p.said ∙ omega (arith, header_length, tail_length)

  dialect_so : (header_at bs).dialect ≡ length c.dialect
  unfolding header_at
  dialect_so = rw used_so (headed_dialect fit.headed)

  edition_so : (header_at bs).edition ≡ length edition
  unfolding header_at
  edition_so = rw used_so (headed_edition fit.headed)

  abbrev zeros : List ℕ
  zeros = replicate (504 - length (header_of c)) 0

  header_there : take 504 (drop 4 bs) ≡ bytes_of 2 nodes ++ (bytes_of 2 (length c.names) ++ (tail ++ zeros))
  unfolding header_of
  header_there =
      ap (λ (x : List ℕ). take 504 (drop 4 x)) parts
      ∙ content_there 0 (header_of c) header_fits name_part
      ∙ append_assoc (bytes_of 2 nodes) (bytes_of 2 (length c.names) ++ tail) zeros
      ∙ ap (λ (x : List ℕ). bytes_of 2 nodes ++ x) (append_assoc (bytes_of 2 (length c.names)) tail zeros)

  field_there : (at : ℕ) → at + 2 ≤ 504 → field 2 bs (4 + at)
      ≡ field 2 (bytes_of 2 nodes ++ (bytes_of 2 (length c.names) ++ (tail ++ zeros))) at
  field_there at h = sym (field_drop 2 bs 4 at) ∙ sym (field_take 2 (drop 4 bs) 504 at h)
      ∙ ap (λ (x : List ℕ). field 2 x at) header_there

  nodes_so : (header_at bs).nodes ≡ nodes
  unfolding header_at
  nodes_so = field_there 0 (omega arith) ∙ field_bytes 2 nodes _ (omega (arith, fit.few))

  names_so : (header_at bs).names ≡ length c.names
  unfolding header_at
  names_so =
      let more : List ℕ = bytes_of 2 (length c.names) ++ (tail ++ zeros) in
      let behind : field 2 (bytes_of 2 nodes ++ more) (length (bytes_of 2 nodes) + 0) ≡ length c.names =
      field_behind 2 (bytes_of 2 nodes) more 0
      ∙ field_bytes 2 (length c.names) (tail ++ zeros) (omega (arith, fit.names)) in
      field_there 2 (omega arith) ∙ (rw (length_bytes 2 nodes, add-zero 2) at behind)

  -- the bytes after the counts
  tail_there : take 500 (drop 8 bs) ≡ tail ++ zeros
  tail_there =
      let more : List ℕ = bytes_of 2 (length c.names) ++ (tail ++ zeros) in
      let behind : drop 4 (bytes_of 2 nodes ++ more) ≡ tail ++ zeros =
      sym (drop-drop 2 2 (bytes_of 2 nodes ++ more))
      ∙ ap (drop 2) (drop_at (bytes_of 2 nodes) more 2 (length_bytes 2 nodes))
      ∙ drop_at (bytes_of 2 (length c.names)) (tail ++ zeros) 2 (length_bytes 2 (length c.names)) in
      ap (take 500) (sym (drop-drop 4 4 bs)) ∙ sym (drop_take 4 504 (drop 4 bs)) ∙ ap (drop 4) header_there
      ∙ behind

  split_there : take 500 (drop 8 bs) ≡ c.dialect ++ (edition ++ zeros)
  split_there = tail_there ∙ append_assoc c.dialect edition zeros

  dialect_there : take (length c.dialect) (drop 8 bs) ≡ c.dialect
  dialect_there =
      sym (take-take (length c.dialect) 500 (drop 8 bs) (omega (arith, tail_length, tail_small)))
      ∙ ap (take (length c.dialect)) split_there
      ∙ take_at c.dialect (edition ++ zeros) (length c.dialect) refl

  edition_there : take (length edition) (drop 17 bs) ≡ edition
  edition_there =
      let d : ℕ = length c.dialect in
      let e : ℕ = length edition in
      let inside : take (500 - d) (drop (8 + d) bs) ≡ edition ++ zeros =
      ap (take (500 - d)) (sym (drop-drop d 8 bs)) ∙ sym (drop_take d 500 (drop 8 bs)) ∙ ap (drop d) split_there
      ∙ drop_at c.dialect (edition ++ zeros) d refl in
      headed_place fit.headed bs
      ∙ sym (take-take e (500 - d) (drop (8 + d) bs) (omega (arith, tail_length, tail_small)))
      ∙ ap (take e) inside ∙ take_at edition zeros e refl

  names_behind : drop 512 bs ≡ name_part
  names_behind = ap (drop 512) parts ∙ drop_at (block_of 0 (header_of c)) name_part 512
      (length_block 0 (header_of c) header_fits)

  first_so : (header_at bs).first ≡ first
  first_so = first_is bs ∙ rw names_so refl

  nodes_behind : drop (512 * (header_at bs).first) bs ≡ node_part
  nodes_behind =
      let a : ℕ = 512 * blocks_for (length c.names) in
      let at : 512 * (header_at bs).first ≡ 512 + a = omega (arith, first_so) in
      ap (λ (x : ℕ). drop x bs) at ∙ sym (drop-drop a 512 bs) ∙ ap (drop a) names_behind
      ∙ drop_at (run_of 1 c.names) node_part a (length_run 1 c.names)

  table_so : 24 * (header_at bs).nodes ≡ length c.table
  table_so = omega (arith, nodes_so, fit.whole)

  counts_so : Small nodes (length c.names)
  counts_so = record { some = omega (arith, fit.some); few = omega (arith, fit.few); short = fit.names }

  last_few : blocks_for (length c.table) ≤ 100
  last_few = rw fit.whole at (node_blocks counts_so)

  names_pass_lem : judge_run 1 (header_at bs).names (drop 512 bs) ≡ accepted []
  names_pass_lem = rw (names_so, names_behind)
      (run_passes 1 c.names node_part fit.names_bytes (omega (arith, name_blocks counts_so)))

  nodes_pass_lem : judge_run (header_at bs).first (24 * (header_at bs).nodes) (drop (512 * (header_at bs).first) bs)
      ≡ accepted []
  nodes_pass_lem = rw (nodes_behind, first_so, table_so)
      (run_passes first c.table rest fit.table_bytes (omega (arith, name_blocks counts_so, last_few)))

  -- THEOREM, in three parts: it passes, it holds the content, and its header states its length
  pub file_passes : front_check (file_of c ++ rest) ≡ accepted []
  unfolding blocks_check
  file_passes =
      let used : used_of (header_at bs) ≡ length (header_of c) =
      omega (arith, dialect_so, edition_so, header_length, tail_length) in
      let fits : counts_fit (header_at bs).nodes (header_at bs).names ≡ true =
      rw (nodes_so, names_so) (small_fits counts_so) in
      rw (used, header_passes, fits, names_pass_lem) nodes_pass_lem

  pub file_holds : content_at (file_of c ++ rest) ≡ c
  unfolding content_at
  file_holds =
      rw (
        dialect_so,
        dialect_there,
        edition_so,
        edition_there,
        stated_back c.edition,
        names_so,
        names_behind,
        run_holds 1 c.names node_part,
        nodes_behind,
        table_so,
        run_holds first c.table rest,
      )
      refl

  pub file_taken : (header_at (file_of c ++ rest)).taken ≡ length (file_of c)
  unfolding file_of
  file_taken =
      rw (taken_is bs, first_so, table_so)
      (simp (
        length-append,
        length_block 0 (header_of c) header_fits,
        length_run 1 c.names,
        length_run first c.table,
      ) (omega arith))
