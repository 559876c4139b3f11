-- What is kept is sound, and the reader reads it back. The definition has two cases, all or a cut; `kept_checked`
-- (the table passes 1 to 4) and `kept_small` (it consists of bytes) hold in both, so the laws of files then apply to
-- `kept bs` itself. If the blocks pass, `kept bs` is their content and its file is these blocks (`whole_file`, by
-- tablefile's `front_is_file`). The blocks pass exactly if the good records are all records of the header and pass 1
-- to 4 (`whole_is`), which is what the code tests. Assumes nothing.
use Rattle.std.specs.Prelude.{None, Option, Some}
use mathlib.Core.Path.{◌≡◌, refl, sym, ap, ◌∙◌}
use mathlib.Core.Bool.{Bool, true, false, ◌&&◌}
use mathlib.Core.Logic.{⊎_elim}
use mathlib.Core.List.{List, []}
use Prim.Native.Nat.{ℕ, ◌+◌, ◌*◌, ◌/◌, ◌%◌, ◌<◌, ◌≤◌}
use native.Mathlib.Omega.{arith}
use lib.ListN.{length, take, drop, set, length-drop}
use lib.Dec.{leb}
use borrow.Author.Tests.{leb-true, le-leb, lt-leb}
use Rattle.fields.specs.Choice.{if'}
use Rattle.fields.proofs.Basics.{clash, and_left, and_right, le_or_lt}
use Rattle.fields.proofs.Spelling.{Bytes, bytes_take, bytes_drop, bytes_set}
use Rattle.dialect.specs.Bytes.{from_bytes}
use Rattle.dialect.specs.declared.Dialect.{Dialect}
use Rattle.dialect.specs.declared.Edition.{Edition}
use Rattle.forest.specs.Forest.{node_of, firsts, count}
use Rattle.soundness.specs.KindNumbers.{kind_statements}
use Rattle.table.specs.Answer.{Answer, accepted, refused, passes, and_then}
use Rattle.table.specs.Check.{check_of, handing, given_of, in_given, given_check}
use Rattle.table.proofs.Answers.{passes_is, passed_both}
use Rattle.table.proofs.Checking.{accepted_clean}
use Rattle.table.proofs.Entering.{given_known}
use Rattle.table.proofs.Ruling.{rules_known, rules_passed, rules_given}
use Rattle.table.proofs.Theorems.{clean_accepted}
use Rattle.blocks.specs.Block.{judge}
use Rattle.blocks.specs.Run.{blocks_for, judge_run, good_blocks, content_of}
use Rattle.blocks.proofs.Runs.{run_then, run_long, content_long}
use Rattle.blocks.proofs.Goods.{held, held_content, held_length, good_there, good_all, all_good, block_long}
use Rattle.blocks.proofs.Parts.{bytes_content}
use Rattle.tablefile.specs.File.{Content, file_of}
use Rattle.tablefile.specs.Reading.{header_at, used_of, content_at, counts_fit, edition_read, blocks_check, front_check}
use Rattle.tablefile.specs.Reading.{sound_check, read_check}
use Rattle.tablefile.proofs.Fronts.{Fronted, fronted_then, Small, counts_small, first_is, taken_is, table_length_lem}
use Rattle.tablefile.proofs.Files.{front_is_file}
use Rattle.tablefile.proofs.Accepted.{SoundContent, back_accepted, back_holds}
use Rattle.rescue.specs.Good.{is_dialect, is_edition, head_good, blocks_pass, good_table}
use Rattle.rescue.specs.Cut.{children, resized, cut_to, children_kept, largest_cut}
use Rattle.rescue.specs.Job.{table_kept, kept}
use Rattle.rescue.specs.Steps.{kept_if}
use Rattle.rescue.proofs.Cuts.{Rooted, rooted, cut_length, cut_short}
use Rattle.rescue.proofs.Largest.{keeps}

-- what a good header implies
pub record Head (bs : List ℕ) : Type 0 where
  pub fit : counts_fit (header_at bs).nodes (header_at bs).names ≡ true
  pub counts : Small (header_at bs).nodes (header_at bs).names
  pub dialect : (d : Dialect) × (from_bytes (content_at bs).dialect ≡ Some d)
  pub edition : (e : Edition) × (edition_read (content_at bs) ≡ Some e)
  pub block : passes (judge 0 (used_of (header_at bs)) bs) ≡ true
  pub names : passes (judge_run 1 (header_at bs).names (drop 512 bs)) ≡ true

pub head_says : (bs : List ℕ) → head_good bs ≡ true → Head bs
unfolding head_good
head_says bs e =
    let block : Bool = passes (judge 0 (used_of (header_at bs)) bs) in
    let fit : Bool = counts_fit (header_at bs).nodes (header_at bs).names in
    let valid : Bool = is_dialect (from_bytes (content_at bs).dialect) in
    let held : Bool = is_edition (edition_read (content_at bs)) in
    let two = and_right block _ e in
    let three = and_right fit _ two in
    let four = and_right valid _ three in
    record {
      fit = and_left fit _ two;
      counts = counts_small (header_at bs).nodes (header_at bs).names (and_left fit _ two);
      dialect = go (from_bytes (content_at bs).dialect) (and_left valid _ three);
      block = and_left block _ e;
      edition = known (edition_read (content_at bs)) (and_left held _ four);
      names = and_right held _ four;
    }
  where
    go : (x : Option Dialect) → is_dialect x ≡ true → (d : Dialect) × (x ≡ Some d)
    go (Some d) e = (d, refl)
    go None e = clash e refl

    known : (x : Option Edition) → is_edition x ≡ true → (e : Edition) × (x ≡ Some e)
    known (Some e) h = (e, refl)
    known None h = clash h refl

-- the names of a good header are present whole
module _ (bs : List ℕ) (head : head_good bs ≡ true) where
  names_run : judge_run 1 (header_at bs).names (drop 512 bs) ≡ accepted []
  names_run =
      let is = passes_is (judge_run 1 (header_at bs).names (drop 512 bs)) (head_says bs head).names in
      (run_then 1 (header_at bs).names (drop 512 bs) (λ _. accepted []) (rw is.1 refl)).0

  pub names_long : length (content_at bs).names ≡ (header_at bs).names
  unfolding content_at
  names_long = content_long (header_at bs).names (drop 512 bs)
      (run_long 1 (header_at bs).names (drop 512 bs) names_run)

  pub first_there_lem : 512 * (header_at bs).first ≤ length bs
  first_there_lem =
      let block = block_long 0 (used_of (header_at bs)) bs (head_says bs head).block in
      omega (arith, run_long 1 (header_at bs).names (drop 512 bs) names_run, length-drop 512 bs, first_is bs)

-- the blocks pass: their content passes 1 to 5, and it is what is kept
module _ (bs : List ℕ) (w : blocks_pass bs ≡ true) where
  record Both : Type 0 where
    pub us : List ℕ
    pub vs : List ℕ
    pub front : front_check bs ≡ accepted us
    pub sound : sound_check (content_at bs) ≡ accepted vs

  whole_both : Both
  unfolding blocks_pass
  whole_both =
      let is = passes_is (and_then (front_check bs) (λ _. sound_check (content_at bs))) w in
      let both = passed_both (front_check bs) (λ _. sound_check (content_at bs)) is.1 in
      record { us = both.0; vs = is.0; front = both.1; sound = both.2 }

  pub whole_checked : check_of (content_at bs).table (content_at bs).names ≡ accepted []
  whole_checked =
      let c : Content = content_at bs in
      let (d, e, rules) = rules_passed c.table c.names c.dialect (edition_read c) whole_both.sound in
      let known = rules_known c.table c.names c.dialect rules in
      clean_accepted c.table c.names (given_known c.table c.names c.dialect known.0).0

  pub whole_fronted : Fronted bs
  whole_fronted = (fronted_then bs (λ _. accepted []) (rw whole_both.front refl)).0

  pub whole_there : (header_at bs).taken ≤ length bs
  whole_there =
      let at = run_long (header_at bs).first (24 * (header_at bs).nodes) (drop (512 * (header_at bs).first) bs)
      whole_fronted.nodes in
      omega (
        arith,
        whole_fronted.header.long,
        run_long 1 (header_at bs).names (drop 512 bs) whole_fronted.names,
        taken_is bs,
        first_is bs,
        length-drop 512 bs,
        length-drop (512 * (header_at bs).first) bs,
      )

  pub whole_kept : kept bs ≡ content_at bs
  unfolding table_kept
  whole_kept = rw w refl

  -- LAW: the file of what is kept is the header's blocks, byte for byte
  pub whole_file : Bytes bs → file_of (kept bs) ≡ take (header_at bs).taken bs
  whole_file small = ap file_of whole_kept ∙ sym (front_is_file bs small whole_fronted)

-- the blocks do not pass: the cut
module _ (bs : List ℕ) (w : blocks_pass bs ≡ false) where
  abbrev pub statements_kept : ℕ
  statements_kept = children_kept (good_table bs) (content_at bs).names

  pub cut_kept : table_kept bs ≡ if' (leb 1 statements_kept) (λ _. cut_to statements_kept (good_table bs)) (λ _. [])
  unfolding table_kept largest_cut
  cut_kept = rw w refl

  pub cut_some : 1 ≤ length (table_kept bs)
      → (1 ≤ statements_kept) × (table_kept bs ≡ cut_to statements_kept (good_table bs))
  cut_some some = go (leb 1 statements_kept) refl cut_kept
    where
      go : (b : Bool) → leb 1 statements_kept ≡ b
          → table_kept bs ≡ if' b (λ _. cut_to statements_kept (good_table bs)) (λ _. [])
          → (1 ≤ statements_kept) × (table_kept bs ≡ cut_to statements_kept (good_table bs))
      go true e is = (leb-true 1 statements_kept e, is)
      go false e is = absurd (omega (arith, ap length is))

-- the records in good node blocks: whole records, at most the header's number; and the whole passes exactly if they are
-- all records and pass 1 to 4
module _ (bs : List ℕ) where
  abbrev total : ℕ
  total = 24 * (header_at bs).nodes

  abbrev rest : List ℕ
  rest = drop (512 * (header_at bs).first) bs

  abbrev pub goods : ℕ
  goods = good_blocks (blocks_for total) (header_at bs).first total rest

  pub good_content : good_table bs ≡ content_of (held goods total) rest
  unfolding good_table content_at
  good_content = let there = good_there (blocks_for total) (header_at bs).first total rest in
      held_content goods total rest there.0 there.1

  pub good_length : length (good_table bs) ≡ held goods total
  good_length = let there = good_there (blocks_for total) (header_at bs).first total rest in
      ap length good_content ∙ held_length goods total rest there.0 there.1

  pub good_whole : 24 * (length (good_table bs) / 24) ≡ length (good_table bs)
  good_whole = omega (arith, good_length)

  -- if they begin with a Statements
  pub good_root : (node_of 0 (good_table bs)).kind ≡ kind_statements → Rooted (good_table bs)
  good_root = rooted good_whole

-- what is kept, from the good records and the header's number of nodes
module _ (bs : List ℕ) (head : head_good bs ≡ true) where
  abbrev good_test : Bool
  good_test = leb (total bs) (length (good_table bs)) && passes (check_of (good_table bs) (content_at bs).names)

  front_is : front_check bs ≡ judge_run (header_at bs).first (total bs) (rest bs)
  unfolding blocks_check
  front_is =
      let says = head_says bs head in
      rw ((passes_is (judge 0 (used_of (header_at bs)) bs) says.block).1, says.fit, names_run bs head) refl

  sound_is : passes (sound_check (content_at bs)) ≡ passes (check_of (content_at bs).table (content_at bs).names)
  unfolding given_of
  sound_is =
      let c : Content = content_at bs in
      let edition = (head_says bs head).edition in
      let given : sound_check c ≡ given_check c.table c.names c.dialect =
      rw edition.1 (rules_given c.table c.names c.dialect edition.0) in
      ap passes given ∙ rw (head_says bs head).dialect.1 (go (check_of c.table c.names))
    where
      go : (a : Answer) → passes (in_given (handing a (Some (head_says bs head).dialect.0)) (λ _. accepted []))
          ≡ passes a
      go (accepted vs) = refl
      go (refused n vs) = refl

  module _ {vs : List ℕ} (run : judge_run (header_at bs).first (total bs) (rest bs) ≡ accepted vs) where
    whole_table : good_table bs ≡ (content_at bs).table
    unfolding judge_run content_at blocks_for
    whole_table =
        let all = good_all (blocks_for (total bs)) (header_at bs).first (total bs) (rest bs) (ap passes run) in
        let n : held (goods bs) (total bs) ≡ total bs = omega arith in
        good_content bs ∙ ap (λ (k : ℕ). content_of k (rest bs)) n

    all_is : good_test ≡ blocks_pass bs
    unfolding blocks_pass blocks_for judge_run
    all_is =
        let all = good_all (blocks_for (total bs)) (header_at bs).first (total bs) (rest bs) (ap passes run) in
        let long : total bs ≤ length (good_table bs) = omega (arith, good_length bs) in
        rw (le-leb (total bs) (length (good_table bs)) long, whole_table, front_is, run, sound_is) refl

  cut_is : {n : ℕ} {vs : List ℕ} → judge_run (header_at bs).first (total bs) (rest bs) ≡ refused n vs
      → good_test ≡ blocks_pass bs
  unfolding blocks_pass blocks_for judge_run
  cut_is run =
      let short : length (good_table bs) < total bs = ⊎_elim
      (λ (h : total bs ≤ length (good_table bs)). clash
      (all_good (blocks_for (total bs)) (header_at bs).first (total bs) (rest bs) (omega (arith, good_length bs)))
      (ap passes run))
      (λ (h : length (good_table bs) < total bs). h)
      (le_or_lt (total bs) (length (good_table bs))) in
      rw (lt-leb (total bs) (length (good_table bs)) short, front_is, run) refl

  -- LAW: the blocks pass exactly if the good records are all records and pass 1 to 4
  pub whole_is : good_test ≡ blocks_pass bs
  whole_is = go (judge_run (header_at bs).first (total bs) (rest bs)) refl
    where
      go : (a : Answer) → judge_run (header_at bs).first (total bs) (rest bs) ≡ a → good_test ≡ blocks_pass bs
      go (accepted vs) is = all_is is
      go (refused n vs) is = cut_is is

  pub kept_is : kept_if (blocks_pass bs) (good_table bs) (content_at bs).names ≡ table_kept bs
  unfolding kept_if table_kept
  kept_is = go (blocks_pass bs) refl
    where
      go : (b : Bool) → blocks_pass bs ≡ b
          → if' b (λ _. good_table bs) (λ _. largest_cut (good_table bs) (content_at bs).names)
          ≡ if' b (λ _. (content_at bs).table) (λ _. largest_cut (good_table bs) (content_at bs).names)
      go true w = whole_table (sym front_is ∙ (whole_both bs w).front)
      go false w = refl

-- what is kept of a file with a good header, if anything is
module _ (bs : List ℕ) (head : head_good bs ≡ true) (some : 1 ≤ length (table_kept bs)) where
  pub kept_checked : check_of (table_kept bs) (content_at bs).names ≡ accepted []
  kept_checked = go (blocks_pass bs) refl
    where
      go : (b : Bool) → blocks_pass bs ≡ b → check_of (table_kept bs) (content_at bs).names ≡ accepted []
      go true w = rw (ap (λ (c : Content). c.table) (whole_kept bs w)) (whole_checked bs w)
      go false w =
          let cut = cut_some bs w some in
          rw cut.1 (keeps (good_table bs) (content_at bs).names cut.0).passed

  -- it has a node, and at most the header's number of nodes
  pub kept_some : 24 ≤ length (table_kept bs)
  kept_some = (accepted_clean (table_kept bs) (content_at bs).names kept_checked).least

  pub kept_few : length (table_kept bs) ≤ 24 * (header_at bs).nodes
  kept_few = go (blocks_pass bs) refl
    where
      go : (b : Bool) → blocks_pass bs ≡ b → length (table_kept bs) ≤ 24 * (header_at bs).nodes
      go true w = omega
          (arith, ap (λ (c : Content). length c.table) (whole_kept bs w), table_length_lem bs (whole_fronted bs w))
      go false w =
          let cut = cut_some bs w some in
          let kind = (keeps (good_table bs) (content_at bs).names cut.0).kind in
          omega (
            arith,
            ap length cut.1,
            good_length bs,
            cut_short (statements_kept bs w) (good_root bs kind),
          )

  pub kept_sound : sound_check (kept bs) ≡ accepted []
  unfolding given_of
  kept_sound =
      let edition = (head_says bs head).edition in
      rw edition.1 (rules_given (table_kept bs) (content_at bs).names (content_at bs).dialect edition.0
      ∙ rw (kept_checked, (head_says bs head).dialect.1) refl)

  module _ (small : Bytes bs) where
    table_small : Bytes (content_at bs).table
    unfolding content_at
    table_small = bytes_content (24 * (header_at bs).nodes) (drop (512 * (header_at bs).first) bs)
        (bytes_drop bs (512 * (header_at bs).first) small)

    pub cut_small : (k : ℕ) (t : List ℕ) → 1 + count (firsts k (children t)) < 65536 → Bytes t → Bytes (cut_to k t)
    unfolding cut_to resized
    cut_small k t few b =
        let m : ℕ = 1 + count (firsts k (children t)) in
        bytes_set (set (take (24 * m) t) 16 (m % 256)) 17 (m / 256)
        (bytes_set (take (24 * m) t) 16 (m % 256) (bytes_take t (24 * m) b) (omega arith)) (omega arith)

    good_small : Bytes (good_table bs)
    unfolding good_table
    good_small = bytes_take (content_at bs).table (504 * goods bs) table_small

    kept_small : Bytes (table_kept bs)
    kept_small = go (blocks_pass bs) refl
      where
        go : (b : Bool) → blocks_pass bs ≡ b → Bytes (table_kept bs)
        go true w = rw (ap (λ (c : Content). c.table) (whole_kept bs w)) table_small
        go false w =
            let cut = cut_some bs w some in
            let keep = keeps (good_table bs) (content_at bs).names cut.0 in
            let counts = (head_says bs head).counts in
            let long = cut_length (statements_kept bs w) (good_root bs keep.kind) in
            let fits = cut_short (statements_kept bs w) (good_root bs keep.kind) in
            rw cut.1 (cut_small (statements_kept bs w) (good_table bs) (omega (arith, good_length bs)) good_small)

    pub kept_content : SoundContent (kept bs)
    unfolding content_at
    kept_content = record {
      sound = kept_sound;
      table_bytes = kept_small;
      names_bytes = bytes_content (header_at bs).names (drop 512 bs) (bytes_drop bs 512 small);
      dialect_bytes = bytes_take (drop 8 bs) (header_at bs).dialect (bytes_drop bs 8 small);
    }

    -- LAW: the reader accepts its file, and its content is what is kept
    pub kept_read : read_check (file_of (kept bs)) ≡ accepted []
    kept_read = back_accepted (kept bs) kept_content

    pub kept_held : content_at (file_of (kept bs)) ≡ kept bs
    kept_held = back_holds (kept bs) kept_content
