-- Laws of the job, one for each `return`. Three records carry what is known from function to function: `Ready` (the
-- header is good, and what the names are), `Goods` (the records in good blocks) and `Keeping` (the table that is
-- kept). From there on the three tests of the definition are those of the code: 90, 91 and 7. The output is written
-- by the writer, or copied if the blocks pass; then the kept file is these blocks (`lay_whole`, by Keeping's
-- `whole_file`). No induction. Assumes nothing.
use Rattle.std.specs.Prelude.{Option, ℕ}
use mathlib.Core.Path.{◌≡◌, refl, sym, ap, ◌∙◌}
use mathlib.Core.Bool.{Bool, true, false, ◌&&◌}
use mathlib.Core.List.{List, [], ◌∷◌}
use Prim.Native.Nat.{ℕ, ◌+◌, ◌*◌, ◌-◌, ◌/◌, ◌<◌, ◌≤◌, ◌^◌}
use native.Mathlib.Omega.{arith}
use lib.ListN.{length, take, drop, length-take, length-drop}
use lib.Seq.{take_at}
use lib.Dec.{leb}
use Rattle.fields.proofs.Fields.{tail_part}
use Rattle.fields.specs.Over.{over}
use Rattle.fields.proofs.Over.{over_front}
use Rattle.fields.proofs.Spelling.{Bytes}
use Rattle.table.specs.Numbers.{short_buffer, bad_header, nothing_kept}
use Rattle.table.specs.Answer.{accepted, refused, passes}
use Rattle.table.specs.Check.{check_of}
use Rattle.blocks.specs.Laid.{laid_at}
use Rattle.blocks.specs.Run.{blocks_for, content_of}
use Rattle.blocks.proofs.Laying.{laid_part}
use Rattle.blocks.proofs.Goods.{held, held_blocks, good_there}
use Rattle.tablefile.specs.File.{Content, file_of}
use Rattle.tablefile.specs.Lending.{copied}
use Rattle.tablefile.proofs.Copies.{copied_is}
use Rattle.tablefile.specs.Reading.{header_at, content_at}
use Rattle.tablefile.specs.declared.Heading.{Heading}
use Rattle.tablefile.proofs.Fronts.{Small, name_blocks, first_is, taken_is, table_length_lem}
use Rattle.writer.specs.Writing.{holding, bytes_for, laid_over}
use Rattle.writer.proofs.Building.{length_file}
use Rattle.writer.proofs.Jobs.{Few, sound_few, Fitting, laid_over_lem}
use Rattle.rescue.specs.Good.{head_good, blocks_pass, good_table}
use Rattle.rescue.specs.Job.{table_kept, kept, statements_of, told_of, rescue_of, file_after, told}
use Rattle.rescue.specs.Steps.{kept_if, good_bytes, Front, Records, Ready, Goods, Keeping}
use Rattle.rescue.specs.declared.Kept.{Kept}
use Rattle.rescue.proofs.Keeping.{head_says, names_long, first_there_lem, kept_some, kept_few, kept_sound, goods}
use Rattle.rescue.proofs.Keeping.{whole_is, kept_is, whole_kept, whole_fronted, whole_there, whole_file}
use Rattle.rescue.proofs.Keeping.{good_content, good_length, good_whole}
use Rattle.rescue.proofs.Theorems.{said, bad_head, kept_nothing, short_room}

-- a refusal leaves the buffer unchanged
keeps : (bs file : List ℕ) {n : ℕ} {vs : List ℕ} → refused n vs ≡ rescue_of bs (length file) → file ≡ file_after bs file
unfolding file_after
keeps bs file e = rw (← e) refl

-- 90: the header is not good
module _ (bs : List ℕ) {q : Bool} (q-is : q ≡ head_good bs) (bad : q ≡ false) where
  pub head_refused : (room : ℕ) → refused bad_header [] ≡ rescue_of bs room
  head_refused room = sym (bad_head bs room (sym q-is ∙ bad))

  pub head_keeps : (file : List ℕ) → file ≡ file_after bs file
  head_keeps file = keeps bs file (head_refused (length file))

-- what is kept, and room for it
module _ {bs : List ℕ} {h : Heading} {names t : List ℕ} {whole : Bool} (k : Keeping bs h names t whole) where
  some : 1 ≤ length (table_kept bs)
  some = rw k.table at k.some

  pub fin_names : length names ≤ 8064
  fin_names = omega
      (arith, ap length k.ready.called, names_long bs k.ready.head, (head_says bs k.ready.head).counts)

  pub fin_nodes : h.nodes ≤ 2100
  fin_nodes = rw k.ready.heading (head_says bs k.ready.head).counts.few

  pub fin_some : 24 ≤ length t
  fin_some = rw k.table (kept_some bs k.ready.head some)

  pub fin_few : length t ≤ 24 * h.nodes
  fin_few = rw (k.table, k.ready.heading) (kept_few bs k.ready.head some)

  size_is : 512 * (1 + blocks_for (length names) + blocks_for (length t))
      ≡ bytes_for (length (table_kept bs)) (header_at bs).names
  size_is = rw (k.table, k.ready.called, names_long bs k.ready.head) refl

  pub fin_name_blocks : {a : ℕ} → a ≡ blocks_for (length names) → a ≤ 16
  unfolding blocks_for
  fin_name_blocks a-is = omega (arith, fin_names)

  pub fin_one : {a : ℕ} → a ≡ blocks_for (length names) → 1 + a < 2 ^ 64
  fin_one a-is = omega (arith, fin_name_blocks a-is)

  pub fin_node_blocks : {b : ℕ} → b ≡ blocks_for (length t) → b ≤ 100
  unfolding blocks_for
  fin_node_blocks b_is = omega (arith, fin_few, fin_nodes)

  module _ {a b : ℕ} (a-is : a ≡ blocks_for (length names)) (b_is : b ≡ blocks_for (length t)) where
    size_here : 512 * (1 + a + b) ≡ bytes_for (length (table_kept bs)) (header_at bs).names
    size_here = rw (a-is, b_is) size_is

    pub fin_word : 512 * (1 + a + b) < 2 ^ 32
    fin_word = omega (arith, fin_name_blocks a-is, fin_node_blocks b_is)

    pub fin_fits : 512 * (1 + a + b) < 2 ^ 64
    fin_fits = omega (arith, fin_word)

    pub fin_sum : 1 + a + b < 2 ^ 64
    fin_sum = omega (arith, fin_word)

    pub fin_short : (room : ℕ) → room < 512 * (1 + a + b) → refused short_buffer [] ≡ rescue_of bs room
    fin_short room less = sym (short_room bs room k.ready.head some (omega (arith, size_here)))

    pub fin_keeps : (file : List ℕ) → length file < 512 * (1 + a + b) → file ≡ file_after bs file
    fin_keeps file less = keeps bs file (fin_short (length file) less)

    module _ (room : ℕ) (enough : 512 * (1 + a + b) ≤ room) where
      pub fin_room : bytes_for (length t) (length names) ≤ room
      fin_room = omega (arith, size_is, size_here)

      answer : rescue_of bs room ≡ accepted (told_of bs (table_kept bs))
      answer = said bs room k.ready.head some (omega (arith, size_here))

      pub fin_told : {r : Kept}
          → told r ≡ 512 * (1 + a + b) ∷ statements_of t ∷ length t / 24 ∷ (h.nodes - length t / 24)
          ∷ (length bs - h.taken) ∷ []
          → accepted (told r) ≡ rescue_of bs room
      fin_told {r} r-is =
          let list : told r ≡ told_of bs (table_kept bs) = r-is ∙ rw (size_here, k.table, k.ready.heading) refl in
          ap accepted list ∙ sym answer

    pub fin_file : (file : List ℕ) → 512 * (1 + a + b) ≤ length file → {after : List ℕ}
        → after ≡ over 0 (file_of (kept bs)) file → after ≡ file_after bs file
    unfolding file_after
    fin_file file enough after_is = after_is ∙ rw (answer (length file) enough) refl

  fin_kept : Few (kept bs)
  fin_kept = sound_few (kept bs) (kept_sound bs k.ready.head some)

  -- the file, written or copied
  pub lay_there : whole ≡ true → h.taken ≤ length bs
  lay_there e = rw k.ready.heading (whole_there bs (sym k.passed ∙ e))

  module _ (file : List ℕ) (room : bytes_for (length t) (length names) ≤ length file) where
    taken : whole ≡ true → h.taken ≡ bytes_for (length t) (length names)
    taken e =
        let w = sym k.passed ∙ e in
        let long : length t ≡ 24 * (header_at bs).nodes = ap length k.table
        ∙ ap (λ (c : Content). length c.table) (whole_kept bs w) ∙ table_length_lem bs (whole_fronted bs w) in
        rw (k.ready.heading, long, k.ready.called, names_long bs k.ready.head)
        (omega (arith, taken_is bs, first_is bs))

    pub lay_room : whole ≡ true → h.taken ≤ length file
    lay_room e = omega (arith, taken e)

    file_long : length (file_of (kept bs)) ≡ bytes_for (length t) (length names)
    file_long = length_file (kept bs) fin_kept.dialect ∙ rw (k.table, k.ready.called) refl

    pub lay_whole : whole ≡ true → Bytes bs → {after : List ℕ}
        → after ≡ laid_at 0 (take (h.taken - 0) bs) file → after ≡ over 0 (file_of (kept bs)) file
    lay_whole e small laid =
        let same : file_of (kept bs) ≡ take h.taken bs = whole_file bs (sym k.passed ∙ e) small
        ∙ rw k.ready.heading refl in
        let long : length (file_of (kept bs)) ≡ h.taken = file_long ∙ sym (taken e) in
        laid_part bs file (lay_there e, lay_room e) laid
        ∙ sym (over_front (file_of (kept bs)) file ∙ rw (long, same) refl)

    pub lay_cut : {ds : List ℕ} → ds ≡ (content_at bs).dialect → {edition : Option ℕ}
        → edition ≡ (content_at bs).edition
        → {after : List ℕ} → after ≡ laid_over (holding t names ds edition) file
        → after ≡ over 0 (file_of (kept bs)) file
    lay_cut {ds} ds-is {edition} edition-is after_is =
        let fit : Fitting (length t) (length names) (length ds) edition (length file) = record {
          few = omega (arith, fin_few, fin_nodes);
          named = fin_names;
          nine = rw ds-is fin_kept.dialect;
          byte = rw edition-is fin_kept.edition;
          there = room;
        } in
        after_is ∙ laid_over_lem (holding t names ds edition) file fit
        ∙ rw (k.table, k.ready.called, ds-is, edition-is) refl

-- a file whose header is good
module _ {bs : List ℕ} {h : Heading} {names : List ℕ} (r : Ready bs h names) where
  counts : Small h.nodes h.names
  counts = rw r.heading (head_says bs r.head).counts

  pub into_nodes : h.nodes ≤ 2100
  into_nodes = counts.few

  first_few : h.first ≤ 17
  first_few =
      let first : h.first ≡ 1 + blocks_for h.names = rw r.heading (first_is bs) in
      omega (arith, name_blocks counts)

  pub into_at : 512 * h.first < 2 ^ 64
  into_at = omega (arith, first_few)

  pub into_word : h.first < 65536
  into_word = omega (arith, first_few)

  pub into_table : 24 * h.nodes < 2 ^ 64
  into_table = omega (arith, into_nodes)

  pub into_there : 512 * h.first ≤ length bs
  into_there = rw r.heading (first_there_lem bs r.head)

  -- the good records
  module _ {got : ℕ} (got-is : got ≡ good_bytes h.first (24 * h.nodes)
      (take (length bs - 512 * h.first) (drop (512 * h.first) bs))) where
    got_held : got ≡ held (goods bs) (24 * (header_at bs).nodes)
    unfolding good_bytes
    got_held = got-is ∙ rw (tail_part (512 * h.first) bs, r.heading) refl

    pub into_few : got ≤ 50400
    into_few = omega (arith, got_held, into_nodes, ap (λ (x : Heading). x.nodes) r.heading)

    into_copy : 512 * (h.first + blocks_for got) ≤ length bs
    into_copy =
        let there = good_there (blocks_for (24 * (header_at bs).nodes)) (header_at bs).first (24 * (header_at bs).nodes)
        (drop (512 * (header_at bs).first) bs) in
        let blocks : blocks_for got ≡ goods bs = ap blocks_for got_held
        ∙ held_blocks (goods bs) (24 * (header_at bs).nodes) there.0 in
        rw (blocks, r.heading)
        (omega (arith, there.1, first_there_lem bs r.head, length-drop (512 * (header_at bs).first) bs))

    module _ {u : List ℕ} (z : List ℕ) (room : length z ≡ 50400) (u-is : u ≡ copied h.first got bs z) where
      got_table : take (got - 0) u ≡ good_table bs
      got_table =
          let n : got - 0 ≡ got = omega arith in
          let is : content_of got (drop (512 * h.first) bs) ≡ good_table bs =
          rw (got_held, r.heading) (sym (good_content bs)) in
          let long : length (content_of got (drop (512 * h.first) bs)) ≡ got =
          ap length is ∙ good_length bs ∙ sym got_held in
          rw (n, u-is, copied_is h.first got bs z into_copy (omega (arith, into_few)))
          (take_at (content_of got (drop (512 * h.first) bs)) (drop got z) got long ∙ is)

      pub into_part : got ≤ length u
      into_part = omega (arith, ap length got_table, good_length bs, got_held, length-take (got - 0) u)

      pub into_goods : Goods bs h names (take (got - 0) u)
      into_goods = record { ready = r; table = got_table }

-- the good records of such a file
module _ {bs : List ℕ} {h : Heading} {names t : List ℕ} (g : Goods bs h names t) where
  pub good_nodes : h.nodes ≤ 2100
  good_nodes = into_nodes g.ready

  pub good_records : Records t
  good_records = rw g.table record {
    whole = good_whole bs;
    few = omega (arith, good_length bs, good_nodes, ap (λ (x : Heading). x.nodes) g.ready.heading);
  }

  module _ {w : Bool} (w-is : w ≡ (leb (24 * h.nodes) (length t) && passes (check_of t names))) where
    passed : w ≡ blocks_pass bs
    passed = w-is ∙ rw (g.table, g.ready.called, g.ready.heading) (whole_is bs g.ready.head)

    module _ {u : List ℕ} {n : ℕ} (f : Front (kept_if w t names) u n) where
      is_kept : kept_if w t names ≡ table_kept bs
      is_kept = rw (passed, g.table, g.ready.called) (kept_is bs g.ready.head)

      size : n ≡ length (table_kept bs)
      size = f.size ∙ ap length is_kept

      pub nothing_refused : n ≡ 0 → (room : ℕ) → refused nothing_kept [] ≡ rescue_of bs room
      nothing_refused e room = sym (kept_nothing bs room g.ready.head (omega (arith, size)))

      pub nothing_keeps : n ≡ 0 → (file : List ℕ) → file ≡ file_after bs file
      nothing_keeps e file = keeps bs file (nothing_refused e (length file))

      pub kept_part : n ≤ length u
      kept_part = omega (arith, f.size, ap length f.front, length-take n u)

      pub kept_keeping : (n ≡ 0 → ⊥) → Keeping bs h names (take (n - 0) u) w
      kept_keeping more =
          let all : n - 0 ≡ n = omega arith in
          let is : take n u ≡ table_kept bs = f.front ∙ is_kept in
          rw all record { ready = g.ready; table = is; some = omega (arith, size, ap length is); passed = passed }

-- the names
module _ (bs : List ℕ) {h : Heading} (h-is : h ≡ header_at bs) {q : Bool} (q-is : q ≡ head_good bs) (good : q ≡ true)
  where
    head : head_good bs ≡ true
    head = sym q-is ∙ good

    pub start_names : h.names ≤ 8064
    start_names = rw h-is (head_says bs head).counts.short

    start_copy : 512 * (1 + blocks_for h.names) ≤ length bs
    start_copy = rw h-is (omega (arith, first_there_lem bs head, first_is bs))

    pub start_ready : {ns : List ℕ} (z : List ℕ)
        → length z ≡ 8064 → ns ≡ copied 1 h.names bs z → Ready bs h (take (h.names - 0) ns)
    unfolding content_at
    start_ready {ns} z room ns-is =
        let n : h.names - 0 ≡ h.names = omega arith in
        let long : length (content_of h.names (drop 512 bs)) ≡ h.names = rw h-is (names_long bs head) in
        record {
          heading = h-is;
          head = head;
          called = rw (n, ns-is, copied_is 1 h.names bs z start_copy (omega (arith, start_names)))
              (take_at (content_of h.names (drop 512 bs)) (drop h.names z) h.names long ∙ rw h-is refl);
        }
