-- Reading into the caller's memory. The whole check is 70 to 75, then 1 to 5 (`read_steps`), then 7 (`into_steps`).
-- `unpack` tests 70 to 75 alone: if they refuse, the arrays stay (`unpack_kept`), else they get the content
-- (`unpack_table_done`, `unpack_names_done`). `unpacked_table` and `unpacked_names` are for a job that runs on these
-- arrays, `copied_holds` for one that copies the content itself. `read_into` unpacks into arrays of its own, which then
-- hold the file (`read_holds`); 1 to 5 and 7 on them are the rest of the check (`into_so`). A buffer changes only if
-- all is passed (`into_kept`, `into_table_done`, `into_names_done`). Assumes nothing.
use Rattle.std.specs.Prelude.{Err, None, Ok, Option, Result, Some, ℕ}
use Rattle.table.specs.declared.Refusal.{Refusal}
use mathlib.Core.Path.{◌≡◌, refl, sym, ap, ◌∙◌}
use mathlib.Core.Bool.{Bool, true, false, ◌&&◌}
use mathlib.Core.List.{List, [], ◌++◌}
use Prim.Native.Nat.{ℕ, ◌+◌, ◌*◌, ◌-◌, ◌^◌, ◌<◌, ◌≤◌}
use native.Mathlib.Omega.{arith}
use lib.ListN.{length, get_or, take, drop, replicate, length-append, length-take, length-drop, length-replicate}
use lib.ListN.{drop_of_length-le}
use lib.Seq.{take_all, take_at, drop-cons, take-nil}
use lib.Dec.{leb}
use borrow.Author.Tests.{le-leb, lt-leb, leb-true}
use Rattle.fields.specs.Field.{field}
use Rattle.fields.proofs.Basics.{clash, and_left, and_right}
use Rattle.fields.proofs.Fields.{tail_part}
use Rattle.table.specs.Numbers.{short_buffer, bytes_left_over}
use Rattle.table.specs.Answer.{Answer, accepted, refused, and_then, is_refused}
use Rattle.table.proofs.Answers.{after_both, passed_both, test_passed}
use Rattle.blocks.specs.Block.{demand, judged}
use Rattle.blocks.specs.Run.{blocks_for, content_of}
use Rattle.tablefile.specs.Reading.{dialect_in, edition_in, header_at, content_at, blocks_check}
use Rattle.tablefile.specs.Reading.{front_check, sound_check, read_check}
use Rattle.tablefile.specs.Loading.{verdict}
use Rattle.tablefile.specs.Lending.{file_check, into_check, handed, copied, Holds}
use Rattle.tablefile.specs.declared.Heading.{Heading}
use Rattle.tablefile.proofs.Copies.{copied_is}
use Rattle.tablefile.proofs.Fronts.{first_is, taken_is, Fronted, fronted_then, first_there_lem, taken_there}
use Rattle.tablefile.proofs.Fronts.{table_length_lem, names_length}
use Rattle.tablefile.proofs.Accepted.{read_fronted}

-- the returns of `dialect_bytes`
module _ (bs : List ℕ) where
  pub dialect_away : length bs < 8 → take (0 - 0) bs ≡ (content_at bs).dialect
  unfolding content_at
  dialect_away h = sym (none (header_at bs).dialect)
    where
      none : (n : ℕ) → take n (drop 8 bs) ≡ []
      none n = rw (drop_of_length-le bs {i = 8} (omega arith)) (take_all n [] (omega arith))

  module _ {used len : ℕ} (used-is : used ≡ field 2 bs 2) (len_is : (len ≡ dialect_in used) × (len ≤ 9)) where
    so_many : len ≡ (header_at bs).dialect
    unfolding header_at
    so_many = rw (len_is.0, used-is) refl

    pub dialect_short : length (take (length bs - 8) (drop 8 bs)) < len
        → take (length bs - 8) (drop 8 bs) ≡ (content_at bs).dialect
    unfolding content_at
    dialect_short h = rw (tail_part 8 bs, ← so_many)
        (sym (take_all len (drop 8 bs) (omega (arith, rw (tail_part 8 bs) at h))))

    pub dialect_there : take (len - 0) (take (length bs - 8) (drop 8 bs)) ≡ (content_at bs).dialect
    unfolding content_at
    dialect_there = let e : len - 0 ≡ len = omega arith in rw (tail_part 8 bs, ← so_many, e) refl

-- the returns of `stated_edition`
module _ (bs : List ℕ) where
  pub edition_away : length bs < 18 → None ≡ (content_at bs).edition
  unfolding content_at
  edition_away h = rw (drop_of_length-le bs {i = 17} (omega arith), take-nil {A = ℕ} (header_at bs).edition) refl

  module _ {used n : ℕ} (used-is : used ≡ field 2 bs 2) (n_is : (n ≡ edition_in used) × (n ≤ 1)) where
    so_many_editions : (header_at bs).edition ≡ n
    unfolding header_at
    so_many_editions = rw (n_is.0, used-is) refl

    pub edition_absent : n ≡ 0 → None ≡ (content_at bs).edition
    unfolding content_at
    edition_absent e = rw (so_many_editions, e) refl

    pub edition_there : (n ≡ 0 → ⊥) → 18 ≤ length bs → Some (get_or bs 17 0) ≡ (content_at bs).edition
    unfolding content_at
    edition_there e h =
        let one : (header_at bs).edition ≡ 1 = omega (arith, so_many_editions, n_is.1) in
        rw (one, drop-cons bs 17 0 (omega arith)) refl

-- an answer y that is x, and whether it is a refusal
module _ {x y : Answer} (y-is : y ≡ x) {q : Bool} (q-is : q ≡ is_refused y) where
  handed_kept : q ≡ true → (bs buffer : List ℕ) → buffer ≡ handed x bs buffer
  unfolding handed
  handed_kept h bs buffer = rw (← y-is) (go y (sym q-is ∙ h))
    where
      go : (z : Answer) → is_refused z ≡ true → buffer ≡ handed z bs buffer
      go (accepted us) e = clash e refl
      go (refused n us) e = refl

  good_is : q ≡ false → (us : List ℕ) × (x ≡ accepted us)
  good_is h = rw (← y-is) (go y (sym q-is ∙ h))
    where
      go : (z : Answer) → is_refused z ≡ false → (us : List ℕ) × (z ≡ accepted us)
      go (accepted us) e = (us, refl)
      go (refused n us) e = clash refl e

  -- nothing follows a refusal
  stops : q ≡ true → (next : Unit {0} → Answer) → y ≡ and_then x next
  stops h next = rw (← y-is) (go y (sym q-is ∙ h))
    where
      go : (z : Answer) → is_refused z ≡ true → z ≡ and_then z next
      go (accepted us) e = clash e refl
      go (refused n us) e = refl

-- the returns of `judge_file`: 70 to 75
module _ (bs : List ℕ) {h : Heading} (h-is : h ≡ header_at bs) (j : Result (Unit {0}) ℕ)
    (j-is : judged j ≡ blocks_check h bs) where
  front_is : judged j ≡ front_check bs
  front_is = rw h-is at j-is

  pub file_blocks : {n : ℕ} → j ≡ Err n → refused n [] ≡ file_check bs
  unfolding file_check
  file_blocks e = rw (← front_is, e) refl

  module _ (j-good : j ≡ Ok tt) where
    pub file_left : h.taken < length bs → refused bytes_left_over [] ≡ file_check bs
    unfolding file_check
    file_left k = rw (← front_is, j-good, lt-leb (length bs) (header_at bs).taken (rw h-is at k)) refl

    pub file_passed : length bs ≤ h.taken → accepted [] ≡ file_check bs
    unfolding file_check
    file_passed k = rw (← front_is, j-good, le-leb (length bs) (header_at bs).taken (rw h-is at k)) refl

-- the whole check is 70 to 75, then 1 to 5
pub read_steps : (bs : List ℕ) → read_check bs ≡ and_then (file_check bs) (λ _. sound_check (content_at bs))
unfolding read_check file_check
read_steps bs = sym (after_both (front_check bs)
    (λ _. demand (leb (length bs) (header_at bs).taken) bytes_left_over) (λ _. sound_check (content_at bs)))

-- 7: whether t and n bytes fit into buffers of a and b bytes
abbrev room_for : ℕ → ℕ → ℕ → ℕ → Unit {0} → Answer
room_for t n a b _ = demand (leb t a && leb n b) short_buffer

-- the whole job adds 7
into_steps : (bs : List ℕ) (a b : ℕ) → into_check bs a b ≡ and_then (file_check bs) (λ _.
    and_then (sound_check (content_at bs)) (room_for (24 * (header_at bs).nodes) (header_at bs).names a b))
unfolding into_check
into_steps bs a b =
    let room : Unit {0} → Answer = room_for (24 * (header_at bs).nodes) (header_at bs).names a b in
    ap (λ (x : Answer). and_then x room) (read_steps bs)
    ∙ after_both (file_check bs) (λ _. sound_check (content_at bs)) room

-- if 7 is passed, table and names fit
room_there : (x : Answer) (t a n b : ℕ) {us : List ℕ} → and_then x (room_for t n a b) ≡ accepted us
    → (t ≤ a) × (n ≤ b)
room_there x t a n b e =
    let fits : (leb t a && leb n b) ≡ true = test_passed (leb t a && leb n b) short_buffer
    (passed_both x (room_for t n a b) e).2 in
    (leb-true t a (and_left (leb t a) (leb n b) fits), leb-true n b (and_right (leb t a) (leb n b) fits))

-- the returns of `judge_room`: 7 after an answer
module _ (x : Answer) {q : Bool} (q-is : q ≡ is_refused x) (t a n b : ℕ) where
  pub room_before : q ≡ true → x ≡ and_then x (room_for t n a b)
  room_before h = stops refl q-is h (room_for t n a b)

  module _ (h : q ≡ false) where
    passed : (us : List ℕ) × (x ≡ accepted us)
    passed = good_is {x = x} {y = x} refl q-is h

    pub room_enough : (leb t a && leb n b) ≡ true → accepted [] ≡ and_then x (room_for t n a b)
    room_enough fits = rw (passed.1, fits) refl

    pub room_short : (leb t a && leb n b) ≡ false → refused short_buffer [] ≡ and_then x (room_for t n a b)
    room_short fits = rw (passed.1, fits) refl

-- 70 to 75 carry no values
file_plain : (bs : List ℕ) {us : List ℕ} → file_check bs ≡ accepted us → file_check bs ≡ accepted []
unfolding file_check
file_plain bs e =
    let left : Bool = leb (length bs) (header_at bs).taken in
    let both = passed_both (front_check bs) (λ _. demand left bytes_left_over) e in
    rw (both.1, test_passed left bytes_left_over both.2) refl

pub file_fronted : (bs : List ℕ) → file_check bs ≡ accepted [] → Fronted bs
unfolding file_check
file_fronted bs e =
    (fronted_then bs (λ _. demand (leb (length bs) (header_at bs).taken) bytes_left_over) e).0

-- bytes at the front of a buffer
module _ (bs buffer : List ℕ) {n : ℕ} (long : length bs ≡ n) where
  front_of : take n (bs ++ drop n buffer) ≡ bs
  front_of = take_at bs (drop n buffer) n long

  handed_is : {x : Answer} {us ys : List ℕ} → x ≡ accepted us → ys ≡ bs ++ drop n buffer → ys ≡ handed x bs buffer
  unfolding handed
  handed_is x-is ys-is = ys-is ∙ rw (x-is, long) refl

pub handed_front : (x : Answer) (bs buffer : List ℕ) {n : ℕ} {us ys : List ℕ} → x ≡ accepted us → length bs ≡ n
    → ys ≡ handed x bs buffer → take n ys ≡ bs
unfolding handed
handed_front x bs buffer {n} x-is long ys-is =
    ap (take n) (ys-is ∙ rw (x-is, long) refl) ∙ front_of bs buffer long

handed_long : (x : Answer) (bs buffer : List ℕ) {us ys : List ℕ} → x ≡ accepted us → length bs ≤ length buffer
    → ys ≡ handed x bs buffer → length ys ≡ length buffer
unfolding handed
handed_long x bs buffer {us} {ys} x-is fits ys-is =
    let so : ys ≡ bs ++ drop (length bs) buffer = ys-is ∙ rw x-is refl in
    rw so (simp (length-append, length-drop) (omega arith))

-- a file that passes 70 to 75: the lengths of its parts, and the arrays that `unpack` leaves
module _ (bs : List ℕ) (good : file_check bs ≡ accepted []) {h : Heading} (h-is : h ≡ header_at bs) where
  fronted_so : Fronted bs
  fronted_so = file_fronted bs good

  pub file_few : (24 * h.nodes ≤ 50400) × (h.names ≤ 8064)
  file_few = rw h-is (omega (arith, fronted_so.counts), omega (arith, fronted_so.counts))

  pub table_long : length (content_at bs).table ≡ 24 * h.nodes
  table_long = rw h-is (table_length_lem bs fronted_so)

  ns_long : length (content_at bs).names ≡ h.names
  ns_long = rw h-is (names_length bs fronted_so)

  module _ {w : List ℕ} where
    table_array : w ≡ handed (file_check bs) (content_at bs).table (replicate 50400 0) → length w ≡ 50400
    table_array w-is = handed_long _ _ (replicate 50400 0) good
        (omega (arith, table_long, file_few, length-replicate {A = ℕ} 50400 0)) w-is ∙ length-replicate {A = ℕ} 50400 0

    names_array : w ≡ handed (file_check bs) (content_at bs).names (replicate 8064 0) → length w ≡ 8064
    names_array w-is = handed_long _ _ (replicate 8064 0) good
        (omega (arith, ns_long, file_few, length-replicate {A = ℕ} 8064 0)) w-is ∙ length-replicate {A = ℕ} 8064 0

-- the returns of `unpack`: x is the answer of 70 to 75
module _ (bs : List ℕ) {h : Heading} (h-is : h ≡ header_at bs) {x : Answer} (x-is : x ≡ file_check bs) {q : Bool}
    (q-is : q ≡ is_refused x) where
  pub unpack_kept : q ≡ true → (xs buffer : List ℕ) → buffer ≡ handed (file_check bs) xs buffer
  unpack_kept = handed_kept x-is q-is

  module _ (no : q ≡ false) where
    good : file_check bs ≡ accepted []
    good = file_plain bs (good_is x-is q-is no).1

    its_front : Fronted bs
    its_front = file_fronted bs good

    pub unpack_fits : 24 * h.nodes < 2 ^ 64
    unpack_fits = omega (arith, file_few bs good h-is)

    pub unpack_table : (t : List ℕ) → length t ≡ 50400
        → (512 * (h.first + blocks_for (24 * h.nodes)) ≤ length bs) × (24 * h.nodes ≤ length t)
    unpack_table t long =
        (rw h-is (omega (arith, taken_is bs, taken_there bs its_front)), omega (arith, file_few bs good h-is))

    pub unpack_names : (ns : List ℕ) → length ns ≡ 8064
        → (512 * (1 + blocks_for h.names) ≤ length bs) × (h.names ≤ length ns)
    unpack_names ns long =
        (rw h-is (omega (arith, first_is bs, first_there_lem bs its_front)), omega (arith, file_few bs good h-is))

    pub unpack_table_done : (t : List ℕ) {t' : List ℕ}
        → t' ≡ content_of (24 * h.nodes) (drop (512 * h.first) bs) ++ drop (24 * h.nodes) t
        → t' ≡ handed (file_check bs) (content_at bs).table t
    unfolding content_at
    unpack_table_done t t-is = handed_is _ t (table_long bs good h-is) good (t-is ∙ rw h-is refl)

    pub unpack_names_done : (ns : List ℕ) {ns' : List ℕ}
        → ns' ≡ content_of h.names (drop 512 bs) ++ drop h.names ns
        → ns' ≡ handed (file_check bs) (content_at bs).names ns
    unfolding content_at
    unpack_names_done ns ns-is = handed_is _ ns (ns_long bs good h-is) good (ns-is ∙ rw h-is refl)

-- LAW: if a file passes 70 to 75, two buffers with room for its table and names hold them after `copy_content`
module _ (bs : List ℕ) (good : file_check bs ≡ accepted []) {h : Heading} (h-is : h ≡ header_at bs) (t ns : List ℕ)
    (t-room : 24 * h.nodes ≤ length t) (ns-room : h.names ≤ length ns) {t' ns' : List ℕ}
    (t-is : t' ≡ copied h.first (24 * h.nodes) bs t) (ns-is : ns' ≡ copied 1 h.names bs ns) where
  table_copied : t' ≡ handed (file_check bs) (content_at bs).table t
  unfolding content_at
  table_copied =
      let there : 512 * (h.first + blocks_for (24 * h.nodes)) ≤ length bs =
      rw h-is (omega (arith, taken_is bs, taken_there bs (file_fronted bs good))) in
      handed_is _ t (table_long bs good h-is) good (t-is ∙ copied_is h.first (24 * h.nodes) bs t there t-room
      ∙ rw h-is refl)

  names_copied : ns' ≡ handed (file_check bs) (content_at bs).names ns
  unfolding content_at
  names_copied =
      let there : 512 * (1 + blocks_for h.names) ≤ length bs =
      rw h-is (omega (arith, first_is bs, first_there_lem bs (file_fronted bs good))) in
      handed_is _ ns (ns_long bs good h-is) good (ns-is ∙ copied_is 1 h.names bs ns there ns-room ∙ rw h-is refl)

  pub copied_holds : Holds bs t' ns'
  copied_holds = record {
    passed = good;
    table = handed_front _ _ _ good refl table_copied;
    names = handed_front _ _ _ good refl names_copied;
  }

-- the arrays that `unpack` has filled, for a job that runs on them: v is its answer
module _ (bs : List ℕ) (v : Result (Unit {0}) Refusal) (v-is : verdict v ≡ file_check bs) (v-good : v ≡ Ok tt)
    {h : Heading}
    (h-is : h ≡ header_at bs) where
  pub unpacked_good : file_check bs ≡ accepted []
  unpacked_good = sym v-is ∙ ap verdict v-good

  pub unpacked_few : (24 * h.nodes ≤ 50400) × (h.names ≤ 8064)
  unpacked_few = file_few bs unpacked_good h-is

  pub unpacked_nodes : length (content_at bs).table ≡ 24 * h.nodes
  unpacked_nodes = table_long bs unpacked_good h-is

  module _ {w : List ℕ} where
    pub unpacked_table_long : w ≡ handed (file_check bs) (content_at bs).table (replicate 50400 0) → 50400 ≡ length w
    unpacked_table_long w-is = sym (table_array bs unpacked_good h-is w-is)

    pub unpacked_names_long : w ≡ handed (file_check bs) (content_at bs).names (replicate 8064 0) → 8064 ≡ length w
    unpacked_names_long w-is = sym (names_array bs unpacked_good h-is w-is)

    pub unpacked_table : w ≡ handed (file_check bs) (content_at bs).table (replicate 50400 0)
        → take (24 * h.nodes) w ≡ (content_at bs).table
    unpacked_table = handed_front _ _ _ unpacked_good (table_long bs unpacked_good h-is)

    pub unpacked_names : w ≡ handed (file_check bs) (content_at bs).names (replicate 8064 0)
        → take h.names w ≡ (content_at bs).names
    unpacked_names = handed_front _ _ _ unpacked_good (ns_long bs unpacked_good h-is)

-- the returns of `read_into`: x is the answer of `unpack`, and p whether it is a refusal
module _ (bs : List ℕ) {x : Answer} (x-is : x ≡ file_check bs) {p : Bool} (p-is : p ≡ is_refused x) where
  module _ (e : p ≡ true) (a b : ℕ) where
    pub unread_so : x ≡ into_check bs a b
    unread_so = stops x-is p-is e _ ∙ sym (into_steps bs a b)

    pub unread_kept : (xs buffer : List ℕ) → buffer ≡ handed (into_check bs a b) xs buffer
    unread_kept = handed_kept unread_so p-is e

  module _ (yes : p ≡ false) {wt wn : List ℕ}
      (wt_is : wt ≡ handed (file_check bs) (content_at bs).table (replicate 50400 0))
      (wn-is : wn ≡ handed (file_check bs) (content_at bs).names (replicate 8064 0)) where
    read_good : file_check bs ≡ accepted []
    read_good = file_plain bs (good_is x-is p-is yes).1

    pub read_table_long : 50400 ≡ length wt
    read_table_long = sym (table_array bs read_good refl wt_is)

    pub read_names_long : 8064 ≡ length wn
    read_names_long = sym (names_array bs read_good refl wn-is)

    pub read_holds : Holds bs wt wn
    read_holds = record {
      passed = read_good;
      table = handed_front _ _ _ read_good refl wt_is;
      names = handed_front _ _ _ read_good refl wn-is;
    }

-- the returns of `hand_over`: from the arrays into the caller's buffers
module _ {bs wt wn : List ℕ} (holds : Holds bs wt wn) {h : Heading} (h-is : h ≡ header_at bs) where
  pub into_fits : 24 * h.nodes < 2 ^ 64
  into_fits = omega (arith, file_few bs holds.passed h-is)

  pub its_table : take (24 * h.nodes) wt ≡ (content_at bs).table
  its_table = rw (← table_long bs holds.passed h-is) holds.table

  pub its_names : take h.names wn ≡ (content_at bs).names
  its_names = rw (← ns_long bs holds.passed h-is) holds.names

  pub into_table_within : 24 * h.nodes ≤ length wt
  into_table_within =
      omega (arith, length-take (24 * h.nodes) wt, ap length its_table, table_long bs holds.passed h-is)

  pub into_names_within : h.names ≤ length wn
  into_names_within = omega (arith, length-take h.names wn, ap length its_names, ns_long bs holds.passed h-is)

  -- s is the answer of 1 to 5 on the arrays, j that of 7 after it for buffers of a and b bytes, q whether j is a
  -- refusal
  module _ {d : List ℕ} (d-is : d ≡ (content_at bs).dialect) {edition : Option ℕ}
      (edition-is : edition ≡ (content_at bs).edition) {s : Answer}
      (s-is : s ≡ sound_check (record {
        table = take (24 * h.nodes) wt;
        names = take h.names wn;
        dialect = take (length d) d;
        edition = edition;
      })) (a b : ℕ) {j : Answer}
      (j-is : j ≡ and_then s (room_for (24 * h.nodes) h.names a b)) where
    sound_so : s ≡ sound_check (content_at bs)
    sound_so =
        let dialect : take (length d) d ≡ (content_at bs).dialect = take_all (length d) d (omega arith) ∙ d-is in
        rw (its_table, its_names, dialect, edition-is) at s-is

    pub into_so : j ≡ into_check bs a b
    into_so = j-is ∙ rw (sound_so, h-is) (sym (into_steps bs a b ∙ rw holds.passed refl))

    module _ {q : Bool} (q-is : q ≡ is_refused j) where
      pub into_kept : q ≡ true → (xs buffer : List ℕ) → buffer ≡ handed (into_check bs a b) xs buffer
      into_kept = handed_kept into_so q-is

      module _ (no : q ≡ false) where
        room : (24 * h.nodes ≤ a) × (h.names ≤ b)
        room = room_there s _ _ _ _ (sym j-is ∙ (good_is refl q-is no).1)

        pub into_table_room : 24 * h.nodes ≤ a
        into_table_room = room.0

        pub into_names_room : h.names ≤ b
        into_names_room = room.1

        good_so : (us : List ℕ) × (into_check bs a b ≡ accepted us)
        good_so = good_is into_so q-is no

        pub into_table_done : (t : List ℕ) {t' : List ℕ}
            → t' ≡ take (24 * h.nodes) wt ++ drop (24 * h.nodes) t
            → t' ≡ handed (into_check bs a b) (content_at bs).table t
        into_table_done t t-is =
            handed_is _ t (table_long bs holds.passed h-is) good_so.1 (t-is ∙ rw its_table refl)

        pub into_names_done : (ns : List ℕ) {ns' : List ℕ} → ns' ≡ take h.names wn ++ drop h.names ns
            → ns' ≡ handed (into_check bs a b) (content_at bs).names ns
        into_names_done ns ns-is =
            handed_is _ ns (ns_long bs holds.passed h-is) good_so.1 (ns-is ∙ rw its_names refl)

-- LAW: of a file that the reader accepts, table and names are written exactly if both fit
module _ (bs : List ℕ) (passed : read_check bs ≡ accepted []) (a b : ℕ) where
  pub into_passed : length (content_at bs).table ≤ a → length (content_at bs).names ≤ b
      → into_check bs a b ≡ accepted []
  unfolding into_check
  into_passed h k =
      let f = read_fronted bs passed in
      let t : 24 * (header_at bs).nodes ≤ a = omega (arith, table_length_lem bs f, h) in
      let n : (header_at bs).names ≤ b = omega (arith, names_length bs f, k) in
      rw (passed, le-leb (24 * (header_at bs).nodes) a t, le-leb (header_at bs).names b n) refl

-- LAW: table and names are written only from a file whose blocks pass
pub into_fronted : (bs : List ℕ) (a b : ℕ) → into_check bs a b ≡ accepted [] → Fronted bs
unfolding into_check read_check
into_fronted bs a b e =
    let rest : Unit {0} → Answer = λ _. and_then (demand (leb (length bs) (header_at bs).taken) bytes_left_over)
    (λ _. sound_check (content_at bs)) in
    let room : Unit {0} → Answer = room_for (24 * (header_at bs).nodes) (header_at bs).names a b in
    (fronted_then bs (λ _. and_then (rest tt) room) (sym (after_both (front_check bs) rest room) ∙ e)).0
