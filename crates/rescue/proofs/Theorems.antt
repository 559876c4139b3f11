-- The claims of specs/Claims.antt, proved for every input. An accepted answer implies that the header is good, that
-- something is kept, and that it fits (`says`); a refusal names the first of these tests that failed. What is kept is
-- one definition, so each claim is a law about `kept bs`: that it is the largest follows from Largest, that it is
-- read back and given back unchanged from Keeping and the laws of files. Assumes nothing.
use Rattle.std.specs.Prelude.{Err, Ok, Result}
use Rattle.table.specs.declared.Refusal.{Refusal}
use mathlib.Core.Path.{◌≡◌, refl, sym, ap, ◌∙◌}
use mathlib.Core.Bool.{Bool, true, false}
use mathlib.Core.Logic.{⊎_elim}
use mathlib.Core.List.{List, [], ◌∷◌, ◌++◌}
use Prim.Native.Nat.{ℕ, ◌-◌, ◌/◌, ◌<◌, ◌≤◌}
use native.Mathlib.Omega.{arith}
use lib.ListN.{length, get_or, take, drop, length-take}
use lib.Seq.{take_at, drop_at}
use lib.Dec.{leb}
use borrow.Author.Tests.{leb-true, leb-false, le-leb, lt-leb, eq-eqb}
use Rattle.fields.proofs.Basics.{never, clash, le_or_lt}
use Rattle.fields.proofs.Over.{over_front}
use Rattle.fields.proofs.Spelling.{Bytes}
use Rattle.forest.specs.Forest.{node_of, Forest, roots}
use Rattle.forest.proofs.Prefix.{firsts_roots}
use Rattle.soundness.specs.KindNumbers.{kind_statements}
use Rattle.table.specs.Numbers.{short_buffer, bad_header, nothing_kept, bytes_left_over}
use Rattle.table.specs.Answer.{Answer, accepted, refused, passes, and_then, refusal}
use Rattle.table.specs.declared.Refusal.TheVariants.{Bare}
use Rattle.table.proofs.Answers.{passed_both, never_passed}
use Rattle.table.proofs.Checking.{accepted_clean}
use Rattle.blocks.specs.Block.{demand, judge}
use Rattle.blocks.proofs.Blocks.{passes as passed_block}
use Rattle.tablefile.specs.File.{Content, file_of}
use Rattle.tablefile.specs.Reading.{header_at, used_of, content_at, front_check, sound_check, read_check}
use Rattle.tablefile.specs.Loading.{loaded_of}
use Rattle.tablefile.proofs.Fronts.{Fronted, small_fits, first_is, taken_is, dialect_few, table_length_lem}
use Rattle.tablefile.proofs.Accepted.{read_fronted, read_whole, read_is_sound, sound_known, SoundContent}
use Rattle.tablefile.proofs.Accepted.{back_accepted, back_holds}
use Rattle.tablefile.proofs.Theorems.{Read, file_read_back}
use Rattle.writer.specs.Writing.{bytes_for}
use Rattle.writer.proofs.Building.{length_file}
use Rattle.rescue.specs.declared.Kept.{Kept}
use Rattle.rescue.specs.Good.{head_good, blocks_pass, good_table}
use Rattle.rescue.specs.Cut.{children, cut_to, children_kept}
use Rattle.rescue.specs.Job.{table_kept, kept, statements_of, told_of, rescue_of, file_after, told, rescued}
use Rattle.rescue.specs.Claims.{Rescue, Passes, Largest, LargestNumber, BadHeader, Nothing, NothingKept}
use Rattle.rescue.specs.Claims.{ReadBack, GivenBack, Again, OnlySize, Counted, Counts, PastStays}
use Rattle.rescue.proofs.Promises.{rescued_injective}
use Rattle.rescue.proofs.Cuts.{cut_length, cut_children, cut_kind, cut_byte}
use Rattle.rescue.proofs.Largest.{keeps, none_larger}
use Rattle.rescue.proofs.Keeping.{names_long, whole_checked, whole_kept, whole_fronted, whole_file, cut_some}
use Rattle.rescue.proofs.Keeping.{cut_kept, good_root, kept_content, kept_read, kept_held}

-- the answer, from its three tests
abbrev pub steps : Bool → Bool → Bool → List ℕ → Answer
steps a b c vs = and_then (demand a bad_header) (λ _. and_then (demand b nothing_kept) (λ _.
    and_then (demand c short_buffer) (λ _. accepted vs)))

module _ (bs : List ℕ) (room : ℕ) where
  abbrev pub size : ℕ
  size = bytes_for (length (table_kept bs)) (header_at bs).names

  pub rescue_is : rescue_of bs room
      ≡ steps (head_good bs) (leb 1 (length (table_kept bs))) (leb size room) (told_of bs (table_kept bs))
  unfolding rescue_of
  rescue_is = refl

  -- what an accepted rescue implies
  pub record Says (vs : List ℕ) : Type 0 where
    pub head : head_good bs ≡ true
    pub some : 1 ≤ length (table_kept bs)
    pub fits : size ≤ room
    pub told : vs ≡ told_of bs (table_kept bs)

  pub says : {vs : List ℕ} → rescue_of bs room ≡ accepted vs → Says vs
  says {vs} e = go (head_good bs) (leb 1 (length (table_kept bs))) (leb size room) refl refl refl (sym rescue_is ∙ e)
    where
      go : (a b c : Bool) → head_good bs ≡ a → leb 1 (length (table_kept bs)) ≡ b → leb size room ≡ c
          → steps a b c (told_of bs (table_kept bs)) ≡ accepted vs → Says vs
      go true true true a-is b_is c-is e = record {
        head = a-is;
        some = leb-true 1 (length (table_kept bs)) b_is;
        fits = leb-true size room c-is;
        told = cc;
      }
      go true true false a-is b_is c-is e = never_passed e
      go true false c a-is b_is c-is e = never_passed e
      go false b c a-is b_is c-is e = never_passed e

  pub said : head_good bs ≡ true → 1 ≤ length (table_kept bs) → size ≤ room
      → rescue_of bs room ≡ accepted (told_of bs (table_kept bs))
  said head some fits = rescue_is
      ∙ rw (head, le-leb 1 (length (table_kept bs)) some, le-leb size room fits) refl

  -- 7, 90 and 91
  pub short_room : head_good bs ≡ true → 1 ≤ length (table_kept bs) → room < size
      → rescue_of bs room ≡ refused short_buffer []
  short_room head some less = rescue_is
      ∙ rw (head, le-leb 1 (length (table_kept bs)) some, lt-leb size room less) refl

  pub bad_head : head_good bs ≡ false → rescue_of bs room ≡ refused bad_header []
  bad_head e = rescue_is ∙ rw e refl

  head_bad : rescue_of bs room ≡ refused bad_header [] → head_good bs ≡ false
  head_bad e = go (head_good bs) (leb 1 (length (table_kept bs))) (leb size room) (sym rescue_is ∙ e)
    where
      go : (a b c : Bool) → steps a b c (told_of bs (table_kept bs)) ≡ refused bad_header [] → a ≡ false
      go true true true e = never (cc)
      go true true false e = let n : short_buffer ≡ bad_header = cc in absurd (omega arith)
      go true false c e = let n : nothing_kept ≡ bad_header = cc in absurd (omega arith)
      go false b c e = refl

  pub kept_nothing : head_good bs ≡ true → length (table_kept bs) < 1 → rescue_of bs room ≡ refused nothing_kept []
  kept_nothing head none = rescue_is ∙ rw (head, lt-leb 1 (length (table_kept bs)) none) refl

  nothing_kept_lem : rescue_of bs room ≡ refused nothing_kept [] → (head_good bs ≡ true) × (length (table_kept bs) < 1)
  nothing_kept_lem e = go (head_good bs) (leb 1 (length (table_kept bs))) (leb size room) refl refl (sym rescue_is ∙ e)
    where
      go : (a b c : Bool) → head_good bs ≡ a → leb 1 (length (table_kept bs)) ≡ b
          → steps a b c (told_of bs (table_kept bs)) ≡ refused nothing_kept []
          → (head_good bs ≡ true) × (length (table_kept bs) < 1)
      go true true true a-is b_is e = never (cc)
      go true true false a-is b_is e = let n : short_buffer ≡ nothing_kept = cc in absurd (omega arith)
      go true false c a-is b_is e = (a-is, leb-false 1 (length (table_kept bs)) b_is)
      go false b c a-is b_is e = let n : bad_header ≡ nothing_kept = cc in absurd (omega arith)

-- CLAIM 2
pub bad_header_lem : BadHeader
bad_header_lem bs buffer r after p = (
  λ e. rescued_injective r (Err (Bare bad_header)) (p.0 ∙ bad_head bs (length buffer) e),
  λ e. head_bad bs (length buffer) (sym p.0 ∙ ap rescued e),
)

-- if a cut passes, it or a larger one is kept
module _ (bs : List ℕ) (w : blocks_pass bs ≡ false) where
  abbrev t : List ℕ
  t = good_table bs

  abbrev names : List ℕ
  names = (content_at bs).names

  at_least : (j : ℕ) → Passes bs j → j ≤ children_kept t names
  at_least j (kind, there, passed) = ⊎_elim (λ (h : j ≤ children_kept t names). h)
      (λ (h : children_kept t names < j). clash (ap passes passed) (none_larger t names j kind h there))
      (le_or_lt j (children_kept t names))

  some_kept : 1 ≤ children_kept t names → 1 ≤ length (table_kept bs)
  some_kept some =
      let kind = (keeps t names some).kind in
      let long = cut_length (children_kept t names) (good_root bs kind) in
      let is : table_kept bs ≡ cut_to (children_kept t names) t =
      rw (cut_kept bs w, le-leb 1 (children_kept t names) some) refl in
      omega (arith, ap length is)

  none_kept : children_kept t names < 1 → length (table_kept bs) < 1
  none_kept none =
      let is : table_kept bs ≡ [] = rw (cut_kept bs w, lt-leb 1 (children_kept t names) none) refl in
      omega (arith, ap length is)

-- CLAIM 3
nothing : (bs : List ℕ) → head_good bs ≡ true → length (table_kept bs) < 1 → Nothing bs
nothing bs head empty = go (blocks_pass bs) refl
  where
    go : (b : Bool) → blocks_pass bs ≡ b → Nothing bs
    go true w =
        let long = (accepted_clean (content_at bs).table (content_at bs).names (whole_checked bs w)).least in
        absurd (omega (arith, ap (λ (c : Content). length c.table) (whole_kept bs w)))
    go false w = record {
      head = head;
      blocks = w;
      none = λ j some p. omega (arith, at_least bs w j p, some_kept bs w (omega (arith, at_least bs w j p)));
    }

none_passes : (bs : List ℕ) → Nothing bs → length (table_kept bs) < 1
none_passes bs n =
    none_kept bs n.blocks (⊎_elim
    (λ (h : 1 ≤ children_kept (good_table bs) (content_at bs).names).
    let k = keeps (good_table bs) (content_at bs).names h in
    absurd (n.none (children_kept (good_table bs) (content_at bs).names) h (k.kind, k.there, k.passed)))
    (λ (h : children_kept (good_table bs) (content_at bs).names < 1). h)
    (le_or_lt 1 (children_kept (good_table bs) (content_at bs).names)))

pub nothing_can_be_kept : NothingKept
nothing_can_be_kept bs buffer r after p = (
  λ n. rescued_injective r (Err (Bare nothing_kept))
      (p.0 ∙ kept_nothing bs (length buffer) n.head (none_passes bs n)),
  λ e. let is = nothing_kept_lem bs (length buffer) (sym p.0 ∙ ap rescued e) in nothing bs is.0 is.1,
)

-- CLAIM 1: the statements of the cut to k children are k
module _ (bs : List ℕ) (w : blocks_pass bs ≡ false) (some : 1 ≤ length (table_kept bs)) where
  abbrev own : ℕ
  own = children_kept (good_table bs) (content_at bs).names

  pub own_statements : statements_of (table_kept bs) ≡ own
  unfolding statements_of
  own_statements =
      let cut = cut_some bs w some in
      let k = keeps (good_table bs) (content_at bs).names cut.0 in
      let root = good_root bs k.kind in
      let kind : (node_of 0 (cut_to own (good_table bs))).kind ≡ kind_statements = cut_kind own root ∙ k.kind in
      rw (cut.1, eq-eqb (node_of 0 (cut_to own (good_table bs))).kind kind_statements kind)
      (ap (λ (f : Forest). length (roots f)) (cut_children own root)
      ∙ firsts_roots own (children (good_table bs)) k.there)

  largest : (k : Kept) → k.statements ≡ statements_of (table_kept bs) → Largest bs k
  largest k is =
      let cut = cut_some bs w some in
      let keep = keeps (good_table bs) (content_at bs).names cut.0 in
      let s : k.statements ≡ own = is ∙ own_statements in
      record {
        some = omega (arith, cut.0);
        passed = rw s (keep.kind, keep.there, keep.passed);
        cut = rw s cut.1;
        none = λ j less p. omega (arith, at_least bs w j p);
      }

-- an accepted rescue: its answer, and the buffer at exit
pub record Done (bs buffer : List ℕ) (k : Kept) (after : List ℕ) : Type 0 where
  pub answer : rescue_of bs (length buffer) ≡ accepted (told k)
  pub exit : after ≡ file_after bs buffer

pub done : {bs buffer : List ℕ} {r : Result Kept Refusal} {after : List ℕ} → Rescue bs buffer r after → {k : Kept}
    → r ≡ Ok k
    → Done bs buffer k after
done p good = record { answer = sym p.0 ∙ ap rescued good; exit = p.1 }

module _ {bs buffer : List ℕ} {k : Kept} {after : List ℕ} (d : Done bs buffer k after) where
  pub all_says : Says bs (length buffer) (told k)
  all_says = says bs (length buffer) d.answer

  pub all_counted : Counted bs k
  all_counted =
      let at : (i : ℕ) → get_or (told k) i 0 ≡ get_or (told_of bs (table_kept bs)) i 0 =
      λ i. ap (λ (vs : List ℕ). get_or vs i 0) all_says.told in
      record {
        statements = at 1;
        nodes = at 2;
        dropped = at 3 ∙ ap (λ (n : ℕ). (header_at bs).nodes - n) (sym (at 2));
        after = at 4;
      }

  nine : length (content_at bs).dialect ≤ 9
  unfolding content_at
  nine = simp length-take (omega (arith, dialect_few bs))

  pub bytes_told : k.bytes ≡ length (file_of (kept bs))
  bytes_told = ap (λ (vs : List ℕ). get_or vs 0 0) all_says.told
      ∙ sym (length_file (kept bs) nine
      ∙ rw (names_long bs all_says.head) refl)

  rescued_is : after ≡ file_of (kept bs) ++ drop k.bytes buffer
  unfolding file_after
  rescued_is = d.exit ∙ rw (d.answer, bytes_told) (over_front (file_of (kept bs)) buffer)

  pub front_is : take k.bytes after ≡ file_of (kept bs)
  front_is = ap (take k.bytes) rescued_is
      ∙ take_at (file_of (kept bs)) (drop k.bytes buffer) k.bytes (sym bytes_told)

  pub past_is : drop k.bytes after ≡ drop k.bytes buffer
  past_is = ap (drop k.bytes) rescued_is
      ∙ drop_at (file_of (kept bs)) (drop k.bytes buffer) k.bytes (sym bytes_told)

pub counts : Counts
counts bs buffer r after p k good = all_counted (done p good)

pub largest_number : LargestNumber
largest_number bs buffer r after p k good w =
    let d = done p good in largest bs w (all_says d).some k (all_counted d).statements

pub past_stays : PastStays
unfolding file_after
past_stays bs buffer r after p = (
  λ k good. past_is (done p good),
  λ why e. let is : rescue_of bs (length buffer) ≡ refusal why = sym p.0 ∙ ap rescued e in p.1 ∙ rw is refl,
)

-- CLAIM 4
pub read_back : ReadBack
read_back bs buffer r after p k good small s read =
    let d = done p good in
    let read' : Read (file_of (kept bs)) s = rw (front_is d) at read in
    file_read_back (kept bs) s (kept_content bs (all_says d).head (all_says d).some small) read'
    ∙ ap (loaded_of (Ok tt) (kept bs)) (sym (bytes_told d))

-- CLAIM 5
pub given_back : GivenBack
given_back bs buffer r after p k good small w =
    let d = done p good in
    record {
      blocks = front_is d ∙ whole_file bs w small;
      nothing = omega (
        arith,
        (all_counted d).dropped,
        (all_counted d).nodes,
        ap (λ (c : Content). length c.table) (whole_kept bs w),
        table_length_lem bs (whole_fronted bs w),
      );
    }

-- CLAIM 7
pub only_size : OnlySize
only_size bs w i inside low high =
    let cut = cut_some bs w (omega arith) in
    let own : ℕ = children_kept (good_table bs) (content_at bs).names in
    let root = good_root bs (keeps (good_table bs) (content_at bs).names cut.0).kind in
    let long = cut_length own root in
    rw cut.1 (cut_byte own root i (omega (arith, ap length cut.1)) low high)

-- a file that the reader accepts has a good header, and its blocks pass
module _ (file : List ℕ) (e : read_check file ≡ accepted []) where
  fronted : Fronted file
  fronted = read_fronted file e

  pub read_passes : blocks_pass file ≡ true
  unfolding blocks_pass read_check
  read_passes =
      let both = passed_both (front_check file) (λ _. and_then (demand (leb (length file) (header_at file).taken)
      bytes_left_over) (λ _. sound_check (content_at file))) e in
      rw (both.1, read_is_sound file e) refl

  pub read_head : head_good file ≡ true
  unfolding head_good
  read_head =
      let known = sound_known (content_at file) (read_is_sound file e) in
      rw (
        passed_block 0 (used_of (header_at file)) file fronted.header,
        small_fits fronted.counts,
        known.decoded,
        known.held,
        fronted.names,
      ) refl

  pub read_kept : table_kept file ≡ (content_at file).table
  read_kept = ap (λ (c : Content). c.table) (whole_kept file read_passes)

  pub read_bytes : bytes_for (length (table_kept file)) (header_at file).names ≡ length file
  read_bytes = rw (read_kept, table_length_lem file fronted)
      (omega (arith, read_whole file e, taken_is file, first_is file))

  pub read_told : told_of file (table_kept file)
      ≡ length file ∷ statements_of (content_at file).table ∷ length (content_at file).table / 24 ∷ 0 ∷ 0 ∷ []
  read_told =
      let dropped : (header_at file).nodes - length (content_at file).table / 24 ≡ 0 = omega
      (arith, table_length_lem file fronted) in
      let after : length file - (header_at file).taken ≡ 0 = omega (arith, read_whole file e) in
      rw (read_bytes, read_kept, dropped, after) refl

  pub read_rescued : (room : ℕ) → length file ≤ room → rescue_of file room
      ≡ accepted (length file ∷ statements_of (content_at file).table ∷ length (content_at file).table / 24 ∷ 0 ∷ 0
      ∷ [])
  read_rescued room fits =
      said file room read_head
      (omega (arith, ap length read_kept, table_length_lem file fronted, fronted.counts.some))
      (omega (arith, read_bytes))
      ∙ ap accepted read_told

-- CLAIM 6: the output is a file that the reader accepts, of the table that is kept
module _ {bs buffer : List ℕ} {k : Kept} {after : List ℕ} (d : Done bs buffer k after) (small : Bytes bs) where
  abbrev file : List ℕ
  file = file_of (kept bs)

  abbrev same : Kept
  same = record { bytes = k.bytes; statements = k.statements; nodes = k.nodes; dropped = 0; after = 0 }

  file_read : read_check file ≡ accepted []
  file_read = kept_read bs (all_says d).head (all_says d).some small

  file_held : content_at file ≡ kept bs
  file_held = kept_held bs (all_says d).head (all_says d).some small

  answer_again : (room : ℕ) → k.bytes ≤ room → rescue_of file room ≡ rescued (Ok same)
  answer_again room fits =
      let held : (content_at file).table ≡ table_kept bs = ap (λ (c : Content). c.table) file_held in
      read_rescued file file_read room (omega (arith, bytes_told d))
      ∙ rw (held, bytes_told d, (all_counted d).statements, (all_counted d).nodes) refl

pub again : Again
again bs buffer r after p k good small buffer' r' later p' room =
    let d = done p good in
    let q : Rescue (file_of (kept bs)) buffer' r' later = rw (front_is d) at p' in
    let is : r' ≡ Ok (same d small) = rescued_injective r' (Ok (same d small))
    (q.0 ∙ answer_again d small (length buffer') room) in
    let whole = whole_kept _ (read_passes _ (file_read d small)) in
    (is, front_is (done q is) ∙ ap file_of (whole ∙ file_held d small) ∙ sym (front_is d))

-- the claims are not empty: no bytes at all are 90, and the file of any sound content is accepted
pub empty_is_90 : (room : ℕ) → rescue_of [] room ≡ refused bad_header []
unfolding head_good judge
empty_is_90 room = bad_head [] room refl

pub sound_is_accepted : (c : Content) → SoundContent c → (buffer : List ℕ) → length (file_of c) ≤ length buffer
    → Rescue (file_of c) buffer (Ok record {
      bytes = length (file_of c);
      statements = statements_of c.table;
      nodes = length c.table / 24;
      dropped = 0;
      after = 0;
    }) (file_after (file_of c) buffer)
sound_is_accepted c s buffer fits =
    let held : (content_at (file_of c)).table ≡ c.table = ap (λ (d : Content). d.table) (back_holds c s) in
    (sym (read_rescued (file_of c) (back_accepted c s) (length buffer) fits ∙ rw held refl), refl)
