-- Laws of `read`, which returns the content by value. Blocks that pass contain the whole content (`load_table`,
-- `load_names`, `load_dialect`), so `load` returns arrays with that content and zeros after it (`load_is`), and
-- cutting them at their lengths gives the content back (`held_is`). The returns of `read` follow the order of
-- `read_check`: refused by a block (`read_front`), by bytes left over (`read_left`), by 1 to 5 (`read_unsound`), or
-- accepted (`read_sound`); `meets_refused` and `meets_accepted` turn each into both promises. No induction. Assumes
-- nothing.
use Rattle.std.specs.Prelude.{Err, Ok, Option, Result, ℕ}
use mathlib.Core.Path.{◌≡◌, refl, sym, ap, ◌∙◌}
use mathlib.Core.List.{List, []}
use Prim.Native.Nat.{ℕ, ◌+◌, ◌*◌, ◌-◌, ◌^◌, ◌<◌, ◌≤◌}
use native.Mathlib.Omega.{arith}
use lib.ListN.{length, take, drop, replicate, length-append}
use lib.Seq.{take-append_seam}
use borrow.Author.Tests.{le-leb, lt-leb}
use Rattle.table.specs.Numbers.{bytes_left_over}
use Rattle.table.specs.Answer.{Answer, accepted, refused, refusal}
use Rattle.table.specs.declared.Refusal.{Refusal}
use Rattle.blocks.specs.Block.{judged}
use Rattle.blocks.specs.Run.{blocks_for, content_of}
use Rattle.tablefile.specs.File.{Content}
use Rattle.tablefile.specs.Reading.{header_at, content_at, blocks_check, front_check, sound_check, read_check}
use Rattle.tablefile.specs.declared.Heading.{Heading}
use Rattle.tablefile.specs.Loading.{verdict, laid, loaded_of, none, held}
use Rattle.tablefile.specs.declared.Loaded.{Loaded}
use Rattle.tablefile.proofs.Fronts.{first_is, taken_is, dialect_few, Fronted, fronted, first_there_lem}
use Rattle.tablefile.proofs.Fronts.{taken_there, table_length_lem, names_length, dialect_length}

-- what `load` returns if the blocks pass
module _ (bs : List ℕ) {h : Heading} (h-is : h ≡ header_at bs) (passed : front_check bs ≡ accepted []) where
  f : Fronted bs
  f = fronted bs passed

  pub load_table : (512 * (h.first + blocks_for (24 * h.nodes)) ≤ length bs) × (24 * h.nodes ≤ 50400)
  load_table = rw h-is (omega (arith, taken_is bs, taken_there bs f), omega (arith, f.counts))

  pub load_fits : 24 * h.nodes < 2 ^ 64
  load_fits = omega (arith, load_table)

  pub load_names : (512 * (1 + blocks_for h.names) ≤ length bs) × (h.names ≤ 8064)
  load_names = rw h-is (omega (arith, first_is bs, first_there_lem bs f), omega (arith, f.counts))

  pub load_dialect : (512 ≤ length bs) × (h.dialect ≤ 9)
  load_dialect = (f.header.long, rw h-is (dialect_few bs))

  pub load_is : {ts ns ds : List ℕ} {edition : Option ℕ}
      → ts ≡ laid 50400 (content_of (24 * h.nodes) (drop (512 * h.first) bs))
      → ns ≡ laid 8064 (content_of h.names (drop 512 bs)) → ds ≡ laid 9 (take h.dialect (drop 8 bs))
      → edition ≡ (content_at bs).edition
      → ◌≡◌ {A = Loaded}
      (record {
        verdict = (Ok tt);
        taken = h.taken;
        table = ts;
        table_len = 24 * h.nodes;
        names = ns;
        names_len = h.names;
        dialect = ds;
        dialect_len = h.dialect;
        edition = edition;
      })
      (loaded_of (Ok tt) (content_at bs) (header_at bs).taken)
  unfolding loaded_of content_at
  load_is ts-is ns-is ds-is edition-is =
      rw (ts-is, ns-is, ds-is, edition-is, h-is, table_length_lem bs f, names_length bs f, dialect_length bs f) refl

-- the content in an answer
module _ (c : Content) (taken : ℕ) where
  pub held_is : held (loaded_of (Ok tt) c taken) ≡ c
  unfolding held loaded_of laid
  held_is = rw (
    take-append_seam c.table (replicate (50400 - length c.table) 0),
    take-append_seam c.names (replicate (8064 - length c.names) 0),
    take-append_seam c.dialect (replicate (9 - length c.dialect) 0),
  ) refl

  pub within_arrays : {l : Loaded} → l ≡ loaded_of (Ok tt) c taken
      → (l.table_len ≤ length l.table) × (l.names_len ≤ length l.names)
      × (l.dialect_len ≤ length l.dialect)
  unfolding loaded_of laid
  within_arrays l-is =
      rw l-is (
        omega (arith, length-append c.table (replicate (50400 - length c.table) 0)),
        omega (arith, length-append c.names (replicate (8064 - length c.names) 0)),
        omega (arith, length-append c.dialect (replicate (9 - length c.dialect) 0)),
      )

-- an answer meets both promises: its verdict has the given meaning, and the rest is that of the verdict
module _ (x : Answer) (c : Content) (taken : ℕ) {r : Loaded} where
  pub meets_refused : (why : Refusal) → r ≡ loaded_of (Err why) none 0 → refusal why ≡ x
      → (verdict r.verdict ≡ x) × (r ≡ loaded_of r.verdict c taken)
  unfolding loaded_of
  meets_refused why r-is x-is = rw r-is (x-is, refl)

  pub meets_accepted : r ≡ loaded_of (Ok tt) c taken → accepted [] ≡ x
      → (verdict r.verdict ≡ x) × (r ≡ loaded_of r.verdict c taken)
  unfolding loaded_of
  meets_accepted r-is x-is = rw r-is (x-is, refl)

-- the returns of `read`, in order
module _ (bs : List ℕ) {h : Heading} (h-is : h ≡ header_at bs) (j : Result (Unit {0}) ℕ)
    (j-is : judged j ≡ blocks_check h bs) where
  judged_is : judged j ≡ front_check bs
  judged_is = rw h-is at j-is

  pub read_front : {n : ℕ} → j ≡ Err n → refused n [] ≡ read_check bs
  unfolding read_check
  read_front e = rw (← judged_is, e) refl

  pub front_passed : j ≡ Ok tt → front_check bs ≡ accepted []
  front_passed j-good = sym judged_is ∙ ap judged j-good

  module _ (j-good : j ≡ Ok tt) {l : Loaded} (l-is : l ≡ loaded_of (Ok tt) (content_at bs) (header_at bs).taken) where
    front_good : front_check bs ≡ accepted []
    front_good = front_passed j-good

    length_is : l.taken ≡ (header_at bs).taken
    unfolding loaded_of
    length_is = rw l-is refl

    pub read_left : l.taken < length bs → refused bytes_left_over [] ≡ read_check bs
    unfolding read_check
    read_left h = rw (front_good, lt-leb (length bs) (header_at bs).taken (rw length_is at h)) refl

    module _ (whole : length bs ≤ l.taken) (s : Result (Unit {0}) Refusal)
        (s-is : verdict s ≡ sound_check (record {
          table = take l.table_len l.table;
          names = take l.names_len l.names;
          dialect = take l.dialect_len l.dialect;
          edition = l.edition;
        })) where
      sound_is : sound_check (content_at bs) ≡ verdict s
      unfolding held
      sound_is = ap sound_check (sym (held_is (content_at bs) (header_at bs).taken) ∙ ap held (sym l-is)) ∙ sym s-is

      read_so : read_check bs ≡ verdict s
      unfolding read_check
      read_so = rw (front_good, le-leb (length bs) (header_at bs).taken (rw length_is at whole)) sound_is

      pub read_unsound : {why : Refusal} → s ≡ Err why → refusal why ≡ read_check bs
      read_unsound e = sym (read_so ∙ ap verdict e)

      pub read_sound : s ≡ Ok tt → accepted [] ≡ read_check bs
      read_sound e = sym (read_so ∙ ap verdict e)
