-- A check counts all its errors and stores the first that fit whole; the next check gets only the words that are still
-- free. This file shows that checks in a row store what one check of all their errors would store (`stores_both`; for a
-- loop `turns_start`, `turns_on`, `turns_end`). The reason is `stored_append`: after the errors es the next error
-- begins at the first free word, or at the end of the list. Its induction is on es: an error either fits and takes its
-- words, or the list is full and nothing more is stored. The laws are stated once for the four forms of a list
-- (`Listing`), over the number of words of an error and the errors that a form keeps. Cite `stores_both`, `stores_few`
-- (a check counts no more than it finds) and `stored_all` (a list with room for all). Assumes nothing.
use mathlib.Core.Path.{◌≡◌, refl, sym, ap, ◌∙◌}
use mathlib.Core.Bool.{Bool, true, false}
use mathlib.Core.List.{List, [], ◌∷◌, ◌++◌, append-nil, append_assoc}
use Prim.Native.Nat.{ℕ, suc, ◌+◌, ◌*◌, ◌-◌, ◌<◌, ◌≤◌, min}
use native.Mathlib.Omega.{arith}
use lib.ListN.{length, take, drop, length-drop, length-append, drop_of_length-le}
use lib.Seq.{sets, sets-eq, drop-drop, take-length, drop-length, take-append-add, drop-append-add}
use borrow.Author.Tests.{le-leb, lt-leb}
use borrow.Rule.Slice.PartMut.{put_mid}
use mathlib.Core.Logic.{◌⊎◌, inl, inr}
use Rattle.fields.specs.Choice.{if'}
use Rattle.fields.proofs.Basics.{le_or_lt}
use Rattle.fields.proofs.Fields.{tail_part}
use Rattle.errors.specs.Errors.{only, unless_in, is_list_error, without_lists, kept, width, words_of, stored, Stores}
use Rattle.errors.specs.declared.Finding.{Finding}
use Rattle.errors.specs.declared.Listing.{Listing}
use Rattle.errors.specs.declared.Listing.TheVariants.{Module, Own, Audit, Numbers}

-- LAW: before the first error every word is free
pub free_all : (l : Listing) (len : ℕ) {count : ℕ} → count ≡ 0 → 0 ≡ min (width l * count) len
free_all l len h = rw h (omega arith)

-- LAW: of two lists of errors, a form keeps what it keeps of each; it never keeps more errors than there are
without_append : (es fs : List Finding) → without_lists (es ++ fs) ≡ without_lists es ++ without_lists fs
unfolding without_lists
without_append [] fs = refl
without_append (e ∷ es) fs = go (is_list_error e.number) (without_append es fs)
  where
    go : (b : Bool) → without_lists (es ++ fs) ≡ without_lists es ++ without_lists fs
        → if' b (λ _. without_lists (es ++ fs)) (λ _. e ∷ without_lists (es ++ fs))
        ≡ if' b (λ _. without_lists es) (λ _. e ∷ without_lists es) ++ without_lists fs
    go true h = h
    go false h = ap (λ (xs : List Finding). e ∷ xs) h

without_few : (es : List Finding) → length (without_lists es) ≤ length es
unfolding without_lists
without_few [] = omega arith
without_few (e ∷ es) = go (is_list_error e.number) (without_few es)
  where
    go : (b : Bool) → length (without_lists es) ≤ length es
        → length (if' b (λ _. without_lists es) (λ _. e ∷ without_lists es)) ≤ suc (length es)
    go true h = omega (arith, h)
    go false h = omega (arith, h)

pub kept_append : (l : Listing) (es fs : List Finding) → kept l (es ++ fs) ≡ kept l es ++ kept l fs
kept_append Module es fs = refl
kept_append Own es fs = without_append es fs
kept_append Audit es fs = refl
kept_append Numbers es fs = refl

pub kept_few : (l : Listing) (es : List Finding) → length (kept l es) ≤ length es
kept_few Module es = omega arith
kept_few Own es = without_few es
kept_few Audit es = omega arith
kept_few Numbers es = omega arith

pub kept_none : (l : Listing) → kept l [] ≡ []
unfolding without_lists
kept_none Module = refl
kept_none Own = refl
kept_none Audit = refl
kept_none Numbers = refl

-- LAW: the form Own does not keep an error of a parameter list, and keeps any other
module _ (e : Finding) {b : Bool} (b_is : b ≡ is_list_error e.number) where
  pub own_left : b ≡ true → kept Own (only e) ≡ []
  unfolding without_lists
  own_left h = rw (← b_is, h) refl

  pub own_kept : b ≡ false → kept Own (only e) ≡ only e
  unfolding without_lists
  own_kept h = rw (← b_is, h) refl

-- storing one error and then others
module _ (l : Listing) where
  -- an error has as many words as the form says
  words_width : (e : Finding) → length (words_of l e) ≡ width l
  words_width e = go l
    where
      go : (l : Listing) → length (words_of l e) ≡ width l
      go Module = refl
      go Own = refl
      go Audit = refl
      go Numbers = refl

  -- case split: there is room for one more error, or there is not
  room : {P : Type 0} (xs : List ℕ) → (width l ≤ length xs → P) → (length xs < width l → P) → P
  room {P} xs fits full = go (le_or_lt (width l) (length xs))
    where
      go : (width l ≤ length xs) ⊎ (length xs < width l) → P
      go (inl h) = fits h
      go (inr h) = full h

  module _ (e : Finding) (es : List Finding) (xs : List ℕ) where
    stored_fits : width l ≤ length xs → stored l (e ∷ es) xs ≡ words_of l e ++ stored l es (drop (width l) xs)
    unfolding stored
    stored_fits h = rw (le-leb (width l) (length xs) h) refl

    stored_full : length xs < width l → stored l (e ∷ es) xs ≡ xs
    unfolding stored
    stored_full h = rw (lt-leb (width l) (length xs) h) refl

  -- LAW: no error leaves the list as it is; storing keeps the length of the list
  pub stored_none : (xs : List ℕ) → stored l [] xs ≡ xs
  unfolding stored
  stored_none xs = refl

  pub stored_length : (es : List Finding) (xs : List ℕ) → length (stored l es xs) ≡ length xs
  stored_length [] xs = ap length (stored_none xs)
  stored_length (e ∷ es) xs =
      room xs
      (λ h. ap length (stored_fits e es xs h)
      ∙ length-append (words_of l e) (stored l es (drop (width l) xs))
      ∙ (let n = stored_length es (drop (width l) xs) in omega
      (arith, n, words_width e, length-drop (width l) xs)))
      (λ h. ap length (stored_full e es xs h))

  stored_nil : (es : List Finding) → stored l es [] ≡ []
  stored_nil [] = stored_none []
  stored_nil (e ∷ es) = stored_full e es [] (some l)
    where
      some : (l : Listing) → 0 < width l
      some Module = omega arith
      some Own = omega arith
      some Audit = omega arith
      some Numbers = omega arith

  -- after the errors es the errors fs are stored from the first free word on, or nowhere if there is none
  abbrev Appends : List Finding → List Finding → List ℕ → Type 0
  Appends es fs xs =
      stored l (es ++ fs) xs ≡ take (min (width l * length es) (length xs)) (stored l es xs)
      ++ stored l fs (drop (min (width l * length es) (length xs)) (stored l es xs))

  -- one more error in front: it fits, or the list is full
  append_fits : (e : Finding) (es fs : List Finding) (xs : List ℕ) → width l ≤ length xs
      → Appends es fs (drop (width l) xs)
      → Appends (e ∷ es) fs xs
  append_fits e es fs xs h others =
      let rest = stored l es (drop (width l) xs) in
      let k : ℕ = min (width l * length es) (length (drop (width l) xs)) in
      let m : min (width l * suc (length es)) (length xs) ≡ length (words_of l e) + k = omega
      (arith, words_width e, length-drop (width l) xs) in
      rw (
        stored_fits e (es ++ fs) xs h,
        others,
        m,
        stored_fits e es xs h,
        take-append-add (words_of l e) rest k,
        drop-append-add (words_of l e) rest k,
      ) (sym (append_assoc (words_of l e) (take k rest) (stored l fs (drop k rest))))

  append_full : (e : Finding) (es fs : List Finding) (xs : List ℕ) → length xs < width l → Appends (e ∷ es) fs xs
  append_full e es fs xs h =
      let m : min (width l * suc (length es)) (length xs) ≡ length xs = omega arith in
      rw (
        stored_full e (es ++ fs) xs h,
        stored_full e es xs h,
        m,
        take-length xs,
        drop-length xs,
        stored_nil fs,
        append-nil xs,
      ) refl

  -- LAW: after the first errors the next ones are stored from the first free word on, or nowhere if there is none
  pub stored_append : (es fs : List Finding) (xs : List ℕ) →
      stored l (es ++ fs) xs ≡ take (min (width l * length es) (length xs)) (stored l es xs)
      ++ stored l fs (drop (min (width l * length es) (length xs)) (stored l es xs))
  stored_append [] fs xs = let z : min (width l * 0) (length xs) ≡ 0 = omega arith in rw (z, stored_none xs) refl
  stored_append (e ∷ es) fs xs =
      room xs (λ h. append_fits e es fs xs h (stored_append es fs (drop (width l) xs)))
      (λ h. append_full e es fs xs h)

-- as the code computes them: where the free words begin after `count` errors, the part of a list from an index on, and
-- a list whose part from an index on was lent and has come back as ys
abbrev pub free_at : Listing → ℕ → List ℕ → ℕ
free_at l count xs = min (width l * count) (length xs)

abbrev pub after : ℕ → List ℕ → List ℕ
after at xs = take (length xs - at) (drop at xs)

abbrev pub back : ℕ → List ℕ → List ℕ → List ℕ
back at xs ys = put_mid at (length xs - at) xs ys

put_tail : (a : ℕ) (s ys : List ℕ) → back a s ys ≡ take a s ++ ys
put_tail a s ys = simp (
  drop_of_length-le (drop a s) {i = length s - a} (simp length-drop (omega arith)),
  append-nil,
)

-- LAW: errors of which none is kept change no word; a check that finds nothing changes no word
pub stores_nothing : {l : Listing} (es : List Finding) (xs : List ℕ) → kept l es ≡ [] → Stores l es xs 0 xs
stores_nothing {l} es xs nothing =
    record { count = rw nothing refl; words = rw nothing (sym (stored_none l xs)) }

pub stores_none : {l : Listing} (xs : List ℕ) → Stores l [] xs 0 xs
stores_none {l} xs = stores_nothing [] xs (kept_none l)

-- LAW: two checks, where the second is lent the words that the first leaves free, store as one check of all errors
pub stores_both : {l : Listing} (es fs : List Finding) {xs ys zs : List ℕ} {m n at : ℕ} → Stores l es xs m ys
    → at ≡ free_at l m ys → Stores l fs (after at ys) n zs
    → Stores l (es ++ fs) xs (m + n) (back at ys zs)
stores_both {l} es fs {xs} {ys} {zs} {m} {n} {at} s at-is q =
    let both = kept_append l es fs in
    let long : length ys ≡ length xs = ap length s.words ∙ stored_length l (kept l es) xs in
    let a : at ≡ min (width l * length (kept l es)) (length xs) = rw (at-is, s.count, long) refl in
    let z : zs ≡ stored l (kept l fs) (drop at ys) = q.words ∙ ap (stored l (kept l fs)) (tail_part at ys) in
    record {
      count = omega (arith, s.count, q.count, ap length both, length-append (kept l es) (kept l fs));
      words = put_tail at ys zs ∙ rw (z, s.words, a, both) (sym (stored_append l (kept l es) (kept l fs) xs));
    }

-- LAW: one error that is kept: its words, stored one by one, if they fit; otherwise nothing
module _ {l : Listing} (xs : List ℕ) (e : Finding) (whole : kept l (only e) ≡ only e) where
  push_fits : width l ≤ length xs → Stores l (only e) xs 1 (sets xs 0 (words_of l e))
  push_fits h =
      let skip : 0 + length (words_of l e) ≡ width l = omega (arith, words_width l e) in
      record {
        count = rw whole refl;
        words = sets-eq (words_of l e) xs 0 (omega (arith, words_width l e))
            ∙ ap (λ (n : ℕ). words_of l e ++ drop n xs) skip
            ∙ sym (rw whole (stored_fits l e [] xs h ∙ rw (stored_none l) refl));
      }

  push_full : length xs < width l → Stores l (only e) xs 1 xs
  push_full h = record { count = rw whole refl; words = rw whole (sym (stored_full l e [] xs h)) }

module _ (xs : List ℕ) (e : Finding) where
  pub short_fits : width Module ≤ length xs → Stores Module (only e) xs 1 (sets xs 0 (words_of Module e))
  short_fits = push_fits xs e refl

  pub short_full : length xs < width Module → Stores Module (only e) xs 1 xs
  short_full = push_full xs e refl

  pub long_fits : width Audit ≤ length xs → Stores Audit (only e) xs 1 (sets xs 0 (words_of Audit e))
  long_fits = push_fits xs e refl

  pub long_full : length xs < width Audit → Stores Audit (only e) xs 1 xs
  long_full = push_full xs e refl

  pub number_fits : width Numbers ≤ length xs → Stores Numbers (only e) xs 1 (sets xs 0 (words_of Numbers e))
  number_fits = push_fits xs e refl

  pub number_full : length xs < width Numbers → Stores Numbers (only e) xs 1 xs
  number_full = push_full xs e refl

-- LAW: in the form Own an error of a parameter list changes no word, and any other is stored as in the form Audit
module _ (e : Finding) {b : Bool} (b_is : b ≡ is_list_error e.number) {xs : List ℕ} where
  pub push_left : b ≡ true → Stores Own (only e) xs 0 xs
  push_left h = stores_nothing (only e) xs (own_left e b_is h)

  pub push_own : b ≡ false → {m : ℕ} {ys : List ℕ} → Stores Audit (only e) xs m ys → Stores Own (only e) xs m ys
  unfolding stored
  push_own h s = let whole = own_kept e b_is h in record { count = rw whole s.count; words = rw whole s.words }

-- LAW: an equal error, or an equal form, is stored alike
pub push_known : {l : Listing} {e f : Finding} {m : ℕ} {xs ys : List ℕ} → e ≡ f → Stores l (only e) xs m ys
    → Stores l (only f) xs m ys
push_known known s = rw (← known) s

pub push_form : {l k : Listing} {e : Finding} {m : ℕ} {xs ys : List ℕ} → l ≡ k → Stores k (only e) xs m ys
    → Stores l (only e) xs m ys
push_form form s = rw form s

-- LAW: an error unless something is permitted
module _ {l : Listing} (e : Finding) {b : Bool} {xs : List ℕ} where
  pub unless_permitted : b ≡ true → Stores l (unless_in b e) xs 0 xs
  unless_permitted h = rw h (stores_none xs)

  pub unless_not : {ys : List ℕ} {m : ℕ} → b ≡ false → Stores l (only e) xs m ys → Stores l (unless_in b e) xs m ys
  unless_not h q = rw h q

pub unless_few : (b : Bool) (e : Finding) → length (unless_in b e) ≤ 1
unless_few true e = omega arith
unless_few false e = omega arith

-- LAW: a check counts no more errors than it finds
pub stores_few : {l : Listing} (es : List Finding) {xs ys : List ℕ} {m : ℕ} → Stores l es xs m ys → m ≤ length es
stores_few {l} es q = omega (arith, q.count, kept_few l es)

pub unless_one : {l : Listing} (b : Bool) (e : Finding) {xs ys : List ℕ} {m : ℕ} → Stores l (unless_in b e) xs m ys
    → m ≤ 1
unless_one b e q = omega (arith, stores_few _ q, unless_few b e)

-- LAW: a list with room for all errors gets the words of each, and its other words are unchanged
abbrev pub all_words : Listing → List Finding → List ℕ
all_words l [] = []
all_words l (e ∷ es) = words_of l e ++ all_words l es

pub stored_all : (l : Listing) (es : List Finding) (xs : List ℕ) → width l * length es ≤ length xs
    → stored l es xs ≡ all_words l es ++ drop (width l * length es) xs
stored_all l [] xs h = let z : width l * 0 ≡ 0 = omega arith in rw z (stored_none l xs)
stored_all l (e ∷ es) xs h =
    let next = stored_all l es (drop (width l) xs) (omega (arith, length-drop (width l) xs)) in
    let more : width l + width l * length es ≡ width l * suc (length es) = omega arith in
    let skip : drop (width l * length es) (drop (width l) xs)
    ≡ drop (width l * suc (length es)) xs = drop-drop (width l * length es) (width l) xs
    ∙ ap (λ (n : ℕ). drop n xs) more in
    rw (stored_fits l e es xs (omega arith), next, skip)
    (sym (append_assoc (words_of l e) (all_words l es) (drop (width l * suc (length es)) xs)))

-- the invariant of a loop of checks, each lent the words that those before it leave free: of `all` errors some are
-- stored in the words xs₀, which are now xs, and `rest` is left
pub record Turns (l : Listing) (all : List Finding) (xs₀ : List ℕ) (rest : List Finding) (total : ℕ)
    (xs : List ℕ) : Type 0 where
  pub done : List Finding
  pub same : done ++ rest ≡ all
  pub stores : Stores l done xs₀ total xs

pub turns_start : {l : Listing} (all : List Finding) (xs : List ℕ) → Turns l all xs all 0 xs
turns_start all xs = record { done = []; same = refl; stores = stores_none xs }

module _ {l : Listing} {all : List Finding} {xs₀ : List ℕ} {rest : List Finding} {total : ℕ} {xs : List ℕ}
    (t : Turns l all xs₀ rest total xs) where
  pub turns_end : rest ≡ [] → Stores l all xs₀ total xs
  turns_end h = rw (← t.same, h, append-nil) t.stores

  pub turns_long : length xs ≡ length xs₀
  turns_long = ap length t.stores.words ∙ stored_length l (kept l t.done) xs₀

  pub turns_few : total ≤ length all
  turns_few = omega (arith, stores_few _ t.stores, simp length-append at (ap length t.same))

  -- LAW: the next check, which finds the first errors of what is left
  pub turns_on : {one more : List Finding} → rest ≡ one ++ more → {at n : ℕ} {zs : List ℕ}
      → at ≡ free_at l total xs → Stores l one (after at xs) n zs
      → Turns l all xs₀ more (total + n) (back at xs zs)
  turns_on {one} {more} cut at-is s = record {
    done = t.done ++ one;
    same = append_assoc t.done one more ∙ rw (← cut) t.same;
    stores = stores_both t.done one t.stores at-is s;
  }
