-- Laws of `check_file`. The code judges the file, which tests 70 to 75, copies its content into arrays with room for it
-- (`many_room`, `filled`), and then runs the module job, which tests 1 to 5 itself; `answer_of` tests 70 to 75 and 1 to
-- 5, and then runs the job. Both are the same: if 1 to 5 refuse, the job refuses with the same number (`given_again`)
-- and changes no word (`given_keeps`). So the answer is `answer_of` (`job_is_answer`) and the words are `words_after`
-- (`job_is_words`), if an edition holds. The job does not read the edition; a bad one is refused before the job, with 1
-- to 4 or 5 (`bad_edition`). Assumes nothing.
use Rattle.std.specs.Prelude.{Err, None, Ok, Option, Result, Some, ℕ}
use mathlib.Core.Path.{◌≡◌, refl, sym, ap, ◌∙◌}
use mathlib.Core.Bool.{true, ◌&&◌}
use mathlib.Core.List.{List, [], ◌∷◌}
use Prim.Native.Nat.{ℕ, ◌*◌, ◌-◌, ◌/◌, ◌^◌, ◌<◌, ◌≤◌}
use native.Mathlib.Omega.{arith}
use lib.ListN.{length, take, replicate, length-replicate}
use lib.Seq.{take_all}
use lib.Dec.{leb}
use borrow.Author.Tests.{leb-true}
use Rattle.fields.proofs.Basics.{and_left, and_right}
use Rattle.dialect.specs.Bytes.{from_bytes}
use Rattle.dialect.specs.Editions.{stated_bytes, edition_held}
use Rattle.dialect.specs.declared.Dialect.{Dialect}
use Rattle.dialect.specs.declared.Edition.{Edition}
use Rattle.table.specs.Numbers.{bad_dialect}
use Rattle.table.specs.Answer.{Answer, accepted, refused, and_then, refusal, checked}
use Rattle.table.specs.Check.{check_of, Handing, in_dialect, turned_away, handing, given_of, in_given, given_check}
use Rattle.table.specs.declared.Refusal.{Refusal}
use Rattle.table.proofs.Answers.{after_both}
use Rattle.table.proofs.Entering.{given_known, given_passed}
use Rattle.table.proofs.Ruling.{rules_known, rules_passed, rules_given, rules_unknown}
use Rattle.tablefile.specs.File.{Content}
use Rattle.tablefile.specs.Reading.{header_at, content_at, edition_read, sound_check}
use Rattle.tablefile.specs.Loading.{verdict}
use Rattle.tablefile.specs.Lending.{file_check, copied, Holds}
use Rattle.tablefile.specs.declared.Heading.{Heading}
use Rattle.tablefile.proofs.Lends.{read_steps, file_few, table_long, copied_holds, its_table, its_names}
use Rattle.errors.specs.Errors.{stored}
use Rattle.errors.specs.declared.Listing.TheVariants.{Module}
use Rattle.validate.specs.Job.{listed, errors_in, errors_of, module_of, errors_after}
use Rattle.filepass.specs.Sizes.{few_nodes, few_names}
use Rattle.filepass.specs.Passing.{behind, held_answer, answer_of, if_read, words_after}

-- the returns of `front`: all of the bytes, or a part
module _ (s : List ℕ) (len : ℕ) where
  pub front_all : length s ≤ len → s ≡ take len s
  front_all h = sym (take_all len s h)

  pub front_part : take (len - 0) s ≡ take len s
  front_part = let same : len - 0 ≡ len = omega arith in rw same refl

-- a table, names and dialect bytes that pass 1 to 5
module _ (t names bytes : List ℕ) (sound : given_check t names bytes ≡ accepted []) where
  known : (d : Dialect) × (given_of t names bytes ≡ in_dialect d)
  known = given_passed t names bytes sound

  pub held_few : length t ≤ 50400
  held_few = (given_known t names bytes known.1).0.most

  -- LAW: the module job does not refuse them
  pub held_listed : held_answer t names bytes ≡ accepted (length t / 24 ∷ length (errors_of t names bytes) ∷ [])
  held_listed = rw known.1 refl

-- LAW: what passes 1 to 5 with its edition passes them without it
pub sound_given : (c : Content) → sound_check c ≡ accepted []
    → given_check c.table c.names c.dialect ≡ accepted []
sound_given c sound =
    let (d, e, rules) = rules_passed c.table c.names c.dialect (edition_read c) sound in
    rw (rules_known c.table c.names c.dialect rules).0 refl

-- LAW: testing 1 to 5 before a job in a dialect changes nothing, because the job tests them itself
pub given_again : (g : Handing) (n : ℕ) (rule : Dialect → Answer)
    → and_then (in_given g (λ _. accepted [])) (λ _. behind n (in_given g rule)) ≡ behind n (in_given g rule)
given_again (in_dialect d) n rule = refl
given_again (turned_away m vs) n rule = refl

-- a job that is refused with 1 to 5 changes no word
pub given_keeps : (t names bytes xs : List ℕ)
    → if_read (given_check t names bytes) xs (λ _. errors_after t names bytes xs) ≡ errors_after t names bytes xs
unfolding errors_of stored
given_keeps t names bytes xs = go (given_of t names bytes)
  where
    go : (g : Handing) → if_read (in_given g (λ _. accepted [])) xs (λ _. stored Module (errors_in g names t) xs)
        ≡ stored Module (errors_in g names t) xs
    go (in_dialect d) = refl
    go (turned_away n vs) = refl

-- a file in which an edition holds
module _ (file : List ℕ) {e : Edition} (known : edition_read (content_at file) ≡ Some e) where
  abbrev c : Content
  c = content_at file

  given_so : sound_check c ≡ given_check c.table c.names c.dialect
  given_so = rw known (rules_given c.table c.names c.dialect e)

  -- LAW: 70 to 75 and then the module job on the content of the file give `answer_of`
  job_is_answer : and_then (file_check file) (λ _. held_answer c.table c.names c.dialect) ≡ answer_of file
  unfolding answer_of
  job_is_answer =
      let held : Answer = held_answer c.table c.names c.dialect in
      sym (ap (λ (x : Answer). and_then x (λ _. held)) (read_steps file)
      ∙ after_both (file_check file) (λ _. sound_check c) (λ _. held)
      ∙ ap (λ (x : Answer). and_then (file_check file) (λ _. and_then x (λ _. held))) given_so
      ∙ ap (λ (x : Answer). and_then (file_check file) (λ _. x))
      (given_again (given_of c.table c.names c.dialect) (length c.table / 24)
      (λ _. accepted (length (errors_of c.table c.names c.dialect) ∷ []))))

  -- LAW: they also give the words
  job_is_words : (xs : List ℕ)
      → if_read (file_check file) xs (λ _. errors_after c.table c.names c.dialect xs) ≡ words_after file xs
  unfolding words_after
  job_is_words xs = rw (read_steps file, given_so) (go (file_check file))
    where
      go : (x : Answer) → if_read x xs (λ _. errors_after c.table c.names c.dialect xs)
          ≡ if_read (and_then x (λ _. given_check c.table c.names c.dialect)) xs
          (λ _. errors_after c.table c.names c.dialect xs)
      go (accepted vs) = sym (given_keeps c.table c.names c.dialect xs)
      go (refused n vs) = refl

-- LAW: if no edition holds, 1 to 5 are 1 to 4 and then 5, whatever the dialect bytes are
pub bad_edition : (t names bytes : List ℕ)
    → and_then (given_check t names bytes) (λ _. refused bad_dialect [])
    ≡ and_then (check_of t names) (λ _. refused bad_dialect [])
unfolding given_of
bad_edition t names bytes = go (check_of t names) (from_bytes bytes)
  where
    go : (a : Answer) (x : Option Dialect)
        → and_then (in_given (handing a x) (λ _. accepted [])) (λ _. refused bad_dialect [])
        ≡ and_then a (λ _. refused bad_dialect [])
    go (accepted vs) (Some d) = refl
    go (accepted vs) None = refl
    go (refused n vs) x = refl

-- the answer of `table::check` on such a file, as a refusal
pub refused_sound : (t names : List ℕ) (f : Result (Unit {0}) Refusal) → checked f ≡ check_of t names → f ≡ Ok tt
    → refused bad_dialect [] ≡ and_then (check_of t names) (λ _. refused bad_dialect [])
refused_sound t names f f-is e = rw (← f-is, e) refl

pub refused_unsound : (t names : List ℕ) (f : Result (Unit {0}) Refusal) → checked f ≡ check_of t names
    → {why : Refusal}
    → f ≡ Err why → refusal why ≡ and_then (check_of t names) (λ _. refused bad_dialect [])
refused_unsound t names f f-is e = rw (← f-is, e) refl

-- the answer of a job, with the number of nodes
pub told_total : (n : ℕ) (m : Result ℕ Refusal) {k : ℕ} → m ≡ Ok k → accepted (n ∷ k ∷ []) ≡ behind n (listed m)
told_total n m e = rw e refl

pub told_refused : (n : ℕ) (m : Result ℕ Refusal) {why : Refusal} → m ≡ Err why → refusal why ≡ behind n (listed m)
told_refused n m e = rw e refl

-- the returns of `check_file`: v is the answer of `tablefile::judge_file`
module _ (file : List ℕ) (v : Result (Unit {0}) Refusal) (v-is : verdict v ≡ file_check file) where
  pub file_refused : (xs : List ℕ) {why : Refusal} → v ≡ Err why
      → (refusal why ≡ answer_of file) × (xs ≡ words_after file xs)
  unfolding answer_of words_after
  file_refused xs {why} e =
      let told : file_check file ≡ refusal why = sym v-is ∙ ap verdict e in
      (rw (read_steps file, told) refl, rw (read_steps file, told) refl)

  module _ (good : v ≡ Ok tt) where
    pub file_passes : file_check file ≡ accepted []
    file_passes = sym v-is ∙ ap verdict good

    pub file_small : {h : Heading} → h ≡ header_at file → (leb h.nodes few_nodes && leb h.names few_names) ≡ true
        → (file_check file ≡ accepted []) × ((header_at file).nodes ≤ few_nodes) × ((header_at file).names ≤ few_names)
    file_small {h} h-is e = rw (← h-is) (
      file_passes,
      leb-true h.nodes few_nodes (and_left (leb h.nodes few_nodes) (leb h.names few_names) e),
      leb-true h.names few_names (and_right (leb h.nodes few_nodes) (leb h.names few_names) e),
    )

-- the arrays of `check_many` have room for the content of every file
pub many_room : (file : List ℕ) → file_check file ≡ accepted []
    → (file_check file ≡ accepted []) × (24 * (header_at file).nodes ≤ length (replicate {A = ℕ} 50400 0))
    × ((header_at file).names ≤ length (replicate {A = ℕ} 8064 0))
many_room file good = (
  good,
  omega (arith, file_few file good refl, length-replicate {A = ℕ} 50400 0),
  omega (arith, file_few file good refl, length-replicate {A = ℕ} 8064 0),
)

-- `fill`: a and b are the arrays at its entry, w and wn those at its exit
module _ (file a b : List ℕ)
    (room : (file_check file ≡ accepted []) × (24 * (header_at file).nodes ≤ length a)
    × ((header_at file).names ≤ length b))
    {h : Heading} (h-is : h ≡ header_at file) where
  pub fill_fits : 24 * h.nodes < 2 ^ 64
  fill_fits = omega (arith, file_few file room.0 h-is)

  pub filled : {w wn : List ℕ} → w ≡ copied h.first (24 * h.nodes) file a → wn ≡ copied 1 h.names file b
      → Holds file w wn
  filled = copied_holds file room.0 h-is a b (rw h-is room.1) (rw h-is room.2)

-- the returns of `check_held`: w and wn are the arrays; t, names and bytes are the content of the file, x its edition
module _ {file w wn : List ℕ} (holds : Holds file w wn) {h : Heading} (h-is : h ≡ header_at file) where
  pub nodes_word : h.nodes < 2 ^ 32
  nodes_word = omega (arith, file_few file holds.passed h-is)

  module _ {t names bytes : List ℕ} (t-is : t ≡ take (24 * h.nodes) w) (names-is : names ≡ take h.names wn)
      (bytes_is : bytes ≡ (content_at file).dialect) {stated : Option ℕ}
      (stated_is : stated ≡ (content_at file).edition)
      {x : Option Edition} (x-is : x ≡ edition_held bytes (stated_bytes stated)) where
    t_so : t ≡ (content_at file).table
    t_so = t-is ∙ its_table holds h-is

    names_so : names ≡ (content_at file).names
    names_so = names-is ∙ its_names holds h-is

    nodes_so : length t / 24 ≡ h.nodes
    nodes_so = omega (arith, table_long file holds.passed h-is, ap length t_so)

    edition_so : edition_read (content_at file) ≡ x
    edition_so = rw (x-is, bytes_is, stated_is) refl

    -- a bad edition: `why` is the refusal with 1 to 4, or with 5
    module _ (bad : x ≡ None) (why : Refusal)
        (why-is : refusal why ≡ and_then (check_of t names) (λ _. refused bad_dialect [])) where
      unsound : sound_check (content_at file) ≡ refusal why
      unsound =
          let c : Content = content_at file in
          rw (edition_so, bad) (rules_unknown c.table c.names c.dialect
          ∙ bad_edition c.table c.names c.dialect) ∙ sym (rw (t_so, names_so) at why-is)

      pub bad_answer : refusal why ≡ answer_of file
      unfolding answer_of
      bad_answer = rw (read_steps file, holds.passed, unsound) refl

      pub bad_words : (xs : List ℕ) → xs ≡ words_after file xs
      unfolding words_after
      bad_words xs = rw (read_steps file, holds.passed, unsound) refl

    -- m is the answer of the module job, a the same with the number of nodes, and ys the words at its exit
    module _ {e : Edition} (held : x ≡ Some e) where
      pub file_answer : {m a : Answer} → m ≡ module_of t names bytes → a ≡ behind h.nodes m → a ≡ answer_of file
      file_answer m_is a-is = a-is ∙ rw (m_is, ← nodes_so, t_so, names_so, bytes_is)
          (rw holds.passed at (job_is_answer file (edition_so ∙ held)))

      pub file_words : (xs : List ℕ) {ys : List ℕ} → ys ≡ errors_after t names bytes xs → ys ≡ words_after file xs
      file_words xs ys-is =
          ys-is ∙ rw (t_so, names_so, bytes_is) (rw holds.passed at (job_is_words file (edition_so ∙ held) xs))

-- the first bytes of a buffer: p is that part
pub read_so : (file xs : List ℕ) {p ys : List ℕ} {a : Answer} → p ≡ file → a ≡ answer_of p → ys ≡ words_after p xs
    → (a ≡ answer_of file) × (ys ≡ words_after file xs)
read_so file xs p-is a-is ys-is = rw (← p-is) (a-is, ys-is)
