-- W-209 about the module job, for any bytes that mean two dialects (nine bytes each, or none for Extended). The job in
-- the two dialects passes or fails 1 to 4 alike, because these do not depend on the dialect, and neither is 5. If both
-- pass, the errors are the lists of the two clauses; if both fail, there are none, and removing from none leaves none
-- (`errors_opened`). The rest follows: a number of 0 (`zero_stays`), every number (`total_opened`), and with room for
-- the first list the words at exit (`words_opened`). The last laws state the order in the bytes that people type.
-- Assumes nothing.
use Rattle.std.specs.Prelude.{Some}
use mathlib.Core.Path.{◌≡◌, refl, sym, ◌∙◌}
use mathlib.Core.Bool.{true}
use mathlib.Core.List.{List, [], ◌∷◌, ◌++◌}
use Prim.Native.Nat.{ℕ, ◌*◌, ◌≤◌}
use native.Mathlib.Omega.{arith}
use lib.ListN.{length, drop, get_or}
use Rattle.fields.proofs.Basics.{never, no_entries}
use Rattle.dialect.specs.declared.Dialect.{Dialect}
use Rattle.dialect.specs.Rows.{record_of}
use Rattle.dialect.specs.Bytes.{valid_bytes, from_bytes}
use Rattle.dialect.proofs.Laws.{valid_given}
use Rattle.forest.specs.Forest.{forest}
use Rattle.table.specs.Answer.{Answer, accepted, refused}
use Rattle.table.specs.Check.{check_of, handing, given_of, in_given}
use Rattle.errors.specs.declared.Finding.{Finding}
use Rattle.errors.specs.declared.Listing.TheVariants.{Module}
use Rattle.errors.specs.Errors.{width}
use Rattle.errors.proofs.Storing.{all_words, stored_all}
use Rattle.validate.specs.Module.{validate_module}
use Rattle.validate.specs.Job.{errors_in, errors_of, module_of, errors_after}
use Rattle.opening.specs.Opening.{permits_all, opened, without}
use Rattle.opening.proofs.Order.{bytes_in_order, in_order_bytes}
use Rattle.opening.proofs.Filters.{without_few}
use Rattle.opening.proofs.Theorems.{first_clause, second_clause}

module _ (t names first second : List ℕ) {d e : Dialect} (one : from_bytes first ≡ Some d)
    (two : from_bytes second ≡ Some e) (all : permits_all d e ≡ true) where
  -- THEOREM: a module without errors stays without errors, even if top-level statements open
  pub zero_stays : module_of t names first ≡ accepted (0 ∷ []) → module_of t names second ≡ accepted (0 ∷ [])
  unfolding errors_of given_of
  zero_stays h = rw two (go (check_of t names) (rw one at h))
    where
      total : Answer → Dialect → Answer
      total a x = in_given (handing a (Some x)) (λ _. accepted (length (errors_in (handing a (Some x)) names t) ∷ []))

      go : (a : Answer) → total a d ≡ accepted (0 ∷ []) → total a e ≡ accepted (0 ∷ [])
      go (refused n vs) h = never (cc)
      go (accepted vs) h =
          let none : length (validate_module d names (forest 0 t)) ≡ 0 = cc in
          rw (first_clause d e all names (forest 0 t) (no_entries _ none)) refl

  module _ (agree : d.enable_top_level_stmt ≡ e.enable_top_level_stmt) where
    -- the errors that are left
    abbrev pub left : List Finding
    left = without (opened d e) (errors_of t names first)

    -- THEOREM: the errors in the second dialect are those that are left
    pub errors_opened : errors_of t names second ≡ left
    unfolding errors_of given_of without
    errors_opened = rw (one, two) (go (check_of t names))
      where
        go : (a : Answer) → errors_in (handing a (Some e)) names t
            ≡ without (opened d e) (errors_in (handing a (Some d)) names t)
        go (refused n vs) = refl
        go (accepted vs) = second_clause d e all agree names (forest 0 t)

    -- THEOREM: the answer is the number of these errors, or the same refusal
    pub total_opened : module_of t names second
        ≡ in_given (given_of t names first) (λ _. accepted (length left ∷ []))
    unfolding given_of
    total_opened = rw (errors_opened, one, two) (go (check_of t names))
      where
        go : (a : Answer) → in_given (handing a (Some e)) (λ _. accepted (length left ∷ []))
            ≡ in_given (handing a (Some d)) (λ _. accepted (length left ∷ []))
        go (refused n vs) = refl
        go (accepted vs) = refl

    -- THEOREM: with room for the first list, the words at exit are those of these errors, and the other words are
    -- unchanged
    pub words_opened : (ws : List ℕ) → width Module * length (errors_of t names first) ≤ length ws
        → errors_after t names second ws ≡ all_words Module left ++ drop (width Module * length left) ws
    words_opened ws room =
        rw errors_opened
        (stored_all Module left ws (omega (arith, room, without_few (opened d e) (errors_of t names first))))

-- valid bytes mean one dialect
valid_one : (bytes : List ℕ) {d : Dialect} → valid_bytes bytes ≡ true → from_bytes bytes ≡ Some d → record_of bytes ≡ d
valid_one bytes p is = let both = sym (valid_given bytes p) ∙ is in cc

-- THEOREM: for nine valid bytes each, the second dialect permits all that the first does exactly if every byte of the
-- first is at most that of the second
module _ (first second : List ℕ) {d e : Dialect} (p : valid_bytes first ≡ true) (q : valid_bytes second ≡ true)
    (one : from_bytes first ≡ Some d) (two : from_bytes second ≡ Some e) where
  pub opening_bytes : permits_all d e ≡ true → (i : ℕ) → get_or first i 0 ≤ get_or second i 0
  opening_bytes all = bytes_in_order first second p q (rw (valid_one first p one, valid_one second q two) all)

  pub bytes_opening : ((i : ℕ) → get_or first i 0 ≤ get_or second i 0) → permits_all d e ≡ true
  bytes_opening below =
      rw (← valid_one first p one, ← valid_one second q two) (in_order_bytes first second p q below)
