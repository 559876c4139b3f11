-- What users of the module job rely on: a refusal changes no word, the total is at most twice the node count, and a
-- list with room for that many errors holds all. And what users of the pass alone rely on: what a form of the list
-- keeps of its errors. Assumes nothing.
use Rattle.std.specs.Prelude.{Ok}
use mathlib.Core.Path.{◌≡◌, refl, ap}
use mathlib.Core.List.{List, [], ◌∷◌, ◌++◌}
use Prim.Native.Nat.{ℕ, ◌*◌, ◌/◌, ◌≤◌}
use native.Mathlib.Omega.{arith}
use lib.ListN.{length, take, drop, length-take}
use mathlib.Core.Bool.{Bool, true, false, ◌&&◌, not}
use Rattle.fields.specs.Choice.{if'}
use Rattle.dialect.specs.declared.Dialect.{Dialect}
use Rattle.forest.specs.Forest.{forest}
use Rattle.forest.proofs.Stretch.{count_forest}
use Rattle.fields.proofs.Basics.{never}
use Rattle.table.specs.Answer.{accepted, refused}
use Rattle.table.specs.Check.{Handing, in_dialect, turned_away, given_of, in_given}
use Rattle.errors.specs.declared.Finding.{Finding}
use Rattle.errors.specs.Errors.{is_list_error, without_lists, kept, width, stored}
use Rattle.errors.specs.declared.Listing.{Listing}
use Rattle.errors.specs.declared.Listing.TheVariants.{Module, Own}
use Rattle.errors.proofs.Storing.{all_words, stored_all, stored_none, kept_few}
use Rattle.validate.specs.Job.{listed, pass_errors, errors_in, errors_of, module_of, errors_after}
use Rattle.validate.proofs.Bounds.{module_few}

module _ (t names bytes : List ℕ) where
  -- THEOREM: a refusal changes no word
  pub refusal_keeps : {n : ℕ} {vs : List ℕ} (xs : List ℕ) → module_of t names bytes ≡ refused n vs
      → errors_after t names bytes xs ≡ xs
  unfolding errors_of
  refusal_keeps {n} {vs} xs e = go (given_of t names bytes) e
    where
      go : (h : Handing) → in_given h (λ _. accepted (length (errors_in h names t) ∷ [])) ≡ refused n vs
          → stored Module (errors_in h names t) xs ≡ xs
      go (in_dialect d) h = never (cc)
      go (turned_away m ws) h = stored_none Module xs

  -- THEOREM: there are at most twice as many errors as nodes
  pub errors_few : length (errors_of t names bytes) ≤ 2 * (length t / 24)
  unfolding errors_of
  errors_few = go (given_of t names bytes)
    where
      go : (h : Handing) → length (errors_in h names t) ≤ 2 * (length t / 24)
      go (in_dialect d) = omega (arith, module_few d names (forest 0 t), count_forest 0 t)
      go (turned_away m ws) = omega arith

  -- THEOREM: the total that the job answers is at most twice the node count
  pub total_few : (n : ℕ) → listed (Ok n) ≡ module_of t names bytes → n ≤ 2 * (length t / 24)
  total_few n e = go (given_of t names bytes) e
    where
      go : (h : Handing) → listed (Ok n) ≡ in_given h (λ _. accepted (length (errors_of t names bytes) ∷ []))
          → n ≤ 2 * (length t / 24)
      go (in_dialect d) h = let total : n ≡ length (errors_of t names bytes) = cc in omega (arith, errors_few)
      go (turned_away m vs) h = never (cc)

  -- THEOREM: a list of words with room for twice the node count holds all errors, one after the other, and its other
  -- words stay
  pub list_holds_all : (xs : List ℕ) → width Module * (2 * (length t / 24)) ≤ length xs
      → errors_after t names bytes xs ≡ all_words Module (errors_of t names bytes)
      ++ drop (width Module * length (errors_of t names bytes)) xs
  list_holds_all xs room = stored_all Module (errors_of t names bytes) xs (omega (arith, errors_few))

-- no error of some is one of a parameter list
abbrev pub none_of_lists : List Finding → Bool
none_of_lists [] = true
none_of_lists (e ∷ es) = not (is_list_error e.number) && none_of_lists es

-- THEOREM: of the module pass's own errors none is one of a parameter list, 10 to 19
pub own_none : (es : List Finding) → none_of_lists (kept Own es) ≡ true
unfolding without_lists
own_none [] = refl
own_none (e ∷ es) = go (is_list_error e.number) refl (own_none es)
  where
    go : (b : Bool) → is_list_error e.number ≡ b → none_of_lists (without_lists es) ≡ true
        → none_of_lists (if' b (λ _. without_lists es) (λ _. e ∷ without_lists es)) ≡ true
    go true is_one_lem h = h
    go false is_none h = rw (is_none, h) refl

-- THEOREM: and every other is there: where none is one of a parameter list, all are kept. In the form Own the pass's
-- errors are therefore the module pass's, in their order, without 10 to 19 (`kept_append` of errors says it of parts)
pub own_all : (es : List Finding) → none_of_lists es ≡ true → kept Own es ≡ es
unfolding without_lists
own_all [] h = refl
own_all (e ∷ es) h = go (is_list_error e.number) h (λ rest. own_all es rest)
  where
    go : (b : Bool) → (not b && none_of_lists es) ≡ true → (none_of_lists es ≡ true → without_lists es ≡ es)
        → if' b (λ _. without_lists es) (λ _. e ∷ without_lists es) ≡ e ∷ es
    go true both all = never (cc)
    go false both all = ap (λ (rest : List Finding). e ∷ rest) (all both)

-- THEOREM: the pass counts at most twice as many errors as nodes, in any form
pub pass_few : (l : Listing) (d : Dialect) (names t : List ℕ)
    → length (kept l (pass_errors d names t)) ≤ 2 * (length t / 24)
unfolding pass_errors
pass_few l d names t =
    let part : List ℕ = take 50400 t in
    omega (
      arith,
      kept_few l (pass_errors d names t),
      module_few d names (forest 0 part),
      count_forest 0 part,
      length-take 50400 t,
    )
