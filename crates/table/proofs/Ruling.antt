-- The checks with which a job that reads types begins: 1 to 5 for the dialect bytes, then 5 for the edition. The
-- edition is checked last, so a known edition adds nothing to 1 to 5 (`rules_given`), and a job that passes has the
-- dialect of its bytes and a known edition (`rules_known`). Each law splits on the two answers. Assumes nothing.
use Rattle.std.specs.Prelude.{Err, None, Ok, Option, Result, Some}
use mathlib.Core.Path.{◌≡◌, refl, sym, ap, ◌∙◌}
use mathlib.Core.List.{List, []}
use Prim.Native.Nat.{ℕ, ◌<◌}
use native.Mathlib.Omega.{arith}
use Rattle.fields.proofs.Basics.{never}
use Rattle.dialect.specs.declared.Dialect.{Dialect}
use Rattle.dialect.specs.declared.Edition.{Edition}
use Rattle.table.specs.Numbers.{bad_dialect}
use Rattle.table.specs.Answer.{accepted, refused, and_then, number_of, carried}
use Rattle.table.specs.Check.{Handing, in_dialect, turned_away, given, given_of, in_given, given_check}
use Rattle.table.specs.Check.{Ruling, by_rules, unruled, ruled, ruling, rules_of, in_rules, rules_check}
use Rattle.table.specs.declared.Refusal.{Refusal}
use Rattle.table.proofs.Answers.{refusal_injective, never_passed}
use Rattle.table.proofs.Carried.{Before, given_before}

-- each return of `enter_rules`: g is what `enter_dialect` answered, x what was read of an edition
module _ (t names bytes : List ℕ) {g : Result Dialect Refusal} (g-is : given g ≡ given_of t names bytes)
    (x : Option Edition) where
  pub rules_away : {why : Refusal} → g ≡ Err why
      → unruled (number_of why) (carried why) ≡ rules_of t names bytes x
  unfolding rules_of
  rules_away h = rw (← g-is, h) refl

  module _ {d : Dialect} (h : g ≡ Ok d) where
    pub rules_in_lem : {e : Edition} → x ≡ Some e → by_rules d e ≡ rules_of t names bytes x
    unfolding rules_of
    rules_in_lem x-is = rw (← g-is, h, x-is) refl

    pub rules_bad : x ≡ None → unruled bad_dialect [] ≡ rules_of t names bytes x
    unfolding rules_of
    rules_bad x-is = rw (← g-is, h, x-is) refl

-- no two things that such a job is given mean the same
pub ruled_injective : (r s : Result (Dialect × Edition) Refusal) → ruled r ≡ ruled s → r ≡ s
ruled_injective (Ok p) (Ok q) h =
    let dialects : p.0 ≡ q.0 = cc in
    let editions : p.1 ≡ q.1 = cc in
    λ i. Ok (dialects i, editions i)
ruled_injective (Ok p) (Err s) h = never (cc)
ruled_injective (Err r) (Ok q) h = never (cc)
ruled_injective (Err r) (Err s) h =
    let numbers : number_of r ≡ number_of s = cc in
    let values : carried r ≡ carried s = cc in
    ap Err (refusal_injective r s (λ i. refused (numbers i) (values i)))

module _ (t names bytes : List ℕ) where
  -- LAW: what a job knows once 1 to 5 are passed: the dialect that they give, and a known edition
  pub rules_known : {x : Option Edition} {d : Dialect} {e : Edition} → rules_of t names bytes x ≡ by_rules d e
      → (given_of t names bytes ≡ in_dialect d) × (x ≡ Some e)
  unfolding rules_of
  rules_known {x} {d} {e} k = go (given_of t names bytes) x k
    where
      go : (h : Handing) (y : Option Edition) → ruling h y ≡ by_rules d e → (h ≡ in_dialect d) × (y ≡ Some e)
      go (in_dialect f) (Some g) k = (cc, cc)
      go (in_dialect f) None k = never (cc)
      go (turned_away n vs) y k = never (cc)

  -- LAW: and with these 1 to 5 are passed
  pub known_rules : {d : Dialect} (e : Edition) → given_of t names bytes ≡ in_dialect d
      → rules_of t names bytes (Some e) ≡ by_rules d e
  unfolding rules_of
  known_rules e k = rw k refl

  -- LAW: whom 1 to 5 turn away, no edition lets in
  pub away_rules : {n : ℕ} {vs : List ℕ} (x : Option Edition) → given_of t names bytes ≡ turned_away n vs
      → rules_of t names bytes x ≡ unruled n vs
  unfolding rules_of
  away_rules x k = rw k refl

  -- LAW: where 1 to 5 are passed, the edition included, there is a dialect and an edition
  pub rules_passed : (x : Option Edition) {vs : List ℕ} → rules_check t names bytes x ≡ accepted vs
      → (d : Dialect) × (e : Edition) × (rules_of t names bytes x ≡ by_rules d e)
  rules_passed x {vs} k = go (rules_of t names bytes x) refl k
    where
      go : (r : Ruling) → rules_of t names bytes x ≡ r → in_rules r (λ _ _. accepted []) ≡ accepted vs
          → (d : Dialect) × (e : Edition) × (rules_of t names bytes x ≡ by_rules d e)
      go (by_rules d e) r-is k = (d, e, r-is)
      go (unruled n ws) r-is k = never_passed k

  -- LAW: a known edition adds nothing to 1 to 5
  pub rules_given : (e : Edition) → rules_check t names bytes (Some e) ≡ given_check t names bytes
  unfolding rules_of
  rules_given e = go (given_of t names bytes)
    where
      go : (h : Handing) → in_rules (ruling h (Some e)) (λ _ _. accepted []) ≡ in_given h (λ _. accepted [])
      go (in_dialect d) = refl
      go (turned_away n vs) = refl

  -- LAW: 5 for the edition comes after 1 to 5 for the dialect bytes
  pub rules_unknown : rules_check t names bytes None
      ≡ and_then (given_check t names bytes) (λ _. refused bad_dialect [])
  unfolding rules_of
  rules_unknown = go (given_of t names bytes)
    where
      go : (h : Handing) → in_rules (ruling h None) (λ _ _. accepted [])
          ≡ and_then (in_given h (λ _. accepted [])) (λ _. refused bad_dialect [])
      go (in_dialect d) = refl
      go (turned_away n vs) = refl

  -- LAW: all of that comes before m
  pub rules_before : (m : ℕ) (x : Option Edition) → 6 < m → Before m (rules_check t names bytes x)
  unfolding rules_of
  rules_before m x h = go (given_of t names bytes) x (given_before m t names bytes h)
    where
      go : (g : Handing) (y : Option Edition) → Before m (in_given g (λ _. accepted []))
          → Before m (in_rules (ruling g y) (λ _ _. accepted []))
      go (in_dialect d) (Some e) b = tt
      go (in_dialect d) None b = (omega arith, omega arith)
      go (turned_away n vs) y b = b

-- a job that reads types, in the terms of code: r is what `enter_rules` answered
module _ (t names bytes : List ℕ) (x : Option Edition) {r : Result (Dialect × Edition) Refusal}
    (r-is : ruled r ≡ rules_of t names bytes x) where
  pub unruled_is : {why : Refusal} → r ≡ Err why → rules_of t names bytes x ≡ unruled (number_of why) (carried why)
  unruled_is h = sym r-is ∙ ap ruled h

  pub by_is : {p : Dialect × Edition} → r ≡ Ok p → rules_of t names bytes x ≡ by_rules p.0 p.1
  by_is h = sym r-is ∙ ap ruled h
