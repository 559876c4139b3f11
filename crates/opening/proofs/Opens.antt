-- How two error lists of the same part of a module, in two dialects, are related if the second dialect permits more
-- (`Opens`). Two clauses: if the first list is empty, so is the second; and if both dialects agree on top-level
-- statements, the second list is the first without the opened numbers. Both are in one record, so that one induction
-- over the module (Walk) shows both. The laws say what keeps `Opens`: joined lists, the arms of a choice, errors that
-- no switch opens, and errors of one switch (`opens_switch`, and `opens_unless` for a single error). There is no
-- induction here. Assumes nothing.
use mathlib.Core.Path.{◌≡◌, refl, sym}
use mathlib.Core.Bool.{Bool, true, false}
use mathlib.Core.List.{List, [], ◌∷◌, ◌++◌}
use Prim.Native.Nat.{ℕ}
use Rattle.fields.specs.Choice.{if'}
use Rattle.fields.proofs.Basics.{never}
use Rattle.dialect.specs.declared.Dialect.{Dialect}
use Rattle.forest.specs.Forest.{Node}
use Rattle.errors.specs.declared.Finding.{Finding}
use Rattle.errors.specs.Errors.{err_at, unless}
use Rattle.opening.specs.Opening.{at_least, newly, opened, without}
use Rattle.opening.proofs.Filters.{none_if, without_append, without_one}

pub record Opens (d e : Dialect) (es fs : List Finding) : Type 0 where
  pub clean : es ≡ [] → fs ≡ []
  pub exact : d.enable_top_level_stmt ≡ e.enable_top_level_stmt → fs ≡ without (opened d e) es

left_none : (es fs : List Finding) → es ++ fs ≡ [] → es ≡ []
left_none [] fs h = refl
left_none (e ∷ es) fs h = never (cc)

right_none : (es fs : List Finding) → es ++ fs ≡ [] → fs ≡ []
right_none [] fs h = h
right_none (e ∷ es) fs h = never (cc)

module _ {d e : Dialect} where
  -- LAW: empty lists, joined lists, and the arms of a choice are related if their parts are
  pub opens_none : Opens d e [] []
  unfolding without
  opens_none = record { clean = λ h. h; exact = λ h. refl }

  pub opens_both : {es fs gs hs : List Finding} → Opens d e es fs → Opens d e gs hs → Opens d e (es ++ gs) (fs ++ hs)
  opens_both {es} {fs} {gs} {hs} p q = record {
    clean = λ h. rw (p.clean (left_none es gs h), q.clean (right_none es gs h)) refl;
    exact = λ h. rw (p.exact h, q.exact h) (sym (without_append (opened d e) es gs));
  }

  pub opens_if : (b : Bool) (x y v w : Unit {0} → List Finding) → Opens d e (x tt) (v tt) → Opens d e (y tt) (w tt)
      → Opens d e (if' b x y) (if' b v w)
  opens_if true x y v w p q = p
  opens_if false x y v w p q = q

  -- LAW: errors that no switch opens are in both lists
  pub opens_same : {es : List Finding} → without (opened d e) es ≡ es → Opens d e es es
  opens_same stay = record { clean = λ h. h; exact = λ h. sym stay }

  pub opens_one : (x : Finding) → opened d e x.number ≡ false → Opens d e (x ∷ []) (x ∷ [])
  opens_one x stays = opens_same (without_one (opened d e) x stays)

  -- LAW: errors of one switch, which are reported if it is off
  pub opens_switch : (b c : Bool) (es : List Finding) → at_least b c ≡ true
      → without (opened d e) es ≡ none_if (newly b c) es
      → Opens d e (none_if b es) (none_if c es)
  opens_switch true true es least takes = opens_none
  opens_switch true false es least takes = never (cc)
  opens_switch false true es least takes = record { clean = λ h. refl; exact = λ h. sym takes }
  opens_switch false false es least takes = opens_same takes

  pub opens_unless : (b c : Bool) (n : ℕ) (r : Node) → at_least b c ≡ true → opened d e n ≡ newly b c
      → Opens d e (unless b n r) (unless c n r)
  opens_unless b c n r least is =
      go b c (opens_switch b c (err_at n r ∷ []) least (without_one (opened d e) (err_at n r) is))
    where
      go : (b c : Bool) → Opens d e (none_if b (err_at n r ∷ [])) (none_if c (err_at n r ∷ []))
          → Opens d e (unless b n r) (unless c n r)
      go true true o = o
      go true false o = o
      go false true o = o
      go false false o = o
