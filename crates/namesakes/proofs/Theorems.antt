-- Namesakes, in the user's words, for a call and a def that both jobs accept:
--
--   None is reported exactly when every argument that has the name of an ordinary parameter reaches that parameter.
--   Two arguments that are exchanged are both reported. By position before `/`, exchanging the two arguments of an
--   accepted call with nothing reported, whose names are those of their parameters, is reported.
--
-- "Reaches" is what the binding job says: the words of its list at exit (`argument_word` of the crate `reached`). The
-- job's reports are those of these words (`count_is`, `list_is`); the rest is the law of lists (Found) and that names
-- of parameters are distinct (reached's `one_name`). Assumes nothing.
use Rattle.std.specs.Prelude.{None, Option, Some, ℕ}
use mathlib.Core.Path.{◌≡◌, refl, sym, ap, ◌∙◌}
use mathlib.Core.Bool.{Bool, true, false}
use mathlib.Core.Logic.{◌↔◌}
use mathlib.Core.List.{List, [], ◌∷◌, ◌++◌}
use Prim.Native.Nat.{ℕ, zero, suc, ◌+◌, ◌*◌}
use native.Mathlib.Omega.{arith}
use lib.ListN.{length, get_or, take, drop}
use lib.Dec.{eqb}
use borrow.Author.Tests.{eqb-true, eqb-false}
use Rattle.fields.proofs.Basics.{never}
use Rattle.fields.proofs.Over.{over_front}
use Rattle.forest.specs.Forest.{node_of as record_of}
use Rattle.table.specs.Answer.{Answer, accepted, refused, and_then}
use Rattle.table.specs.Check.{stretch_of}
use Rattle.table.proofs.Answers.{never_passed}
use Rattle.deflist.specs.Written.{Name}
use Rattle.deflist.proofs.Limited.{limited_short}
use Rattle.parameters.specs.Params.{list_of}
use Rattle.bind.specs.FlatList.{FlatParam}
use Rattle.bind.specs.Job.{arguments_at, bind_of, lists_bound}
use Rattle.bind.specs.Binding.{binding}
use Rattle.reached.specs.Said.{IsAt, Ordinary, flats_at, parameter_word, argument_word}
use Rattle.reached.proofs.Params.{within, one_name}
use Rattle.reached.proofs.Passed as passing
use Rattle.reached.proofs.Passed.{Passed}
use Rattle.reached.proofs.Reached.{at_most_one, halves_agree}
use Rattle.namesakes.specs.Namesake.{Label, nameless, label, Labelled, ordinary_from, namesake_of, Report, rows}
use Rattle.namesakes.specs.Job.{labelled_at, entry_of, bound_at, bound_of, reports_at, counted, namesakes_of, list_after}
use Rattle.namesakes.specs.Said.{node_of, Reported, Exchanged}
use Rattle.namesakes.proofs.Lists.{bare}
use Rattle.namesakes.proofs.Whole.{labelled_many}
use Rattle.namesakes.proofs.Found.{Sake, ordinary_found, ordinary_missed, reported, none_if_lem, row_of, four_of}
use Rattle.namesakes.proofs.Found.{row_at}

-- an argument with its name is an argument
bare_at : (qs : List Labelled) (k : ℕ) (a : Labelled) → IsAt qs k a → IsAt (bare qs) k a.argument
bare_at [] k a at = elim at [ ]
bare_at (b ∷ qs) zero a at = ap (λ (x : Labelled). x.argument) at
bare_at (b ∷ qs) (suc k) a at = bare_at qs k a at

pub argument_at : (t names : List ℕ) (call k : ℕ) (a : Labelled) → IsAt (labelled_at t names call) k a
    → IsAt (arguments_at t names call) k a.argument
argument_at t names call k a at = rw (labelled_many t names call) at (bare_at (labelled_at t names call) k a at)

-- a call and a def that the binding accepts with a list of words: both jobs have one binding
module _ (t names : List ℕ) (call def : ℕ) (words : List ℕ) {vs : List ℕ}
    (bound : bind_of t names call def (length words) ≡ accepted vs) where
  pub pass : Passed t names call def words
  pass = passing.passed t names call def words bound

  pub bound_is : bound_at t names call def ≡ accepted pass.words
  unfolding bound_at lists_bound binding
  bound_is = rw (
    limited_short (record_of def (stretch_of t def)) (list_of t names def) pass.short ∙ pass.outcome,
    pass.in_order,
    pass.no_star,
    pass.walked,
    pass.no_empty,
  ) refl

-- and this job with a list
module _ (t names : List ℕ) (call def : ℕ) (words : List ℕ) {vs : List ℕ}
    (bound : bind_of t names call def (length words) ≡ accepted vs) (list : List ℕ) {n : ℕ}
    (found : namesakes_of t names call def (length list) ≡ accepted (n ∷ [])) where
  abbrev fs : List FlatParam
  fs = flats_at t names def

  abbrev qs : List Labelled
  qs = labelled_at t names call

  abbrev own : ℕ → ℕ
  own k = argument_word t names call def words k

  abbrev ps : Passed t names call def words
  ps = pass t names call def words bound

  abbrev ws : List ℕ
  ws = ps.words

  abbrev rs : List Report
  rs = reports_at t names call def ws

  so_bound : bound_of t names call def (length list) ≡ accepted ws
  unfolding namesakes_of bound_of
  so_bound = go (entry_of t names call def (length list)) found
    where
      go : (a : Answer) → counted (and_then a (λ _. bound_at t names call def)) (reports_at t names call def)
          ≡ accepted (n ∷ []) → and_then a (λ _. bound_at t names call def) ≡ accepted ws
      go (accepted us) e = bound_is t names call def words bound
      go (refused m us) e = never_passed e

  count_is : n ≡ length rs
  unfolding namesakes_of
  count_is = let e : accepted (length rs ∷ []) ≡ accepted (n ∷ []) = rw so_bound at found in cc

  list_is : list_after t names call def list ≡ rows rs ++ drop (length (rows rs)) list
  unfolding list_after
  list_is = rw so_bound (over_front (rows rs) list)

  own_is : (k : ℕ) (a : Labelled) → IsAt qs k a → own k ≡ get_or ws (length fs + k) 0
  own_is k a at = passing.word_is t names call def words ps (length fs + k)
      (omega (arith, within (arguments_at t names call) k a.argument (argument_at t names call k a at)))

  -- the parameter of a name
  sake_at : (x : Name) (q : ℕ) → namesake_of fs (label x) ≡ Some q → Sake fs x q
  unfolding namesake_of
  sake_at x q e =
      let f = ordinary_found fs x 0 q e in
      let same : f.place ≡ q = omega (arith, f.is) in
      rw same at f.sake

  no_sake : (q : ℕ) → namesake_of fs nameless ≡ Some q → ⊥
  unfolding namesake_of
  no_sake q e = never (cc)

  at_sake : (q : ℕ) (p : FlatParam) → IsAt fs q p → Ordinary p → namesake_of fs (label p.name) ≡ Some q
  unfolding namesake_of
  at_sake q p there o = go (ordinary_from 0 p.name fs) refl
    where
      go : (r : Option ℕ) → ordinary_from 0 p.name fs ≡ r → r ≡ Some q
      go (Some i) e =
          let f = ordinary_found fs p.name 0 i e in
          let s : Sake fs p.name f.place = f.sake in
          let same : f.place ≡ q = one_name (list_of t names def) ps.counts ps.outcome f.place q s.param p
          s.there there s.name in
          ap Some (omega (arith, f.is))
      go None e = absurd (ordinary_missed fs p.name 0 e q p there o refl)

  -- an argument that has the name of an ordinary parameter and reaches another is in the list
  pub is_reported : (k : ℕ) (a : Labelled) (q : ℕ) (p : FlatParam) → IsAt qs k a → a.name ≡ label p.name
      → IsAt fs q p → Ordinary p → (own k ≡ q → ⊥)
      → Reported (list_after t names call def list) n
      (node_of a ∷ own k ∷ q ∷ parameter_word t names call def words q ∷ [])
  unfolding reports_at
  is_reported k a q p at name there o far =
      let mine = own_is k a at in
      let r = reported fs ws (length fs) qs k a q at (ap (namesake_of fs) name ∙ at_sake q p there o)
      (λ e. far (mine ∙ e)) in
      let theirs = passing.word_is t names call def words ps q (omega (arith, within fs q p there)) in
      let row : take 4 (drop (4 * r.0) (list_after t names call def list))
      ≡ four_of (row_of fs ws (length fs + k) a q) =
      rw list_is (row_at rs (drop (length (rows rs)) list) r.0 _ r.1) in
      record {
        number = r.0;
        below = omega (arith, count_is, within rs r.0 _ r.1);
        there = row ∙ rw (← mine, ← theirs) refl;
      }

  -- where each reaches its namesake there is no report
  nothing : ((k : ℕ) (a : Labelled) (q : ℕ) (p : FlatParam) → IsAt qs k a → a.name ≡ label p.name
      → IsAt fs q p → Ordinary p → own k ≡ q) → rs ≡ []
  unfolding reports_at
  nothing all = none_if_lem fs ws (length fs) qs (λ k a q at e. sym (own_is k a at) ∙ go k a q at a.name refl e)
    where
      go : (k : ℕ) (a : Labelled) (q : ℕ) → IsAt qs k a → (l : Label) → a.name ≡ l → namesake_of fs l ≡ Some q
          → own k ≡ q
      go k a q at nameless name e = absurd (no_sake q e)
      go k a q at (label x) name e =
          let s = sake_at x q e in
          all k a q s.param at (name ∙ ap label (sym s.name)) s.there s.is

  -- THEOREM: "none is reported exactly when every argument that has the name of an ordinary parameter reaches that
  -- parameter"
  pub none_exactly : (n ≡ 0) ↔ ((k : ℕ) (a : Labelled) (q : ℕ) (p : FlatParam) → IsAt qs k a
      → a.name ≡ label p.name → IsAt fs q p → Ordinary p → own k ≡ q)
  none_exactly = (forth, back)
    where
      forth : n ≡ 0 → (k : ℕ) (a : Labelled) (q : ℕ) (p : FlatParam) → IsAt qs k a → a.name ≡ label p.name
          → IsAt fs q p → Ordinary p → own k ≡ q
      forth none k a q p at name there o = go (eqb (own k) q) refl
        where
          go : (b : Bool) → eqb (own k) q ≡ b → own k ≡ q
          go true e = eqb-true (own k) q e
          go false e =
              let r = is_reported k a q p at name there o (eqb-false (own k) q e) in absurd (omega (arith, r.below))

      back : ((k : ℕ) (a : Labelled) (q : ℕ) (p : FlatParam) → IsAt qs k a → a.name ≡ label p.name
          → IsAt fs q p → Ordinary p → own k ≡ q) → n ≡ 0
      back all = count_is ∙ ap length (nothing all)

  -- THEOREM: "two arguments that are exchanged are both reported"
  pub exchanged_reported : (j l : ℕ) (x : Exchanged t names call def words j l)
      → Reported (list_after t names call def list) n (node_of x.first ∷ own j ∷ own l ∷ node_of x.second ∷ [])
      × Reported (list_after t names call def list) n (node_of x.second ∷ own l ∷ own j ∷ node_of x.first ∷ [])
  exchanged_reported j l x =
      let a = x.first in
      let b = x.second in
      let at = argument_at t names call j a x.first_there in
      let bt = argument_at t names call l b x.second_there in
      let far : own j ≡ own l → ⊥ = λ e.
      x.apart (at_most_one t names call def words bound x.param j l _ _ at bt e x.param_there x.ordinary) in
      let mine : parameter_word t names call def words (own j) ≡ node_of a =
      (halves_agree t names call def words bound (own j) j x.param _ x.param_there x.ordinary at).1 refl in
      let agree = halves_agree t names call def words bound (own l) l x.other in
      let theirs : parameter_word t names call def words (own l) ≡ node_of b =
      (agree _ x.other_there x.other_ordinary bt).1 refl in (
        rw theirs at (is_reported j a (own l) x.other x.first_there x.first_name x.other_there
            x.other_ordinary far),
        rw mine at (is_reported l b (own j) x.param x.second_there x.second_name x.param_there x.ordinary
            (λ e. far (sym e))),
      )
