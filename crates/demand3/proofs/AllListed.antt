-- In a sound table the written list of a def or lambda is every parameter among its children, in order, and nothing
-- else (`all_listed`). The list takes the parameters at the front of the children. A sound def has classes as its row
-- says: parameters first, then perhaps a return type and its body, none of which is a parameter (`def_classes`,
-- `lambda_classes`, from soundness's `node_classes`). So taking those at the front takes all (`leading`; the induction
-- is on their number).
use mathlib.Core.Path.{◌≡◌, refl, sym, ap, ◌∙◌}
use mathlib.Core.Bool.{Bool, true, false}
use mathlib.Core.Logic.{◌⊎◌, inl, inr}
use mathlib.Core.List.{List, [], ◌∷◌, ◌++◌, map}
use Prim.Native.Nat.{ℕ, zero, suc, ◌+◌, ◌-◌, ◌*◌, ◌/◌, ◌<◌}
use lib.ListN.{length, drop, replicate}
use lib.Dec.{eqb}
use borrow.Author.Tests.{eq-eqb}
use Rattle.fields.proofs.Basics.{never}
use Rattle.fields.specs.Choice.{if'}
use Rattle.forest.specs.Forest.{node_of, kids_of, node, Forest, none, ◌then◌, forest}
use Rattle.soundness.specs.KindNumbers.{kind_def, kind_lambda}
use Rattle.soundness.specs.Kinds.{statement, expression, parameter, if_detail, kind_in, kind_of, class_of}
use Rattle.soundness.specs.Sound.{classes, wanted, context_of}
use Rattle.soundness.proofs.SoundTables.{node_classes, sound_first}
use Rattle.table.specs.Answer.{accepted}
use Rattle.table.specs.Check.{check_of, stretch_of}
use Rattle.table.specs.declared.Wanted.TheVariants.{Parameters}
use Rattle.table.proofs.Checking.{Clean, accepted_clean, stretch_sound, kind_kept}
use Rattle.table.proofs.Handed.{stretch_within}
use Rattle.deflist.specs.Written.{Param, param_of, params_in, written}
use Rattle.parameters.specs.Params.{list_of}
use Rattle.demand3.specs.Given.{parameters_in, all_parameters}
use Rattle.demand3.proofs.OverTheJob.{list_fits}

-- classes among which no parameter is
abbrev NoParameter : List ℕ → Type 0
NoParameter [] = Unit {0}
NoParameter (c ∷ cs) = (eqb c parameter ≡ false) × NoParameter cs

none_in : (f : Forest) → NoParameter (classes f) → parameters_in f ≡ []
unfolding classes parameters_in
none_in none h = refl
none_in (node r ks then f) (a, b) = rw a (none_in f b)

none_listed : (names : List ℕ) (f : Forest) → NoParameter (classes f) → params_in names f ≡ []
unfolding classes params_in
none_listed names none h = refl
none_listed names (node r ks then f) (a, b) = rw a refl

-- parameters, and behind them none
leading : (names : List ℕ) (n : ℕ) (back : List ℕ) (f : Forest) → NoParameter back
    → classes f ≡ replicate n parameter ++ back
    → params_in names f ≡ map (param_of names) (parameters_in f)
unfolding classes params_in parameters_in
leading names zero back f h e =
    let no : NoParameter (classes f) = rw e h in
    none_listed names f no ∙ sym (ap (map (param_of names)) (none_in f no))
leading names (suc n) back none h e = never (cc)
leading names (suc n) back (node r ks then f) h e =
    let c : class_of r.kind ≡ parameter = cc in
    let rest : classes f ≡ replicate n parameter ++ back = cc in
    rw (eq-eqb (class_of r.kind) parameter c)
    (ap (λ (l : List Param). param_of names r ∷ l) (leading names n back f h rest))

module _ (t names : List ℕ) (i : ℕ) (sound : check_of t names ≡ accepted []) (within : i < length t / 24)
    (def_or_lambda : ((node_of i (drop (24 * i) t)).kind ≡ kind_def)
    ⊎ ((node_of i (drop (24 * i) t)).kind ≡ kind_lambda)) where
  clean : Clean t names
  clean = accepted_clean t names sound

  abbrev kids : Forest
  kids = forest (i + 1) (kids_of (stretch_of t i))

  -- the classes of its children are those that its row requires of this number of children
  here_classes : classes kids
      ≡ wanted ((kind_of (node_of i (stretch_of t i)).kind).kids (node_of i (stretch_of t i)).detail)
      (length (classes kids))
  here_classes =
      let long = (stretch_within t names i Parameters clean (list_fits t i within def_or_lambda)).0 in
      node_classes (context_of t names i) (node_of i (stretch_of t i)) kids
      (sound_first (context_of t names) i (stretch_of t i) (stretch_sound clean i within) long)

  abbrev back : ℕ → List ℕ
  back d = if_detail d 1 1 ++ statement ∷ []

  -- behind the parameters of a def come its return type and its body
  no_parameter_back : (d : ℕ) → NoParameter (back d)
  no_parameter_back d = go (eqb d 1)
    where
      go : (b : Bool)
          → NoParameter (if' b (λ _. expression ∷ []) (λ _. if' b (λ _. expression ∷ []) (λ _. [])) ++ statement ∷ [])
      go true = (refl, (refl, tt))
      go false = (refl, tt)

  def_classes : (node_of i (drop (24 * i) t)).kind ≡ kind_def
      → (n : ℕ) × (classes kids ≡ replicate n parameter ++ back (node_of i (stretch_of t i)).detail)
  unfolding wanted kind_of kind_in
  def_classes e = (
    length (classes kids) - (0 + length (back (node_of i (stretch_of t i)).detail)),
    rw (kind_kept clean i within ∙ e) at here_classes,
  )

  lambda_classes : (node_of i (drop (24 * i) t)).kind ≡ kind_lambda
      → (n : ℕ) × (classes kids ≡ replicate n parameter ++ expression ∷ [])
  unfolding wanted kind_of kind_in
  lambda_classes e = (length (classes kids) - 1, rw (kind_kept clean i within ∙ e) at here_classes)

  -- THEOREM: no parameter of the def or lambda is missing from the written list, and nothing else is in it
  pub all_listed : list_of t names i ≡ all_parameters t names i
  unfolding list_of written
  all_listed = go def_or_lambda
    where
      go : ((node_of i (drop (24 * i) t)).kind ≡ kind_def) ⊎ ((node_of i (drop (24 * i) t)).kind ≡ kind_lambda)
          → params_in names kids ≡ map (param_of names) (parameters_in kids)
      go (inl e) =
          let c = def_classes e in
          let d : ℕ = (node_of i (stretch_of t i)).detail in
          leading names c.0 (back d) kids (no_parameter_back d) c.1
      go (inr e) = let c = lambda_classes e in leading names c.0 (expression ∷ []) kids (refl, tt) c.1
