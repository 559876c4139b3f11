-- One law for each return of the functions that handle a single parameter or argument: whether a node is a Def, the
-- word at a place, what an argument reaches by its place or by its name, the number of one that reaches nothing, and an
-- argument in its turn. The tests before a return are known, so the definition computes. Nothing here recurs. Assumes
-- nothing.
use Rattle.std.specs.Prelude.{Err, Ok, Option, ℕ}
use mathlib.Core.Path.{◌≡◌, refl, sym, ap, ◌∙◌}
use mathlib.Core.Bool.{Bool, true, false, ◌&&◌}
use mathlib.Core.List.{List}
use Prim.Native.Nat.{ℕ, ◌-◌, ◌*◌, ◌/◌, ◌<◌, ◌≤◌}
use lib.ListN.{length, get_or, set, take, drop, get_or-eq_default}
use lib.Seq.{set_out}
use lib.Dec.{eqb}
use borrow.Author.Tests.{lt-ltb, le-ltb, ne_eqb}
use Rattle.fields.proofs.Fields.{tail_part}
use Rattle.fields.specs.Choice.{if'}
use Rattle.forest.specs.Forest.{Node, node_of, span_of, kids_of}
use Rattle.forest.specs.Names.{name_of, same}
use Rattle.forest.proofs.Stretch.{rest_part}
use Rattle.soundness.specs.KindNumbers.{kind_def, kind_positional, kind_named, kind_args_arg}
use Rattle.table.specs.Numbers.{already_filled}
use Rattle.table.specs.Answer.{Answer, refused_at, refusal}
use Rattle.table.specs.declared.Refusal.{Refusal}
use Rattle.deflist.specs.Written.{Name}
use Rattle.parameters.specs.declared.DefParamIndices.{DefParamIndices}
use Rattle.arguments.specs.Written.{kind_at, argument, argument_of}
use Rattle.arguments.specs.declared.Kind.{Kind}
use Rattle.arguments.specs.declared.Kind.TheVariants.{Positional, Named, Args, KwArgs}
use Rattle.arguments.proofs.Steps.{kind_positional_lem, kind_named_lem, kind_args, kind_kwargs}
use Rattle.bind.specs.Binding.{named_from, collected, by_place, by_name, reaches, unreached, turn, is_star}
use Rattle.bind.specs.Job.{is_def}
use Rattle.bind.specs.Reading.{behind_callee, flats_in, stored}
use Rattle.bind.specs.declared.Reach.{Reach}
use Rattle.bind.specs.declared.Reach.TheVariants.{Fills, Joins, Nowhere}

-- a node of the table is a Def by its kind
module _ (t : List ℕ) (i : ℕ) where
  pub def_beyond : length t / 24 ≤ i → false ≡ is_def t i
  unfolding is_def
  def_beyond h = rw (le-ltb i (length t / 24) h) refl

  pub def_here : i < length t / 24 → {k : ℕ} → k ≡ (node_of 0 (take (length t - 24 * i) (drop (24 * i) t))).kind
      → eqb k kind_def ≡ is_def t i
  unfolding is_def
  def_here h k_is = ap (λ (x : ℕ). eqb x kind_def) k_is ∙ rw (tail_part (24 * i) t, lt-ltb i (length t / 24) h) refl

-- what follows a callee
pub behind_part : (t : List ℕ) {kids : List ℕ} {e : ℕ} → kids ≡ kids_of t → e ≡ span_of kids
    → take (length kids - e) (drop e kids) ≡ behind_callee t
unfolding behind_callee
behind_part t {kids} {e} kids_are e-is = rest_part e kids e-is ∙ rw kids_are refl

-- words beyond the last
pub word_beyond : (ws : List ℕ) (i : ℕ) → length ws ≤ i → 0 ≡ get_or ws i 0
word_beyond ws i h = sym (get_or-eq_default ws 0 h)

pub store_beyond : (ws : List ℕ) (i v : ℕ) → length ws ≤ i → ws ≡ set ws i v
store_beyond ws i v h = sym (set_out ws i v h)

-- one that cannot be named has no name to compare
module _ {b n : Bool} (b_is : b ≡ n) where
  pub takes_none : (y : Bool) → b ≡ false → false ≡ (n && y)
  takes_none y h = rw (← b_is, h) refl

  pub takes_tested : b ≡ true → (ns x t : List ℕ) {m : List ℕ} {r : Bool} → m ≡ name_of ns (node_of 0 t) → r ≡ same m x
      → r ≡ (n && same (name_of ns (node_of 0 t)) x)
  takes_tested h ns x t m_is r-is = r-is ∙ rw (← b_is, h, m_is) refl

-- what a place and a name reach
module _ (d : DefParamIndices) (k : ℕ) where
  pub place_fills : k < d.num_positional → Fills k ≡ by_place d k
  place_fills h = rw (lt-ltb k d.num_positional h) refl

  pub place_joins : {r : Reach} → d.num_positional ≤ k → r ≡ collected d.args → r ≡ by_place d k
  place_joins h r-is = r-is ∙ rw (le-ltb k d.num_positional h) refl

-- what an argument reaches, by its kind
module _ (d : DefParamIndices) (ns params : List ℕ) (n : ℕ) (t : List ℕ) {k : ℕ} (k_is : k ≡ (node_of 0 t).kind) where
  pub reach_positional : k ≡ kind_positional → {r : Reach} → r ≡ by_place d n → (i j : ℕ)
      → r ≡ reaches d (flats_in d.num_positional_only ns i params) n (argument_of ns (node_of j t))
  unfolding reaches argument_of
  reach_positional h r-is i j = r-is ∙ rw (← (kind_positional_lem k_is h)) refl

  pub reach_named : k ≡ kind_named → {x : Name} {p : Option ℕ} {r : Reach} → x ≡ name_of ns (node_of 0 t)
      → ((i : ℕ) → p ≡ named_from 0 x (flats_in d.num_positional_only ns i params)) → r ≡ by_name p d.kwargs
      → (i j : ℕ)
      → r ≡ reaches d (flats_in d.num_positional_only ns i params) n (argument_of ns (node_of j t))
  unfolding reaches argument_of name_of
  reach_named h {x} x-is p-is r-is i j =
      r-is ∙ ap (λ (q : Option ℕ). by_name q d.kwargs) (p-is i)
      ∙ rw (← (kind_named_lem k_is h), x-is) refl

  pub reach_nowhere : (k ≡ kind_positional → ⊥) → (k ≡ kind_named → ⊥) → (i j : ℕ)
      → Nowhere ≡ reaches d (flats_in d.num_positional_only ns i params) n (argument_of ns (node_of j t))
  unfolding reaches argument_of kind_at
  reach_nowhere e f i j =
      let kind : kind_at (node_of 0 t).kind ≡ if' (eqb k kind_args_arg) (λ _. Args) (λ _. KwArgs) = rw
      (← k_is, ne_eqb k kind_positional e, ne_eqb k kind_named f) refl in
      rw kind (go (eqb k kind_args_arg) (node_of j t) (name_of ns (node_of j t)))
    where
      go : (b : Bool) (x : Node) (m : Name)
          → Nowhere ≡ reaches d (flats_in d.num_positional_only ns i params) n
          (argument (if' b (λ _. Args) (λ _. KwArgs)) x m)
      go true x m = refl
      go false x m = refl

-- the number of one that reaches nothing, and whether it is a star
module _ {k m : ℕ} (k_is : k ≡ m) where
  pub unreached_positional : k ≡ kind_positional → unreached Positional ≡ unreached (kind_at m)
  unreached_positional h = ap unreached (kind_positional_lem k_is h)

  pub unreached_named : k ≡ kind_named → unreached Named ≡ unreached (kind_at m)
  unreached_named h = ap unreached (kind_named_lem k_is h)

  pub unreached_args : k ≡ kind_args_arg → unreached Args ≡ unreached (kind_at m)
  unreached_args h = ap unreached (kind_args k_is h)

  pub unreached_kwargs : (k ≡ kind_positional → ⊥) → (k ≡ kind_named → ⊥) → (k ≡ kind_args_arg → ⊥)
      → unreached KwArgs ≡ unreached (kind_at m)
  unreached_kwargs d e f = ap unreached (kind_kwargs k_is d e f)

  pub star_positional : k ≡ kind_positional → false ≡ is_star (kind_at m)
  star_positional h = ap is_star (kind_positional_lem k_is h)

  pub star_named : k ≡ kind_named → false ≡ is_star (kind_at m)
  star_named h = ap is_star (kind_named_lem k_is h)

  pub star_args_lem : k ≡ kind_args_arg → true ≡ is_star (kind_at m)
  star_args_lem h = ap is_star (kind_args k_is h)

  pub star_kwargs : (k ≡ kind_positional → ⊥) → (k ≡ kind_named → ⊥) → (k ≡ kind_args_arg → ⊥)
      → true ≡ is_star (kind_at m)
  star_kwargs d e f = ap is_star (kind_kwargs k_is d e f)

-- an argument in its turn
module _ (place i : ℕ) (k : Kind) (r : Node) (ws : List ℕ) {w : ℕ} (w-is : w ≡ get_or ws i 0) where
  pub turn_taken : 0 < w → (why : Refusal) → refusal why ≡ refused_at already_filled r
      → stored (Err why) ws ≡ turn place (Fills i) k r ws
  unfolding turn stored
  turn_taken h why a-is = a-is ∙ rw (← w-is, lt-ltb 0 w h) refl

  pub turn_fills : w ≤ 0 → {us vs : List ℕ} → us ≡ set ws i r.at → vs ≡ set us place i
      → stored (Ok tt) vs ≡ turn place (Fills i) k r ws
  unfolding turn stored
  turn_fills h us-are vs-are = rw (← w-is, le-ltb 0 w h, vs-are, us-are) refl

module _ (place : ℕ) (k : Kind) (r : Node) (ws : List ℕ) {x : Reach} where
  pub turn_filling : {i : ℕ} → x ≡ Fills i → {a : Answer} → a ≡ turn place (Fills i) k r ws → a ≡ turn place x k r ws
  turn_filling h a-is = rw h a-is

  pub turn_joins : {i : ℕ} → x ≡ Joins i → {vs : List ℕ} → vs ≡ set ws place i
      → stored (Ok tt) vs ≡ turn place x k r ws
  unfolding turn stored
  turn_joins h vs-are = rw (h, vs-are) refl

  pub turn_nowhere : x ≡ Nowhere → {n : ℕ} → n ≡ unreached k → (why : Refusal) → refusal why ≡ refused_at n r
      → stored (Err why) ws ≡ turn place x k r ws
  unfolding turn stored
  turn_nowhere h n_is why a-is = a-is ∙ rw (h, n_is) refl
