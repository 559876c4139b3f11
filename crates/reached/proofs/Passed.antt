-- What an accepted binding has passed: the entry, the def's list, the call's arguments, the search for a star, the walk
-- and the search for an empty parameter (`Passed`, shown by `passed`: one step after the other is accepted, or the
-- whole is not). The list at exit is the words of the walk and behind them what was there, so each word of the answer
-- is a word of the walk (`word_is`), and each argument's word is the index that it reaches (`reached_is`, from Walk's
-- `own_word`). Theorems on accepted bindings begin with `passed`. Assumes nothing.
use mathlib.Core.Path.{◌≡◌, refl, ap, ◌∙◌}
use mathlib.Core.List.{List, ◌++◌}
use Prim.Native.Nat.{ℕ, ◌+◌, ◌<◌, ◌≤◌}
use native.Mathlib.Omega.{arith}
use lib.ListN.{length, get_or, drop, length-replicate, get_or-append}
use Rattle.forest.specs.Forest.{node_of}
use Rattle.table.specs.Answer.{Answer, accepted, refused, and_then}
use Rattle.table.specs.Check.{stretch_of}
use Rattle.table.proofs.Answers.{never_passed, passed_both}
use Rattle.deflist.specs.Written.{Param}
use Rattle.deflist.specs.Unpack as outcome
use Rattle.deflist.specs.Unpack.{unpack}
use Rattle.deflist.specs.Limited.{most_parameters, limited}
use Rattle.deflist.proofs.Limited.{limited_accepted}
use Rattle.deflist.specs.declared.Counts.{Counts}
use Rattle.parameters.specs.Indices.{counted_of}
use Rattle.parameters.specs.Params.{list_of}
use Rattle.parameters.specs.declared.DefParamIndices.{DefParamIndices}
use Rattle.arguments.specs.Written.{Argument}
use Rattle.arguments.specs.Call as calling
use Rattle.arguments.specs.Job.{outcome_answer}
use Rattle.bind.specs.FlatList.{FlatParam, flats}
use Rattle.bind.specs.Binding.{reaches, and_with, along, star_check}
use Rattle.bind.specs.Binding.{empty_check, binding}
use Rattle.bind.specs.Job.{counting, no_words, lists_bound, arguments_at, entry_of, words_of, answered_at, bind_of}
use Rattle.bind.specs.Job.{list_after}
use Rattle.bind.specs.declared.Reach.TheVariants.{Fills}
use Rattle.bind.proofs.Entry.{Entered, entered}
use Rattle.reached.specs.Said.{IsAt}
use Rattle.reached.proofs.Walk.{Index, Nodes, along_long, own_word}
use Rattle.reached.proofs.Params.{within}
use Rattle.reached.proofs.Reaching as reaching
use Rattle.reached.proofs.Nodes.{Rising, call_rising, call_nodes}

-- a check that is passed, and the next with its values
with_passed : (a : Answer) (next : List ℕ → Answer) {vs : List ℕ} → and_with a next ≡ accepted vs
    → (us : List ℕ) × (a ≡ accepted us) × (next us ≡ accepted vs)
with_passed (accepted us) next e = (us, refl, e)
with_passed (refused n us) next e = never_passed e

module _ (t ns : List ℕ) (call def : ℕ) (list : List ℕ) where
  abbrev fs : List FlatParam
  fs = flats (list_of t ns def)

  abbrev qs : List Argument
  qs = arguments_at t ns call

  -- the walk along the arguments, with no words yet
  abbrev walk : Counts → Answer
  walk c = along (counted_of c).flat (counted_of c).indices fs 0 (no_words (counted_of c) qs) qs

  -- what an accepted binding has passed
  pub record Passed : Type 0 where
    pub entry : Entered t ns call def (length list)
    pub counts : Counts
    pub short : length (list_of t ns def) ≤ most_parameters
    pub outcome : unpack (list_of t ns def) ≡ outcome.accepted counts
    pub call_values : List ℕ
    pub in_order : outcome_answer (calling.unpack qs) ≡ accepted call_values
    pub stars : List ℕ
    pub no_star : star_check qs ≡ accepted stars
    pub words : List ℕ
    pub walked : walk counts ≡ accepted words
    pub empties : List ℕ
    pub no_empty : empty_check 0 fs words ≡ accepted empties
    pub exit : list_after t ns call def list ≡ words ++ drop (length words) list

  -- the three steps of an accepted binding: no star, the walk, no empty parameter
  record Bound (c : Counts) (ws : List ℕ) : Type 0 where
    stars : List ℕ
    no_star : star_check qs ≡ accepted stars
    walked : walk c ≡ accepted ws
    empties : List ℕ
    no_empty : empty_check 0 fs ws ≡ accepted empties

  bound : (c : Counts) {ws : List ℕ} → binding (counted_of c) fs (no_words (counted_of c) qs) qs ≡ accepted ws
      → Bound c ws
  unfolding binding
  bound c {ws} b =
      let star = passed_both (star_check qs) _ b in
      let along = with_passed (walk c) _ star.2 in
      let empty = passed_both (empty_check 0 fs along.0) _ along.2 in
      let same : accepted along.0 ≡ accepted ws = empty.2 in
      let these : ws ≡ along.0 = cc in
      record {
        stars = star.0;
        no_star = star.1;
        walked = along.1 ∙ same;
        empties = empty.0;
        no_empty = ap (empty_check 0 fs) these ∙ empty.1;
      }

  -- what is passed, once the lists keep their own rules
  passed_binding : Entered t ns call def (length list) → (c : Counts)
      → limited (node_of def (stretch_of t def)) (list_of t ns def) ≡ outcome.accepted c → {cs ws : List ℕ}
      → outcome_answer (calling.unpack qs) ≡ accepted cs
      → binding (counted_of c) fs (no_words (counted_of c) qs) qs ≡ accepted ws
      → list_after t ns call def list ≡ ws ++ drop (length ws) list → Passed
  passed_binding n c u {cs} {ws} o b x = let steps = bound c b in record {
    entry = n;
    counts = c;
    short = (limited_accepted _ (list_of t ns def) u).0;
    outcome = (limited_accepted _ (list_of t ns def) u).1;
    call_values = cs;
    in_order = o;
    stars = steps.stars;
    no_star = steps.no_star;
    words = ws;
    walked = steps.walked;
    empties = steps.empties;
    no_empty = steps.no_empty;
    exit = x;
  }

  -- the lists, which keep their own rules
  passed_lists : Entered t ns call def (length list) → (o : outcome.Outcome)
      → limited (node_of def (stretch_of t def)) (list_of t ns def) ≡ o
      → {ws : List ℕ} → counting o (λ c. and_then (outcome_answer (calling.unpack qs)) (λ _.
      binding c fs (no_words c qs) qs)) ≡ accepted ws
      → list_after t ns call def list ≡ ws ++ drop (length ws) list → Passed
  passed_lists n (outcome.accepted c) u b x =
      let k = passed_both (outcome_answer (calling.unpack qs)) _ b in
      passed_binding n c u k.1 k.2 x
  passed_lists n (outcome.refused m r) u b x = never_passed b
  passed_lists n (outcome.repeated i r) u b x = never_passed b
  passed_lists n (outcome.internal m r) u b x = never_passed b

  -- LAW: an accepted binding has passed every step
  pub passed : {vs : List ℕ} → bind_of t ns call def (length list) ≡ accepted vs → Passed
  unfolding bind_of words_of lists_bound list_after
  passed {vs} e = by_words (words_of t ns call def (length list)) refl e
    where
      by_words : (a : Answer) → words_of t ns call def (length list) ≡ a → answered_at a t ns call def ≡ accepted vs
          → Passed
      by_words (refused n us) w e = never_passed e
      by_words (accepted ws) w e =
          let k = passed_both (entry_of t ns call def (length list)) _ w in
          let x : list_after t ns call def list ≡ ws ++ drop (length ws) list = rw w refl in
          passed_lists (entered t ns call def (length list) k.1)
          (limited (node_of def (stretch_of t def)) (list_of t ns def)) refl k.2 x

-- the words of the list at exit
module _ (t ns : List ℕ) (call def : ℕ) (list : List ℕ) (p : Passed t ns call def list) where
  abbrev ps : List Param
  ps = list_of t ns def

  abbrev pub d : DefParamIndices
  d = (counted_of p.counts).indices

  flat_is_lem : (counted_of p.counts).flat ≡ length (flats ps)
  flat_is_lem = reaching.flat_is_lem ps p.counts p.outcome

  pub small : (k : ℕ) (a : Argument) (i : ℕ) → reaches d (flats ps) k a ≡ Fills i → i < (counted_of p.counts).flat
  small = reaching.small ps p.counts p.outcome

  -- the words of the list at exit are those of the walk
  abbrev pub none_yet : List ℕ
  none_yet = no_words (counted_of p.counts) (arguments_at t ns call)

  pub long : length p.words ≡ length (flats ps) + length (arguments_at t ns call)
  long = along_long (counted_of p.counts).flat d (flats ps) small 0 none_yet (arguments_at t ns call) p.words
      p.walked ∙ length-replicate ((counted_of p.counts).flat + length (arguments_at t ns call)) 0
      ∙ ap (λ (n : ℕ). n + length (arguments_at t ns call)) flat_is_lem

  pub word_is : (i : ℕ) → i < length (flats ps) + length (arguments_at t ns call)
      → get_or (list_after t ns call def list) i 0 ≡ get_or p.words i 0
  word_is i h = ap (λ (l : List ℕ). get_or l i 0) p.exit
      ∙ get_or-append p.words (drop (length p.words) list) 0 i (omega (arith, long))

  pub rise : Rising (call_rising t ns call).first (arguments_at t ns call)
  rise = (call_rising t ns call).rising

  pub nodes : Nodes (arguments_at t ns call)
  nodes = call_nodes t ns call

  pub enough : (counted_of p.counts).flat + 0 + length (arguments_at t ns call) ≤ length none_yet
  enough = omega (arith, length-replicate {A = ℕ} ((counted_of p.counts).flat + length (arguments_at t ns call)) 0)

  -- LAW: each argument's word is what it reaches
  pub reached_is : (k : ℕ) (a : Argument) → IsAt (arguments_at t ns call) k a
      → Index (reaches d (flats ps) k a) (get_or (list_after t ns call def list) (length (flats ps) + k) 0)
  reached_is k a at =
      let zero_more : 0 + k ≡ k = omega arith in
      let h = within (arguments_at t ns call) k a at in
      let w = own_word (counted_of p.counts).flat d (flats ps) small 0 none_yet (arguments_at t ns call) p.words
      p.walked enough k a at in
      rw (word_is (length (flats ps) + k) (omega arith)) (rw (zero_more, flat_is_lem) at w)
