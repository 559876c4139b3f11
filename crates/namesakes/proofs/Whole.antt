-- The reports of a call and a def in a table, and the job, return by return, in the terms of code. A call and a def
-- that pass the job's entry pass that of the binding too, because its 4,200 words are enough for any two nodes
-- (`enters`). Their binding is then the same (`words_same`). The words that `bind` leaves in zeros are those of the
-- binding, and 0 behind them, so that both say the same of every place (`padded`), and the reports are the same
-- (`reads_same`). Assumes nothing.
use Rattle.std.specs.Prelude.{Err, None, Ok, Option, Result, Some, ℕ}
use mathlib.Core.Path.{◌≡◌, refl, sym, ap, ◌∙◌}
use mathlib.Core.Bool.{Bool, true, false}
use mathlib.Core.List.{List, [], ◌∷◌, ◌++◌}
use Prim.Native.Nat.{ℕ, zero, suc, ◌+◌, ◌-◌, ◌*◌, ◌/◌, ◌<◌, ◌≤◌}
use native.Mathlib.Omega.{arith}
use lib.ListN.{length, get_or, take, drop, replicate, length-replicate}
use lib.Seq.{get_or-drop}
use lib.Dec.{leb}
use borrow.Author.Tests.{leb-true}
use Rattle.fields.specs.Choice.{if'}
use Rattle.forest.specs.Forest.{span_of, kids_of, forest}
use Rattle.forest.proofs.Stretch.{length_kids, length_rest}
use Rattle.table.specs.Numbers.{wrong_node, short_buffer}
use Rattle.table.specs.Answer.{Answer, accepted, refused, and_then, refusal, checked}
use Rattle.table.specs.Check.{most_bytes, Within, stretch_of, entry_check}
use Rattle.table.specs.declared.Refusal.{Refusal}
use Rattle.table.specs.declared.Wanted.TheVariants.{Call}
use Rattle.table.proofs.Answers.{never_accepted, never_passed}
use Rattle.table.proofs.Entering.{entry_sound}
use Rattle.deflist.specs.Written.{written}
use Rattle.deflist.proofs.Theorems.{written_short}
use Rattle.parameters.specs.Params.{list_of}
use Rattle.bind.specs.FlatList.{FlatParam, flats}
use Rattle.bind.specs.Job as binding
use Rattle.bind.specs.Job.{is_def, arguments_at, words_of, answered_at, bind_of, bound}
use Rattle.bind.specs.Reading.{Behind, behind_callee}
use Rattle.bind.specs.declared.Bound.{Bound}
use Rattle.bind.proofs.Lists.{flats_short}
use Rattle.bind.proofs.Steps.{behind_part}
use Rattle.bind.proofs.Entry.{args_counted, args_few, Entered, entered, def_stretch, call_stretch, table_short}
use Rattle.arguments.specs.Written.{arguments_in}
use Rattle.bind.proofs.Room.{room_enough}
use Rattle.namesakes.specs.Namesake.{Labelled, labelled_in, Report, report_of, reports_from}
use Rattle.namesakes.specs.Job as job
use Rattle.namesakes.specs.Job.{labelled_at, entry_of, bound_at, bound_of, reports_at, namesakes_of, laid}
use Rattle.namesakes.specs.Job.{list_after}
use Rattle.namesakes.specs.Reading.{flats_of, Ready}
use Rattle.namesakes.proofs.Lists.{bare, labelled_behind, same_of}

-- LAW: a call has as many arguments with names as arguments
pub labelled_many : (t ns : List ℕ) (i : ℕ) → bare (labelled_at t ns i) ≡ arguments_at t ns i
unfolding labelled_at arguments_at
labelled_many t ns i = same_of ns _

-- the arguments of the call at a node, counted
module _ (t : List ℕ) (call : ℕ) {u kids : List ℕ} {e : ℕ} (u-is : u ≡ stretch_of t call) (kids_are : kids ≡ kids_of u)
    (e-is : e ≡ span_of kids) (r : ℕ) where
  pub count_told : ((ns : List ℕ) (i : ℕ)
      → r ≡ length (arguments_in ns (forest i (take (length kids - e) (drop e kids)))))
      × (24 * r ≤ length (take (length kids - e) (drop e kids)))
      → ((ns : List ℕ) → r ≡ length (arguments_at t ns call)) × (24 * r ≤ length t)
  count_told (all, few) = (
    args_counted t call u-is r (behind_part u kids_are e-is) all,
    args_few t call u-is r (behind_part u kids_are e-is) few,
  )

-- what follows a callee lies within the table
behind_within : (call : ℕ) (u : List ℕ) → Within call u
    → 24 * (call + 1 + span_of (kids_of u) / 24) + length (behind_callee u) ≤ 50424
unfolding behind_callee
behind_within call u h = omega (arith, length_kids u, length_rest (kids_of u))

-- the reports of a call and a def: the parts of the table that are read lie within it, and hold what is reported
module _ {t ns : List ℕ} {call def n : ℕ} (k : Ready t ns call def n) {flat : ℕ}
    (flat_is_lem : flat ≡ length (flats (list_of t ns def))) {s u : List ℕ} (s-is : s ≡ stretch_of t def)
    (u-is : u ≡ stretch_of t call) {params kids : List ℕ} (params_are : params ≡ kids_of s)
    (kids_are : kids ≡ kids_of u) {e : ℕ} (e-is : e ≡ span_of kids) where
  abbrev first : ℕ
  first = call + 1 + e / 24

  abbrev args : List ℕ
  args = take (length kids - e) (drop e kids)

  args_are : args ≡ behind_callee u
  args_are = behind_part u kids_are e-is

  arguments : labelled_in ns (forest first args) ≡ labelled_at t ns call
  unfolding labelled_at
  arguments = rw (args_are, e-is, kids_are, ← u-is) (labelled_behind ns call u)

  parameters : flats_of ns (def + 1) params ≡ flats (list_of t ns def)
  unfolding flats_of list_of written
  parameters = rw (params_are, s-is) refl

  args_within : 24 * first + length args ≤ 50424
  args_within = rw (args_are, e-is, kids_are) (behind_within call u (rw u-is k.call_within))

  flat_few : flat ≤ 50400
  unfolding list_of
  flat_few = omega (
    arith,
    flats_short (list_of t ns def),
    k.def_within,
    written_short ns def (stretch_of t def),
  )

  pub report_fits : (Behind first args × (length params ≤ most_bytes) × (flat ≤ most_bytes))
      × (4 * length (labelled_in ns (forest first args)) ≤ n)
  report_fits = (
    (
      args_within,
      omega (arith, k.def_within, ap length s-is, length_kids s, ap length params_are),
      flat_few,
    ),
    rw arguments
        (omega (arith, k.room, length_bare (labelled_at t ns call), ap length (labelled_many t ns call))),
  )
    where
      length_bare : (l : List Labelled) → length (bare l) ≡ length l
      length_bare [] = refl
      length_bare (a ∷ l) = omega (arith, length_bare l)

  pub report_small : {r : ℕ} → 24 * r ≤ length args → r < 4294967296
  report_small h = omega (arith, args_within)

  pub report_told : (ws list : List ℕ) {list' : List ℕ} {r : ℕ}
      → ((i : ℕ) → r ≡ length (reports_from (flats_of ns i params) ws flat (labelled_in ns (forest first args))))
      → ((i : ℕ) → list'
      ≡ job.written (reports_from (flats_of ns i params) ws flat (labelled_in ns (forest first args))) list)
      → (r ≡ length (reports_at t ns call def ws)) × (list' ≡ job.written (reports_at t ns call def ws) list)
  unfolding reports_at
  report_told ws list r-is list_is =
      let same : reports_from (flats_of ns (def + 1) params) ws flat (labelled_in ns (forest first args))
      ≡ reports_from (flats (list_of t ns def)) ws (length (flats (list_of t ns def))) (labelled_at t ns call) =
      rw (parameters, arguments, flat_is_lem) refl in
      (r-is (def + 1) ∙ ap length same, list_is (def + 1) ∙ ap (λ (rs : List Report). job.written rs list) same)

-- words that agree at every place give the same reports
module _ (vs ws : List ℕ) (agree : (i : ℕ) → get_or vs i 0 ≡ get_or ws i 0) where
  one_same : (at place : ℕ) (q : Option ℕ)
      → report_of vs at (get_or vs place 0) q ≡ report_of ws at (get_or ws place 0) q
  unfolding report_of
  one_same at place None = refl
  one_same at place (Some q) = rw (agree place, agree q) refl

  pub reads_same : (fs : List FlatParam) (place : ℕ) (qs : List Labelled)
      → reports_from fs vs place qs ≡ reports_from fs ws place qs
  unfolding reports_from
  reads_same fs place [] = refl
  reads_same fs place (a ∷ qs) = rw (one_same _ place _, reads_same fs (place + 1) qs) refl

-- words with zeros behind them
zeros : (n i : ℕ) → get_or (replicate {A = ℕ} n 0) i 0 ≡ 0
zeros zero i = refl
zeros (suc n) zero = refl
zeros (suc n) (suc i) = zeros n i

pub padded : (ws : List ℕ) (n i : ℕ) → get_or (ws ++ drop (length ws) (replicate n 0)) i 0 ≡ get_or ws i 0
padded ws n i = go ws (drop (length ws) (replicate n 0))
    (λ j. get_or-drop (length ws) (replicate n 0) j 0 ∙ zeros n (length ws + j)) i
  where
    go : (ws zs : List ℕ) → ((j : ℕ) → get_or zs j 0 ≡ 0) → (i : ℕ) → get_or (ws ++ zs) i 0 ≡ get_or ws i 0
    go [] zs z i = z i
    go (w ∷ ws) zs z zero = refl
    go (w ∷ ws) zs z (suc i) = go ws zs z i

-- LAW: what passes the entry passes that of the binding, and has room
pub enters : (t ns : List ℕ) (call def room : ℕ) {vs : List ℕ} → entry_of t ns call def room ≡ accepted vs
    → (binding.entry_of t ns call def 4200 ≡ accepted []) × (4 * length (arguments_at t ns call) ≤ room)
unfolding entry_of binding.entry_of
enters t ns call def room {vs} e = go (entry_check Call t ns call) (is_def t def)
    (leb (4 * length (arguments_at t ns call)) room) refl refl refl e
  where
    go : (a : Answer) (b l : Bool) → entry_check Call t ns call ≡ a → is_def t def ≡ b
        → leb (4 * length (arguments_at t ns call)) room ≡ l
        → and_then a (λ _. and_then (if' b (λ _. accepted []) (λ _. refused wrong_node []))
        (λ _. if' l (λ _. accepted []) (λ _. refused short_buffer []))) ≡ accepted vs
        → (and_then a (λ _. and_then (if' b (λ _. accepted []) (λ _. refused wrong_node []))
        (λ _. binding.room_check 4200 (list_of t ns def) (arguments_at t ns call))) ≡ accepted [])
        × (4 * length (arguments_at t ns call) ≤ room)
    go (accepted us) true true a-is b_is l-is h =
        (room_enough t ns (entry_sound Call t ns call a-is).0 call def, leb-true _ room l-is)
    go (accepted us) true false a-is b_is l-is h = never_passed h
    go (accepted us) false l a-is b_is l-is h = never_passed h
    go (refused n us) b l a-is b_is l-is h = never_passed h

-- what is known then
module _ (t ns : List ℕ) (call def room : ℕ) (e : entry_of t ns call def room ≡ accepted []) where
  ent : Entered t ns call def 4200
  ent = entered t ns call def 4200 (enters t ns call def room e).0

  pub ready : Ready t ns call def room
  ready = record {
    short = table_short ent;
    call_within = (call_stretch ent).1;
    def_within = (def_stretch ent).1;
    room = (enters t ns call def room e).1;
  }

  -- LAW: the binding is the same
  pub words_same : words_of t ns call def 4200 ≡ bound_of t ns call def room
  unfolding words_of bound_of bound_at
  words_same = rw ((enters t ns call def room e).0, e) refl

  -- an accepted binding of the code, in its words
  pub record Bind (flat : ℕ) (words : List ℕ) : Type 0 where
    pub own : List ℕ
    pub is : bound_of t ns call def room ≡ accepted own
    pub flat_is_lem : flat ≡ length (flats (list_of t ns def))
    pub words_are : words ≡ own ++ drop (length own) (replicate 4200 0)

  module _ (x : Result Bound Refusal) {space words : List ℕ} (space-is : space ≡ replicate 4200 0)
      (x-is : (bound x ≡ bind_of t ns call def (length space))
      × (words ≡ binding.list_after t ns call def space)) where
    abbrev b : Answer
    b = bound_of t ns call def room

    all : length space ≡ 4200
    all = ap length space-is ∙ length-replicate {A = ℕ} 4200 0

    told : bound x ≡ answered_at b t ns call def
    unfolding bind_of
    told = x-is.0 ∙ rw (all, words_same) refl

    left : words ≡ binding.laid b (replicate 4200 0)
    unfolding binding.list_after
    left = x-is.1 ∙ rw (all, words_same, space-is) refl

    pub bind_told : {found : Bound} → x ≡ Ok found → Bind found.flat words
    bind_told {found} h = go b refl (rw h at told) left
      where
        go : (a : Answer) → bound_of t ns call def room ≡ a
            → accepted (found.flat ∷ found.many ∷ []) ≡ answered_at a t ns call def
            → words ≡ binding.laid a (replicate 4200 0) → Bind found.flat words
        go (accepted ws) a-is e w = record { own = ws; is = a-is; flat_is_lem = cc; words_are = w }
        go (refused n vs) a-is e w = never_passed (sym e)

    pub bind_refused : {why : Refusal} → x ≡ Err why → bound_of t ns call def room ≡ refusal why
    bind_refused {why} h = go b (rw h at told)
      where
        go : (a : Answer) → refusal why ≡ answered_at a t ns call def → a ≡ refusal why
        go (accepted ws) e = never_accepted why e
        go (refused n vs) e = sym e

-- the job, return by return
module _ (t ns : List ℕ) (call def : ℕ) (list : List ℕ) where
  refused_told : (why : Refusal) → bound_of t ns call def (length list) ≡ refusal why
      → (refusal why ≡ namesakes_of t ns call def (length list)) × (list ≡ list_after t ns call def list)
  unfolding namesakes_of list_after
  refused_told why h = rw h (refl, refl)

  pub entry_refused : {x : Result (Unit {0}) Refusal} → checked x ≡ entry_of t ns call def (length list)
      → {why : Refusal}
      → x ≡ Err why
      → (refusal why ≡ namesakes_of t ns call def (length list)) × (list ≡ list_after t ns call def list)
  unfolding bound_of
  entry_refused x-is {why} h = refused_told why
      (let told : entry_of t ns call def (length list) ≡ refusal why = sym x-is ∙ ap checked h in rw told refl)

  pub entry_passed : {x : Result (Unit {0}) Refusal} → checked x ≡ entry_of t ns call def (length list) → x ≡ Ok tt
      → entry_of t ns call def (length list) ≡ accepted []
  entry_passed x-is h = sym x-is ∙ ap checked h

  module _ (e : entry_of t ns call def (length list) ≡ accepted []) (x : Result Bound Refusal) {space words : List ℕ}
      (space-is : space ≡ replicate 4200 0)
      (x-is : (bound x ≡ bind_of t ns call def (length space)) × (words ≡ binding.list_after t ns call def space)) where
    pub bound_refused : {why : Refusal} → x ≡ Err why
        → (refusal why ≡ namesakes_of t ns call def (length list)) × (list ≡ list_after t ns call def list)
    bound_refused {why} h = refused_told why (bind_refused t ns call def (length list) e x space-is x-is h)

    module _ {b : Bound} (h : x ≡ Ok b) where
      made : Bind t ns call def (length list) e b.flat words
      made = bind_told t ns call def (length list) e x space-is x-is h

      pub bound_ready : Ready t ns call def (length list) × (b.flat ≡ length (flats (list_of t ns def)))
      bound_ready = (ready t ns call def (length list) e, made.flat_is_lem)

      reports_same : reports_at t ns call def words ≡ reports_at t ns call def made.own
      unfolding reports_at
      reports_same = reads_same words made.own
          (λ i. ap (λ (l : List ℕ). get_or l i 0) made.words_are ∙ padded made.own 4200 i) _ _ _

      pub bound_found : {r : ℕ} {list' : List ℕ} → (r ≡ length (reports_at t ns call def words))
          × (list' ≡ job.written (reports_at t ns call def words) list)
          → (accepted (r ∷ []) ≡ namesakes_of t ns call def (length list)) × (list' ≡ list_after t ns call def list)
      unfolding namesakes_of list_after
      bound_found both = rw (made.is, both.0, both.1, reports_same) (refl, refl)
