-- Writing the modes of a list, for all names and indices. The loop keeps that writing the modes of the parameters that
-- are left, from the next flat index on, gives the buffer that writing all of them gives (`Writing`, its field `same`;
-- laws `write_start`, `write_on`, `write_end`). A turn reads one parameter (deflist's `Reading`) and stores its mode,
-- or nothing for a mark (`put_mode`, `put_mark`). The flat index is at most the number of parameters read, so there is
-- room (`write_room`). Assumes nothing.
use mathlib.Core.Path.{◌≡◌, refl, sym, ap, ◌∙◌}
use mathlib.Core.Bool.{true, false}
use mathlib.Core.List.{List, [], ◌∷◌, ◌++◌}
use Prim.Native.Nat.{ℕ, zero, suc, ◌+◌, ◌/◌, ◌<◌, ◌≤◌}
use native.Mathlib.Omega.{arith}
use lib.ListN.{length, set, drop}
use lib.Seq.{sets, length-sets}
use Rattle.forest.specs.Forest.{node_of, span_of, forest, rest_of}
use Rattle.deflist.specs.Written.{Param, kind_in, param_of, params_in}
use Rattle.deflist.specs.Unpack.{next_state, mode_of, modes_from}
use Rattle.deflist.specs.Reading.{is_listed, kind_here}
use Rattle.deflist.specs.declared.Kind.{Kind}
use Rattle.deflist.specs.declared.Kind.TheVariants.{Normal, NoArgs, Slash, Args, KwArgs}
use Rattle.deflist.specs.declared.State.{State}
use Rattle.deflist.specs.declared.State.TheVariants.{Normal as BeforeSlash, SeenSlash, SeenStar, SeenStarStar}
use Rattle.deflist.proofs.Reading.{kind_in_lem, Reading, read_start, read_here, read_on, read_end, list_next}
use Rattle.parameters.specs.Writing.{mode_byte, mode_in, AtMost, Modes}

-- the mode byte is the mode
mode_in_lem : (s : State) (k : Kind) → mode_in (mode_byte s k) ≡ mode_of s k
mode_in_lem BeforeSlash (Normal d) = refl
mode_in_lem SeenSlash (Normal d) = refl
mode_in_lem SeenStar (Normal d) = refl
mode_in_lem SeenStarStar (Normal d) = refl
mode_in_lem s NoArgs = refl
mode_in_lem s Slash = refl
mode_in_lem s Args = refl
mode_in_lem s KwArgs = refl

-- a mark puts nothing, a mode one byte
pub put_mark : (ms : List ℕ) (f m : ℕ) → m ≡ 0 → (f ≡ f + length (mode_in m)) × (ms ≡ sets ms f (mode_in m))
put_mark ms f zero h = (omega arith, refl)
put_mark ms f (suc m) h = absurd (omega arith)

pub put_mode : (ms : List ℕ) (f m : ℕ) → (m ≡ 0 → ⊥)
    → (f + 1 ≡ f + length (mode_in m)) × (set ms f m ≡ sets ms f (mode_in m))
put_mode ms f zero h = absurd (h refl)
put_mode ms f (suc m) h = (refl, refl)

-- one run of stores after another
sets_append : (xs ys l : List ℕ) (i : ℕ) → sets l i (xs ++ ys) ≡ sets (sets l i xs) (i + length xs) ys
sets_append [] ys l i = let e : i + 0 ≡ i = omega arith in rw e refl
sets_append (x ∷ xs) ys l i = let e : i + suc (length xs) ≡ suc i + length xs = omega arith in
    rw e (sets_append xs ys (set l i x) (suc i))

cons_modes : (s : State) (p : Param) (ps : List Param) {k : Kind} → kind_in p ≡ k
    → modes_from s (p ∷ ps) ≡ mode_of s k ++ modes_from (next_state s k) ps
unfolding modes_from
cons_modes s p ps e = rw e refl

one : (s : State) (k : Kind) → length (mode_of s k) ≤ 1
one s (Normal d) = omega arith
one s NoArgs = omega arith
one s Slash = omega arith
one s Args = omega arith
one s KwArgs = omega arith

-- the modes of n parameters are written, and f is the next flat index
pub record Writing (kids ms₀ : List ℕ) (s₀ : State) (ms left : List ℕ) (s : State) (f : ℕ) : Type 0 where
  pub n : ℕ
  pub long : length ms ≡ length ms₀
  pub most : AtMost kids (length ms₀)
  pub flats : f ≤ n
  pub from : (ns : List ℕ) (i : ℕ) → ℕ
  pub reads : (ns : List ℕ) (i : ℕ) → Reading ns (params_in ns (forest i kids)) n (from ns i) left
  pub same : (ns : List ℕ) (i : ℕ) → sets ms f (modes_from s (drop n (params_in ns (forest i kids))))
      ≡ sets ms₀ 0 (modes_from s₀ (params_in ns (forest i kids)))

pub write_start : (kids ms : List ℕ) (s : State) → AtMost kids (length ms) → Writing kids ms s ms kids s 0
write_start kids ms s h = record {
  n = 0;
  long = refl;
  most = h;
  flats = omega arith;
  from = λ ns i. i;
  reads = λ ns i. read_start ns i kids;
  same = λ ns i. refl;
}

module _ {kids ms₀ : List ℕ} {s₀ : State} {ms left : List ℕ} {s : State} {f : ℕ}
    (x : Writing kids ms₀ s₀ ms left s f) where
  module _ (listed : is_listed left ≡ true) where
    pub write_room : f < length ms
    write_room = omega (arith, x.flats, x.long, x.most.most [] 0, (read_here (x.reads [] 0) listed refl refl).within)

    -- storing the next parameter's mode, and then the modes of the rest, is storing those that were left
    write_next : {k : Kind} → k ≡ kind_here left → (ns : List ℕ) (i : ℕ)
        → sets (sets ms f (mode_of s k)) (f + length (mode_of s k))
        (modes_from (next_state s k) (drop (x.n + 1) (params_in ns (forest i kids))))
        ≡ sets ms₀ 0 (modes_from s₀ (params_in ns (forest i kids)))
    write_next {k} k_is ns i =
        let at = x.from ns i in
        let p = param_of ns (node_of at left) in
        let kind : kind_in p ≡ k = kind_in_lem ns at left ∙ sym k_is in
        let here = (x.reads ns i).rest ∙ list_next ns at left listed refl refl in
        let rest = (read_on (x.reads ns i) listed refl refl).rest in
        rw rest (
        sym (sets_append (mode_of s k) (modes_from (next_state s k) _) ms f)
        ∙ sym (ap (sets ms f) (cons_modes s p _ kind))
        ∙ ap (λ (y : List Param). sets ms f (modes_from s y)) (sym here)
        ∙ x.same ns i)

    pub write_on : {k : Kind} {m g : ℕ} {ms' : List ℕ} {s' : State} {after : List ℕ} → k ≡ kind_here left
        → m ≡ mode_byte s k → g ≡ f + length (mode_in m) → ms' ≡ sets ms f (mode_in m) → s' ≡ next_state s k
        → after ≡ rest_of left → Writing kids ms₀ s₀ ms' after s' g
    write_on {k} {m} {g} {ms'} {s'} k_is m_is g-is ms-is s-is after-is =
        let mode : mode_in m ≡ mode_of s k = ap mode_in m_is ∙ mode_in_lem s k in
        record {
          n = x.n + 1;
          long = ap length ms-is ∙ length-sets ms f (mode_in m) ∙ x.long;
          most = x.most;
          flats = omega (arith, x.flats, g-is, ap length mode, one s k);
          from = λ ns i. x.from ns i + span_of left / 24;
          reads = λ ns i. read_on (x.reads ns i) listed refl after-is;
          same = λ ns i. rw (ms-is, g-is, s-is, mode) (write_next k_is ns i);
        }

  pub write_end : is_listed left ≡ false → Modes kids s₀ ms₀ ms
  unfolding modes_from
  write_end none = record { wrote = λ ns i. rw (read_end (x.reads ns i) none) at (x.same ns i) }
