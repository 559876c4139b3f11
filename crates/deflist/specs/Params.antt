-- The parameters at the front of a stretch, as the iterator of code gives them. These are definitions.
use Rattle.std.specs.Prelude.{◌≡◌, List, ℕ, ◌+◌, ◌/◌, true, false, Option, None, Some}
use denote.Ref.{Bor}
use Rattle.forest.specs.Forest.{record_bytes, span_of, rest_of}
use Rattle.deflist.specs.Reading.{is_listed}
use Rattle.deflist.specs.declared.Params.{Params}

-- a walk gives the parameter x where it stands: its index, and the rest of the stretch, which begins with it. It goes
-- on behind the subtree of x
pub record GivesParam (s : Params) (x : ℕ × Bor (List ℕ)) (t : Params) : Type 0 where
  pub index : x.0 ≡ s.nodes.at
  pub stretch : x.1.now ≡ s.nodes.left.now
  pub listed : is_listed x.1.now ≡ true
  pub next : t.nodes.at ≡ x.0 + span_of x.1.now / record_bytes
  pub rest : t.nodes.left.now ≡ rest_of x.1.now

-- a walk gives the next parameter, and ends where none begins
abbrev pub NextParam : Params → Option (ℕ × Bor (List ℕ)) → Params → Type 0
NextParam s None t = is_listed s.nodes.left.now ≡ false
NextParam s (Some x) t = GivesParam s x t
