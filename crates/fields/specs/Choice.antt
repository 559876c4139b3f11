-- A choice by a test, used by all definitions. Each branch is a function of Unit, so that only the branch that is
-- taken is computed.
use Rattle.std.specs.Prelude.{Bool, true, false}

abbrev pub if' : {A : Type 0} → Bool → (Unit {0} → A) → (Unit {0} → A) → A
if' true a b = a tt
if' false a b = b tt
