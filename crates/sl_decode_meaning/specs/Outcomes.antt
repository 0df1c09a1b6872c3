-- meaning: moments one behind the other, up to the first that can't be met.
use Rattle.std.specs.Prelude.{Option, Some, None, Result, Ok, Err, List, [], ◌∷◌}
use Rattle.sl_decode_meaning.specs.declared.faults.Fault.{Fault}

-- what comes next is done with what the first moment gives, unless that can't be met
infixl 10 ◌>>=◌
abbrev pub ◌>>=◌ : {A B : Type 0} → Result A Fault → (A → Result B Fault) → Result B Fault
(Ok x) >>= f = f x
(Err fault) >>= f = Err fault

abbrev pub or_fault : {A : Type 0} → Fault → Option A → Result A Fault
or_fault fault (Some x) = Ok x
or_fault fault None = Err fault

-- a step for each of a list, in turn
abbrev pub in_turn : {A X : Type 0} → (A → X → Result X Fault) → List A → X → Result X Fault
in_turn step [] x = Ok x
in_turn step (a ∷ as') x = step a x >>= in_turn step as'
