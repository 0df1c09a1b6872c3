-- view: steps that may be none.
use Rattle.std.specs.Prelude.{◌∷◌, [], List, Option, None, Some, Result, Ok}
use Rattle.sl_decode_meaning.specs.declared.faults.Fault.{Fault}

abbrev pub maybe : {A X : Type 0} → (A → X → Result X Fault) → Option A → X → Result X Fault
maybe step None x = Ok x
maybe step (Some a) x = step a x

abbrev pub items : {A : Type 0} → Option A → List A
items None = []
items (Some a) = a ∷ []
