-- view: what is owed of a part of a decode: its value, or its fault; memory may run out at any
-- point.
use Rattle.std.specs.Prelude.{◌≡◌, Result, Ok, Err}
use Rattle.sl_decode.specs.declared.outcomes.DecodeError.{DecodeError}
use Rattle.sl_decode.specs.declared.outcomes.DecodeError.TheVariants as e
use Rattle.sl_decode_meaning.specs.declared.faults.Fault.{Fault}

-- the error is the fault of the outcome
abbrev pub Fails : {Y : Type 0} → DecodeError → Result Y Fault → Type 0
Fails (e.Fault fault) outcome = outcome ≡ Err fault
Fails e.NoMemory outcome = Unit {0}

-- what was returned, seen by `view`, is the outcome
abbrev pub Gives : {X Y : Type 0} → (X → Y) → Result X DecodeError → Result Y Fault → Type 0
Gives view (Ok x) outcome = outcome ≡ Ok (view x)
Gives view (Err error) outcome = Fails error outcome
