-- view: what a reading function answers, by an outcome.
use Rattle.std.specs.Prelude.{◌≡◌, Result, Ok, Err}
use Rattle.sl_preproc_directives.specs.declared.fault.Cause.{Cause}
use Rattle.sl_preproc_directives.specs.declared.fault.Fault.{Fault}
use Rattle.sl_preproc_directives.specs.declared.fault.Fault.TheVariants.{Refused, NoMemory}

-- What a function returned, seen by view, is what is defined, unless memory ran out.
abbrev pub FailsAs : {Y : Type 0} → Fault → Result Y Cause → Type 0
FailsAs (Refused cause) defined = defined ≡ Err cause
FailsAs NoMemory defined = Unit {0}

abbrev pub Gives : {X Y : Type 0} → (X → Y) → Result X Fault → Result Y Cause → Type 0
Gives view (Ok x) defined = defined ≡ Ok (view x)
Gives view (Err e) defined = FailsAs e defined
