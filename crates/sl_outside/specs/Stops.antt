-- view: fetches that stop before their file is asked for.
use Rattle.std.specs.Prelude.{Result, Ok, Err, ⊤}
use Rattle.sl_outside.specs.declared.FetchError.{FetchError}
use Rattle.sl_outside.specs.declared.FetchError.TheVariants.{Absent, TooLong, Failed, NoMemory}

-- The reading failed, or memory ran out.
abbrev pub IsStopped : {T : Type 0} → Result T FetchError → Type 0
IsStopped (Ok x) = ⊥
IsStopped (Err Absent) = ⊥
IsStopped (Err TooLong) = ⊥
IsStopped (Err Failed) = ⊤
IsStopped (Err NoMemory) = ⊤
