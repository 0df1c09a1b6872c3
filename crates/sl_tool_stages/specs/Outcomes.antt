-- view: what a part of the program promises of a stage.
use Rattle.std.specs.Prelude.{Result, Ok, Err, ⊤}
use Rattle.sl_tool_stages.specs.declared.halt.Halt.{Halt}
use Rattle.sl_tool_stages.specs.declared.halt.Halt.TheVariants.{Refused, ReadFault, WriteFault, NoMemory}
use Rattle.sl_tool_stages.specs.declared.refusal.Refusal.{Refusal}

-- ---- stages

-- A value as the stage gives it, or its refusal; it neither reads nor writes.
abbrev pub Gives : {T B : Type 0} → (Result B Refusal → Type 0) → (T → B) → Result T Halt → Type 0
Gives S view (Ok v) = S (Ok (view v))
Gives S view (Err (Refused x)) = S (Err x)
Gives S view (Err ReadFault) = ⊥
Gives S view (Err WriteFault) = ⊥
Gives S view (Err NoMemory) = ⊤

-- The same of a stage that reads files.
abbrev pub Obtains : {T B : Type 0} → (Result B Refusal → Type 0) → (T → B) → Result T Halt → Type 0
Obtains S view (Ok v) = S (Ok (view v))
Obtains S view (Err (Refused x)) = S (Err x)
Obtains S view (Err ReadFault) = ⊤
Obtains S view (Err WriteFault) = ⊥
Obtains S view (Err NoMemory) = ⊤

-- ---- halts

-- It stopped before its end: a file could not be read, or memory ran out.
abbrev pub StopsEarly : Halt → Type 0
StopsEarly (Refused x) = ⊥
StopsEarly ReadFault = ⊤
StopsEarly WriteFault = ⊥
StopsEarly NoMemory = ⊤

abbrev pub IsReadFault : Halt → Type 0
IsReadFault (Refused x) = ⊥
IsReadFault ReadFault = ⊤
IsReadFault WriteFault = ⊥
IsReadFault NoMemory = ⊥

abbrev pub IsWriteFault : Halt → Type 0
IsWriteFault (Refused x) = ⊥
IsWriteFault ReadFault = ⊥
IsWriteFault WriteFault = ⊤
IsWriteFault NoMemory = ⊥

abbrev pub IsEarly : {T : Type 0} → Result T Halt → Type 0
IsEarly (Ok v) = ⊥
IsEarly (Err h) = StopsEarly h

-- A file could not be read.
abbrev pub FailsToRead : {T : Type 0} → Result T Halt → Type 0
FailsToRead (Ok v) = ⊥
FailsToRead (Err h) = IsReadFault h

-- The output could not be written.
abbrev pub FailsToWrite : {T : Type 0} → Result T Halt → Type 0
FailsToWrite (Ok v) = ⊥
FailsToWrite (Err h) = IsWriteFault h
