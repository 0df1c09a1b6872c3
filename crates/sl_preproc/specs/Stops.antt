-- view: expansions that stop early.
use Rattle.std.specs.Prelude.{Result, Ok, Err, ⊤}
use Rattle.sl_preproc.specs.declared.error.PreError.{PreError}
use Rattle.sl_preproc.specs.declared.error.PreError.TheVariants.{NoFile, TooLong, IncludeDepth}
use Rattle.sl_preproc.specs.declared.error.PreError.TheVariants.{UndefinedName, ReplaceDepth}
use Rattle.sl_preproc.specs.declared.error.PreError.TheVariants.{BadDirective, Unbalanced}
use Rattle.sl_preproc.specs.declared.error.PreError.TheVariants.{ReadFault, NoMemory}

abbrev pub StopsEarly : PreError → Type 0
StopsEarly (NoFile file line) = ⊥
StopsEarly (TooLong file line) = ⊥
StopsEarly (IncludeDepth file line) = ⊥
StopsEarly (UndefinedName file line) = ⊥
StopsEarly (ReplaceDepth file line) = ⊥
StopsEarly (BadDirective file line) = ⊥
StopsEarly (Unbalanced file line) = ⊥
StopsEarly ReadFault = ⊤
StopsEarly NoMemory = ⊤

abbrev pub IsReadFault : PreError → Type 0
IsReadFault (NoFile file line) = ⊥
IsReadFault (TooLong file line) = ⊥
IsReadFault (IncludeDepth file line) = ⊥
IsReadFault (UndefinedName file line) = ⊥
IsReadFault (ReplaceDepth file line) = ⊥
IsReadFault (BadDirective file line) = ⊥
IsReadFault (Unbalanced file line) = ⊥
IsReadFault ReadFault = ⊤
IsReadFault NoMemory = ⊥

-- The reading of a file failed, or memory ran out: the definition was not followed to its end.
abbrev pub IsEarly : {T : Type 0} → Result T PreError → Type 0
IsEarly (Ok x) = ⊥
IsEarly (Err e) = StopsEarly e

-- The reading of a file failed.
abbrev pub Fails : {T : Type 0} → Result T PreError → Type 0
Fails (Ok x) = ⊥
Fails (Err e) = IsReadFault e
