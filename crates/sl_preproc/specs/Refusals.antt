-- view: refusals as the program gives them.
use Rattle.std.specs.Prelude.{◌≡◌, ℕ, Result, Ok, Err}
use Rattle.std.specs.Global.{Global}
use Rattle.std.specs.String.{string_bytes}
use Rattle.std.specs.declared.string.String.{String}
use Rattle.sl_preproc.specs.Expansion.{Refusal}
use Rattle.sl_preproc_directives.specs.declared.fault.Cause.{Cause}
use Rattle.sl_preproc_directives.specs.declared.fault.Cause.TheVariants as cause
use Rattle.sl_preproc.specs.declared.error.PreError.{PreError}
use Rattle.sl_preproc.specs.declared.error.PreError.TheVariants.{NoFile, TooLong, IncludeDepth, UndefinedName, ReplaceDepth, BadDirective, Unbalanced, ReadFault, NoMemory}

abbrev pub with_place : Cause → String Global → ℕ → Refusal
with_place cause file line = record { cause = cause; file = string_bytes file; line = line }

-- Ok and refusals are as defined; a fault of reading and want of memory say nothing of the definition
abbrev pub RefusesAs : {Y : Type 0} → PreError → Result Y Refusal → Type 0
RefusesAs (NoFile file line) defined = defined ≡ Err (with_place cause.NoFile file line)
RefusesAs (TooLong file line) defined = defined ≡ Err (with_place cause.TooLong file line)
RefusesAs (IncludeDepth file line) defined = defined ≡ Err (with_place cause.IncludeDepth file line)
RefusesAs (UndefinedName file line) defined = defined ≡ Err (with_place cause.UndefinedName file line)
RefusesAs (ReplaceDepth file line) defined = defined ≡ Err (with_place cause.ReplaceDepth file line)
RefusesAs (BadDirective file line) defined = defined ≡ Err (with_place cause.BadDirective file line)
RefusesAs (Unbalanced file line) defined = defined ≡ Err (with_place cause.Unbalanced file line)
RefusesAs ReadFault defined = Unit {0}
RefusesAs NoMemory defined = Unit {0}

-- What a function returned, seen by view, is what is defined.
abbrev pub Answers : {X Y : Type 0} → (X → Y) → Result X PreError → Result Y Refusal → Type 0
Answers view (Ok x) defined = defined ≡ Ok (view x)
Answers view (Err e) defined = RefusesAs e defined
