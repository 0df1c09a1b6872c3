-- meaning: what reading files comes to: the names that were asked for, and a result or a refusal.
use Rattle.std.specs.Prelude.{ℕ, List, [], ◌++◌, Result, Ok, Err}
use Rattle.sl_preproc_directives.specs.declared.fault.Cause.{Cause}

-- why there is no expansion, with the name of the file and the line there
pub record Refusal : Type 0 where
  pub cause : Cause
  pub file : List ℕ
  pub line : ℕ

abbrev pub refusal : Cause → List ℕ → ℕ → Refusal
refusal cause file line = record { cause = cause; file = file; line = line }

-- the names of the files that were asked for, in their order, and what came of it
pub record Reading (X : Type 0) : Type 0 where
  pub asked : List (List ℕ)
  pub result : Result X Refusal

-- this, with no file asked for
abbrev pub pure : {X : Type 0} → X → Reading X
pure x = record { asked = []; result = Ok x }

abbrev pub refused : {X : Type 0} → Cause → List ℕ → ℕ → Reading X
refused cause file line = record { asked = []; result = Err (refusal cause file line) }

-- these names were asked for before
abbrev pub asked_before : {X : Type 0} → List (List ℕ) → Reading X → Reading X
asked_before names r = record { asked = names ++ r.asked; result = r.result }

-- a reading that goes on from a result, and ends at a refusal
abbrev pub going_on : {X Y : Type 0} → List (List ℕ) → Result X Refusal → (X → Reading Y)
    → Reading Y
going_on names (Ok x) f = asked_before names (f x)
going_on names (Err e) f = record { asked = names; result = Err e }

-- one reading after another: the names of both
infixl 10 ◌>>=◌
abbrev pub ◌>>=◌ : {X Y : Type 0} → Reading X → (X → Reading Y) → Reading Y
r >>= f = going_on r.asked r.result f
