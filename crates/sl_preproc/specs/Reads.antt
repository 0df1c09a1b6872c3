-- step: calls that follow a reading which the folder defines.
use Rattle.std.specs.Prelude.{◌≡◌, ℕ, List, Option, Result}
use Rattle.sl_outside.specs.Folder.{Folder}
use Rattle.sl_outside.specs.Uses.{Names, UsesFiles}
use Rattle.sl_preproc.specs.Readings.{Reading, asked_before}
use Rattle.sl_preproc.specs.Refusals.{Answers}
use Rattle.sl_preproc.specs.Folders.{WhereTold}
use Rattle.sl_preproc.specs.Stops.{IsEarly, Fails}
use Rattle.sl_preproc.specs.declared.error.PreError.{PreError}

-- Where the folder is told, the call returns what is defined, seen by view, and asks for just the
-- names that are defined; else for some names. Where it stops early, it asked for the first ones.
pub record Reads {F X Y : Type 0} (told : F → Option Folder) (faults : F → ℕ) (asked : F → Names)
    (old new : F) (defined : Folder → Reading Y) (view : X → Y) (result : Result X PreError)
    : Type 0 where
  pub names : List (List ℕ)
  pub due : WhereTold (told old) (λ folder. names ≡ (defined folder).asked)
  pub answers : WhereTold (told old) (λ folder. Answers view result (defined folder).result)
  pub uses : UsesFiles told faults asked old new names (IsEarly result) (Fails result)

-- Calls have followed the reading so far: these names were asked for, and rest is left of it.
pub record Reached {F Y : Type 0} (told : F → Option Folder) (faults : F → ℕ) (asked : F → Names)
    (old now : F) (whole rest : Folder → Reading Y) : Type 0 where
  pub names : List (List ℕ)
  pub so_far : WhereTold (told old) (λ folder. whole folder ≡ asked_before names (rest folder))
  pub uses : UsesFiles told faults asked old now names ⊥ ⊥
