-- The first stage: what an expansion comes to.
use Rattle.std.proofs.Common.{◌≡◌, ℕ, List, Option, Some, None, Ok, Err, refl, sym, ap}
use Rattle.sl_outside.specs.Folder.{Folder}
use Rattle.sl_outside.specs.Uses.{Names, UsesFiles}
use Rattle.sl_preproc_directives.specs.declared.fault.Cause.TheVariants as cause
use Rattle.sl_preproc.specs.Expanded.{Text, expanded, seen}
use Rattle.sl_preproc.specs.Expansion as preproc
use Rattle.sl_preproc.specs.Refusals.{with_place}
use Rattle.sl_preproc.specs.Folders.{WhereTold}
use Rattle.sl_preproc.specs.Refusals.{Answers as ExpandsAs}
use Rattle.sl_preproc.specs.Sound.{IsSound}
use Rattle.sl_preproc.specs.Stops as early
use Rattle.sl_preproc.specs.declared.error.PreError.{PreError}
use Rattle.sl_preproc.specs.declared.error.PreError.TheVariants.{NoFile, TooLong, IncludeDepth, UndefinedName, ReplaceDepth, BadDirective, Unbalanced, ReadFault, NoMemory}
use Rattle.sl_preproc.specs.declared.text.Expanded.{Expanded}
use Rattle.sl_tool_stages.specs.Halts.{halt_of}
use Rattle.sl_tool_stages.specs.Outcomes.{IsReadFault, Obtains, StopsEarly}
use Rattle.sl_tool_stages.specs.SourceView.{source_view}
use Rattle.sl_tool_stages.specs.Stages.{Expands, refused_expansion, source_of}
use Rattle.sl_tool_stages.specs.Values.{source}

pub expands_to : (told : Option Folder) (name : List ℕ) (t : Text) → WhereTold told (λ folder. expanded folder name ≡ Ok t) → IsSound t
    → Expands told name (Ok (source name t))
expands_to None name t h sound = (refl, sound)
expands_to (Some folder) name t h sound = sym (ap (source_of name) (h folder refl))

refused_by : (told : Option Folder) (name : List ℕ) (r : preproc.Refusal) → WhereTold told (λ folder. expanded folder name ≡ Err r)
    → Expands told name (Err (refused_expansion r))
refused_by None name r h = tt
refused_by (Some folder) name r h = sym (ap (source_of name) (h folder refl))

-- the halt for an error of the expansion
pub expansion_halts : (told : Option Folder) (name : List ℕ) (error : PreError)
    → WhereTold told (λ folder. ExpandsAs {X = Expanded} seen (Err error) (expanded folder name))
    → Obtains (Expands told name) source_view (Err (halt_of error))
expansion_halts told name (NoFile file line) h = refused_by told name (with_place cause.NoFile file line) h
expansion_halts told name (TooLong file line) h = refused_by told name (with_place cause.TooLong file line) h
expansion_halts told name (IncludeDepth file line) h = refused_by told name (with_place cause.IncludeDepth file line) h
expansion_halts told name (UndefinedName file line) h = refused_by told name (with_place cause.UndefinedName file line) h
expansion_halts told name (ReplaceDepth file line) h = refused_by told name (with_place cause.ReplaceDepth file line) h
expansion_halts told name (BadDirective file line) h = refused_by told name (with_place cause.BadDirective file line) h
expansion_halts told name (Unbalanced file line) h = refused_by told name (with_place cause.Unbalanced file line) h
expansion_halts told name ReadFault h = tt
expansion_halts told name NoMemory h = tt

module _ {F : Type 0} (told : F → Option Folder) (faults : F → ℕ) (asked : F → Names) (old new : F) (names : List (List ℕ)) where
  -- an early stop of the expansion is one of the stage
  pub expansion_uses : (error : PreError) → UsesFiles told faults asked old new names (early.StopsEarly error) (early.IsReadFault error)
      → UsesFiles told faults asked old new names (StopsEarly (halt_of error)) (IsReadFault (halt_of error))
  expansion_uses (NoFile file line) u = u
  expansion_uses (TooLong file line) u = u
  expansion_uses (IncludeDepth file line) u = u
  expansion_uses (UndefinedName file line) u = u
  expansion_uses (ReplaceDepth file line) u = u
  expansion_uses (BadDirective file line) u = u
  expansion_uses (Unbalanced file line) u = u
  expansion_uses ReadFault u = u
  expansion_uses NoMemory u = u
