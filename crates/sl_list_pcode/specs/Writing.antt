-- view: what was written of a listing with operations.
use Rattle.std.specs.Prelude.{◌⊎◌, ℕ, List, [], Option, Result, Ok, Err}
use Rattle.std.specs.Io.KnownBytes.{Appends}
use Rattle.sl_ast.specs.Trees.{Item}
use Rattle.sl_list_instructions.specs.Fronts.{AppendsFront}
use Rattle.sl_list_instructions.specs.declared.listings.ListError.{ListError}
use Rattle.sl_list_instructions.specs.declared.listings.ListError.TheVariants.{NoMemory, WriteFault}
use Rattle.sl_list_instructions.specs.Listing.{Image}
use Rattle.sl_list_pcode.specs.Listing.{BeginsPcodeListing, IsPcodeListing}
use Rattle.sl_spec.specs.declared.tables.Tables.{Tables}
use Rattle.sl_word.specs.declared.word.Size.{Size}

module _ (items : List Item) (t : Tables) (sizes : List (List Size)) (i : Image)
    (old new : Option (List ℕ)) where
  -- A front was written of what some first positions say.
  abbrev pub WritesFront : Type 0
  WritesFront = (text : List ℕ)
      × BeginsPcodeListing items t sizes i text × AppendsFront old new text

  -- A whole listing was written; or, where the writing failed or memory ran out, a front of what
  -- some first positions say. Memory may run out before anything is.
  abbrev pub Writes : {T : Type 0} → Result T ListError → Type 0
  Writes (Ok done) =
      (text : List ℕ) × IsPcodeListing items t sizes i text × Appends old new text
  Writes (Err WriteFault) = WritesFront
  Writes (Err NoMemory) = Appends old new [] ⊎ WritesFront
