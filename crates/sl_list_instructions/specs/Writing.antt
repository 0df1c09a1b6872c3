-- view: what was written of a listing.
use Rattle.std.specs.Prelude.{◌⊎◌, ℕ, List, [], Option, Result, Ok, Err}
use Rattle.std.specs.Io.KnownBytes.{Appends}
use Rattle.sl_ast.specs.Trees.{Constructor}
use Rattle.sl_ast.specs.Unfolding.{Placed}
use Rattle.sl_list_instructions.specs.Fronts.{AppendsFront}
use Rattle.sl_list_instructions.specs.declared.listings.ListError.{ListError}
use Rattle.sl_list_instructions.specs.declared.listings.ListError.TheVariants.{NoMemory, WriteFault}
use Rattle.sl_list_instructions.specs.Listing.{Image, IsListing}
use Rattle.sl_spec.specs.declared.tables.Tables.{Tables}

module _ (t : Tables) (cs : List (Placed Constructor)) (i : Image) (old new : Option (List ℕ)) where
  -- Some front of the listing was written.
  abbrev pub WritesFront : Type 0
  WritesFront = (text : List ℕ) × IsListing t cs i text × AppendsFront old new text

  -- The whole listing was written; or, where the writing failed or memory ran out, a front of it.
  -- Memory may run out before anything is.
  abbrev pub Writes : {T : Type 0} → Result T ListError → Type 0
  Writes (Ok done) = (text : List ℕ) × IsListing t cs i text × Appends old new text
  Writes (Err WriteFault) = WritesFront
  Writes (Err NoMemory) = Appends old new [] ⊎ WritesFront
