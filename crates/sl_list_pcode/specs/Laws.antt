-- law: that the text of an operation is one, by the tables, and that an image with a listing
-- has one with operations.
use Rattle.std.specs.Prelude.{◌≡◌, ℕ, List, Ok}
use Rattle.sl_ast.specs.Trees.{Item}
use Rattle.sl_bind.specs.Binding.{Binds, constructors_of}
use Rattle.sl_faithful_accepted.specs.Laws.{IsShort}
use Rattle.sl_list_instructions.specs.Listing.{Image, IsListing}
use Rattle.sl_pcode.specs.Text.{op_text}
use Rattle.sl_pcode.specs.declared.operation.Op.{Op}
use Rattle.sl_pcode.specs.declared.print.Names.{Names}
use Rattle.sl_list_pcode.specs.Listing.{IsPcodeListing}
use Rattle.sl_list_pcode.specs.Names.{AreNames}
use Rattle.sl_spec.specs.declared.tables.Tables.{Tables}
use Rattle.sl_word.specs.declared.word.Size.{Size}

-- An operation has one text, whichever names of the tables it is printed with.
abbrev pub TextIsOne : Type 0
TextIsOne = (t : Tables) (a b : Names) (op : Op)
    → AreNames t a → AreNames t b → op_text a op ≡ op_text b op

-- An image that has a listing by an accepted text, whose names are texts, has one with operations.
abbrev pub ListingHasOperations : Type 0
ListingHasOperations = (items : List Item) (t : Tables) (sizes : List (List Size)) (i : Image)
    (lines : List ℕ) (names : Names)
    → IsShort items → Binds items (Ok (t, sizes)) → AreNames t names
    → IsListing t (constructors_of items) i lines
    → (text : List ℕ) × IsPcodeListing items t sizes i text
