-- law: that an image has one listing by a sound specification, and some.
use Rattle.std.specs.Prelude.{◌≡◌, ℕ, List, Ok}
use Rattle.sl_ast.specs.Trees.{Constructor, Item}
use Rattle.sl_ast.specs.Unfolding.{Placed}
use Rattle.sl_bind_compile.specs.Outcomes.{Compiles, all_constructors}
use Rattle.sl_list_instructions.specs.Listing.{Image, IsListing}
use Rattle.sl_spec.specs.declared.tables.Tables.{Tables}

-- An image has one listing at most.
abbrev pub ListingIsOne : Type 0
ListingIsOne = (t : Tables) (cs : List (Placed Constructor)) (i : Image) (text other : List ℕ)
    → IsListing t cs i text → IsListing t cs i other → text ≡ other

-- It can't be that it has none.
abbrev pub SomeListing : Type 0
SomeListing = (items : List Item) (t : Tables) (i : Image) → Compiles items (Ok t)
    → ((text : List ℕ) × IsListing t (all_constructors items) i text → ⊥) → ⊥
