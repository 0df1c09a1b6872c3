-- law: that what is begun of a listing with operations goes on to a whole one.
use Rattle.std.specs.Prelude.{ℕ, List, ◌++◌, Ok}
use Rattle.sl_ast.specs.Trees.{Item}
use Rattle.sl_bind.specs.Binding.{Binds}
use Rattle.sl_faithful_places.specs.Laws.{NamesAreTexts}
use Rattle.sl_faithful_accepted.specs.Laws.{IsShort}
use Rattle.sl_bind_compile.specs.Outcomes.{Compiles}
use Rattle.sl_list_instructions.specs.Listing.{Image}
use Rattle.sl_list_pcode.specs.Listing.{BeginsPcodeListing, IsPcodeListing}
use Rattle.sl_spec.specs.declared.tables.Tables.{Tables}
use Rattle.sl_word.specs.declared.word.Size.{Size}

-- What a listing says for some first positions is a front of a whole one, where the specification
-- is accepted.
abbrev pub BegunGoOn : Type 0
BegunGoOn = (items : List Item) (t : Tables) (sizes : List (List Size)) (i : Image)
    (text : List ℕ) → IsShort items → Binds items (Ok (t, sizes)) → Compiles items (Ok t)
    → BeginsPcodeListing items t sizes i text
    → (rest : List ℕ) × IsPcodeListing items t sizes i (text ++ rest)

-- It can't be that an image has no listing, where each name of the text is UTF-8.
abbrev pub SomePcodeListing : Type 0
SomePcodeListing = (items : List Item) (t : Tables) (sizes : List (List Size)) (i : Image)
    → IsShort items → NamesAreTexts items → Binds items (Ok (t, sizes)) → Compiles items (Ok t)
    → ((text : List ℕ) × IsPcodeListing items t sizes i text → ⊥) → ⊥
