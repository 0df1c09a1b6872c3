-- law: where the definitions of a text lie, and how many there are, where the text keeps the
-- rules.
use Rattle.std.specs.Prelude.{◌≡◌, ℕ, ◌^◌, ◌<◌, ◌≤◌, List, length, position, slice_get, Some, Ok}
use Rattle.std.specs.Str.{IsUtf8}
use Rattle.sl_ast.specs.Spelling.{name, spell}
use Rattle.sl_ast.specs.Trees.{Item}
use Rattle.sl_bind.specs.Verdict.{taken}
use Rattle.sl_faithful_places.specs.Defined.{AreDefined}
use Rattle.sl_spec_rules.specs.Names.{Name}
use Rattle.sl_spec.specs.Tables.{Space, UserOp}
use Rattle.sl_spec.specs.declared.tables.Tables.{Tables}

-- What is defined lies where it can be.
abbrev pub TakenAreDefined : Type 0
TakenAreDefined = (items : List Item) (t : Tables) → taken items ≡ Ok t → AreDefined t

-- There is a default space, at this index.
pub record HasDefault (t : Tables) : Type 0 where
  pub index : ℕ
  pub is : position (λ z. z.default) t.spaces ≡ Some index
  pub within : index < length t.spaces

abbrev pub TakenHaveSpaces : Type 0
TakenHaveSpaces = (items : List Item) (t : Tables) → taken items ≡ Ok t → HasDefault t

-- There are no more spaces, and no more user operations, than the text has tokens.
abbrev pub TakenAreFew : Type 0
TakenAreFew = (items : List Item) (t : Tables) → taken items ≡ Ok t
    → (length t.spaces ≤ length (spell items)) × (length t.userops ≤ length (spell items))

-- It is UTF-8, and a string can be as long.
abbrev pub IsText : Name → Type 0
IsText w = IsUtf8 w × (length w < 2 ^ 63)

-- Each name that a text has is one.
abbrev pub NamesAreTexts : List Item → Type 0
NamesAreTexts items = (k : ℕ) (w : Name) → slice_get (spell items) k ≡ Some (name w) → IsText w

-- So is each name of a space and of a user operation.
pub record AreTexts (t : Tables) : Type 0 where
  pub spaces : (k : ℕ) (z : Space) → slice_get t.spaces k ≡ Some z → IsText z.name
  pub userops : (k : ℕ) (u : UserOp) → slice_get t.userops k ≡ Some u → IsText u.name

-- Spaces and user operations have names that the text has.
abbrev pub TakenAreTexts : Type 0
TakenAreTexts = (items : List Item) (t : Tables) → taken items ≡ Ok t → NamesAreTexts items
    → AreTexts t
