-- meaning: the constructors of a text by their tokens: the table of each, and its export.
use Rattle.std.specs.Prelude.{ℕ, ◌+◌, ◌&&◌, ◌||◌, List, [], ◌∷◌, ◌++◌, codes, drop, find}
use Rattle.std.specs.Prelude.{Bool, true, false, not, Option, if◌then◌else◌}
use Rattle.std.specs.Str.{bytes_eq}
use Rattle.sl_explain_exports.specs.declared.constructors.Export.{Export}
use Rattle.sl_explain_exports.specs.declared.constructors.Export.TheVariants as export
use Rattle.sl_explain_heads.specs.Heads.{name_or, table_at, table_in}
use Rattle.sl_explain_heads.specs.Words.{begins_item, blocks_in}
use Rattle.sl_lex.specs.Modes.{next_mode}
use Rattle.sl_lex.specs.Reading.{Token}
use Rattle.sl_lex.specs.declared.mode.Mode.{Mode}
use Rattle.sl_lex.specs.declared.mode.Mode.TheVariants as mode

-- ---- exports

abbrev pub is_top : Mode → Bool
is_top mode.Top = true
is_top mode.Head = false
is_top mode.Plain = false
is_top mode.Body = false
is_top mode.Display = false
is_top mode.Pattern = false

abbrev pub is_body : Mode → Bool
is_body mode.Body = true
is_body mode.Top = false
is_body mode.Head = false
is_body mode.Plain = false
is_body mode.Display = false
is_body mode.Pattern = false

-- a token in this mode is the word `export` of a section
abbrev pub is_export : Mode → (text : List ℕ) → Bool
is_export m text = is_body m && bytes_eq text (codes "export")

-- it is the last one of a constructor: the brace that closes its section, or `unimpl`
abbrev pub is_last : Mode → (text : List ℕ) → Bool
is_last m text = not (is_top m) && is_top (next_mode m text)

-- what a constructor exports that has no such word, where its last token is in this mode
abbrev pub export_at_end : Mode → Export
export_at_end m = if is_body m then export.Nothing else export.Unimplemented

-- what a constructor exports of which these tokens are left, from this index on
abbrev pub export_from : Mode → (index : ℕ) → List Token → Export
export_from m index [] = export.Unimplemented
export_from m index (t ∷ ts) =
    if is_export m t.text then export.At (index + 1)
    else if is_last m t.text then export_at_end m
    else export_from (next_mode m t.text) (index + 1) ts

-- that of the constructor whose first token has this index
abbrev pub export_of : List Token → (start : ℕ) → Export
export_of ts start = export_from mode.Top start (drop start ts)

-- ---- constructors

-- the index of its first token, its table, and what it exports
pub record Constructor : Type 0 where
  pub start : ℕ
  pub table : List ℕ
  pub exports : Export

-- Items with these words before them are no constructors.
abbrev pub is_other : (text : List ℕ) → Bool
is_other text =
    bytes_eq text (codes "define") || (bytes_eq text (codes "attach") || (bytes_eq text (codes "macro")
    || (bytes_eq text (codes "with") || bytes_eq text (codes "}"))))

abbrev pub begins : Mode → List Token → (index : ℕ) → (text : List ℕ) → Bool
begins m ts index text = begins_item m ts index && not (is_other text)

-- `instruction` may go without a name.
abbrev pub full_name : (table : List ℕ) → List ℕ
full_name table = name_or table (codes "instruction")

-- the table of a constructor in these blocks: its own, or that of a block round it
abbrev pub table_by : List Token → (blocks : List ℕ) → (index : ℕ) → List ℕ
table_by ts blocks index = full_name (name_or (table_at (drop index ts)) (table_in ts [] blocks))

abbrev pub constructor_at : List Token → (blocks : List ℕ) → (index : ℕ) → Constructor
constructor_at ts blocks index =
    record { start = index; table = table_by ts blocks index; exports = export_of ts index }

abbrev pub begun : List Token → Mode → (blocks : List ℕ) → (index : ℕ) → (text : List ℕ) → List Constructor
begun ts m blocks index text = if begins m ts index text then constructor_at ts blocks index ∷ [] else []

-- those that begin from this index on, where these tokens are left of all
abbrev pub constructors_from : List Token → Mode → (blocks : List ℕ) → (index : ℕ) → List Token → List Constructor
constructors_from ts m blocks index [] = []
constructors_from ts m blocks index (t ∷ left) =
    begun ts m blocks index t.text
    ++ constructors_from ts (next_mode m t.text) (blocks_in m blocks index t.text) (index + 1) left

-- the constructors of a text, in its order
abbrev pub constructors : List Token → List Constructor
constructors ts = constructors_from ts mode.Top [] 0 ts

-- ---- those of a table

abbrev pub does_export : Export → Bool
does_export (export.At index) = true
does_export export.Nothing = false
does_export export.Unimplemented = false

abbrev pub is_nothing : Export → Bool
is_nothing export.Nothing = true
is_nothing (export.At index) = false
is_nothing export.Unimplemented = false

abbrev pub is_exporter : (table : List ℕ) → Constructor → Bool
is_exporter table c = bytes_eq c.table table && does_export c.exports

abbrev pub is_silent : (table : List ℕ) → Constructor → Bool
is_silent table c = bytes_eq c.table table && is_nothing c.exports

-- the first constructor of a table that exports
abbrev pub first_exporter : (table : List ℕ) → List Constructor → Option Constructor
first_exporter table cs = find (is_exporter table) cs

-- the first one that exports nothing and isn't `unimpl`
abbrev pub first_silent : (table : List ℕ) → List Constructor → Option Constructor
first_silent table cs = find (is_silent table) cs
