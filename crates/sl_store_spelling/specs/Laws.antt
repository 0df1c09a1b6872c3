-- law: how the items of a packed file are spelled, and which items that are spelled may be packed.
use Rattle.std.specs.Prelude.{◌≡◌, ◌≤◌, ◌*◌, ℕ, List, length, Some, slice_get}
use Rattle.std.specs.Str.{IsUtf8}
use Rattle.sl_ast.specs.Spelling.{name, spell}
use Rattle.sl_ast.specs.Trees.{Item, Name}
use Rattle.sl_ast.specs.Validity.{AreItems, Each}
use Rattle.sl_lex.specs.Reading.{ReadsAs, Token}
use Rattle.sl_parse_terminals.specs.Symbols.{symbols_of}
use Rattle.sl_store_bytes.specs.Numbers.{greatest}
use Rattle.sl_store_format.specs.Packed.{AllItemLeaves, Written, IsPackable, apart, pack}

-- There are at most eight tokens for each byte, and each name is UTF-8 and no longer than the bytes.
pub record AreSpelledFrom (bytes : List ℕ) (items : List Item) : Type 0 where
  pub few : length (spell items) ≤ 8 * length bytes
  pub names : (k : ℕ) (w : Name) → slice_get (spell items) k ≡ Some (name w) → IsUtf8 w × (length w ≤ length bytes)

-- The items of a packed file are spelled so.
abbrev pub FilesAreSpelled : Type 0
FilesAreSpelled = (w : Written) → IsPackable w → AreSpelledFrom (pack w) (apart w).items

-- The items have names, texts and numbers as a packed file may have them, and a file can count them.
abbrev pub HaveLeaves : List Item → Type 0
HaveLeaves items = (length items ≤ greatest) × Each AllItemLeaves items

-- So have the items without a fault that the tokens of a text spell.
abbrev pub ReadItemsHaveLeaves : Type 0
ReadItemsHaveLeaves = (text : List ℕ) (tokens : List Token) (items : List Item) → ReadsAs text tokens → length text ≤ greatest → symbols_of tokens ≡ spell items
    → AreItems items → HaveLeaves items
