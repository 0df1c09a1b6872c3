-- view: what a parse tells of symbols.
use Rattle.std.specs.Prelude.{◌≡◌, ℕ, ◌-◌, List, Vec, map}
use Rattle.std.specs.declared.alloc.Global.{Global}
use Rattle.sl_ast.specs.Spelling.{spell}
use Rattle.sl_ast.specs.Symbols.{Sym}
use Rattle.sl_ast.specs.Trees as t
use Rattle.sl_ast.specs.Unfolding.{firsts}
use Rattle.sl_ast.specs.Validity.{AreItems}
use Rattle.sl_ast.specs.Views.{item_of, items_of, joined_lists, item_indexes, indexes_of}
use Rattle.sl_ast.specs.declared.items.Item.{Item}
use Rattle.sl_ast.specs.declared.items.Spec.{Spec}
use Rattle.sl_parse.specs.declared.parser.ParseError.{ParseError}
use Rattle.sl_parse.specs.declared.parser.ParseError.TheVariants.{Syntax, Nesting, NotSupported, NoMemory}
use Rattle.sl_parse_faults.specs.Causes.{IsFault, no_spelling, too_deep, left_out}
use Rattle.sl_parse_phrases.specs.Reads.{AllHaveTheirWords, syms_of}
use Rattle.sl_parse_phrases.specs.declared.stop.Form.TheVariants as fv
use Rattle.sl_parse_phrases.specs.declared.stop.Stop as s
use Rattle.sl_parse_phrases.specs.declared.stop.Stop.TheVariants as sv
use Rattle.sl_parse_terminals.specs.declared.Symbol.{Symbol}

-- The symbols are the spelling of the tree, which has no fault and keeps the index of each item's first symbol.
pub record IsTree (symbols : List Sym) (spec : Spec) : Type 0 where
  pub spells : symbols ≡ spell (items_of spec)
  pub good : AreItems (items_of spec)
  pub places : indexes_of spec ≡ firsts (items_of spec)

-- The error tells the fault of the symbols.
abbrev pub IsFaultOf : List Sym → ParseError → Type 0
IsFaultOf symbols (Syntax at) = IsFault symbols no_spelling at
IsFaultOf symbols (Nesting at) = IsFault symbols too_deep at
IsFaultOf symbols (NotSupported feature at) = IsFault symbols (left_out feature) at
IsFaultOf symbols NoMemory = Unit {0}

-- ---- what is read before

abbrev pub items_seen : Vec Item Global → List t.Item
items_seen found = map item_of found.items

abbrev pub indexes_seen : Vec Item Global → List ℕ
indexes_seen found = joined_lists (map item_indexes found.items)

-- These are the program's symbols, and each word among them has its bytes.
pub record HasSymbols (symbols : List Sym) (found : List Symbol) : Type 0 where
  pub sees : syms_of found ≡ symbols
  pub tied : AllHaveTheirWords found

-- the error of a stop, by the number of all symbols
abbrev pub error_of : ℕ → s.Stop → ParseError
error_of total sv.NoMemory = NoMemory
error_of total (sv.At fv.Syntax n) = Syntax (total - n)
error_of total (sv.At fv.Nesting n) = Nesting (total - n)
error_of total (sv.At (fv.NotSupported feature back) n) = NotSupported feature (total - n - back)
