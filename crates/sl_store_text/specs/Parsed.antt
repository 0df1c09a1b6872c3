-- view: a tree that was read from a text.
use Rattle.std.specs.Prelude.{◌≡◌, List}
use Rattle.sl_ast.specs.Spelling.{spell}
use Rattle.sl_ast.specs.Unfolding.{firsts}
use Rattle.sl_ast.specs.Validity.{AreItems}
use Rattle.sl_ast.specs.Views.{indexes_of, items_of}
use Rattle.sl_ast.specs.declared.items.Spec.{Spec}
use Rattle.sl_lex.specs.Reading.{ReadsAs, Token}
use Rattle.sl_parse_terminals.specs.Symbols.{symbols_of}
use Rattle.sl_preproc.specs.Expanded.{Text}
use Rattle.sl_preproc.specs.Sound.{IsSound}

-- The text is sound and reads as these tokens, which spell the tree's items. These have no fault, and the tree keeps the index
-- of each item's first token.
pub record IsParsed (text : Text) (tokens : List Token) (spec : Spec) : Type 0 where
  pub sound : IsSound text
  pub reads : ReadsAs text.bytes tokens
  pub spelled : symbols_of tokens ≡ spell (items_of spec)
  pub no_fault : AreItems (items_of spec)
  pub indexes : indexes_of spec ≡ firsts (items_of spec)
