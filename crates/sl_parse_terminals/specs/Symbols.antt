-- meaning: tokens as symbols.
use Rattle.std.specs.Prelude.{ℕ, List, map}
use Rattle.sl_ast.specs.Symbols.{word_of, Sym, number, word, text, mark, blank, caret, char}
use Rattle.sl_lex.specs.Reading.{Token}
use Rattle.sl_lex.specs.declared.TokKind.{TokKind}
use Rattle.sl_lex.specs.declared.TokKind.TheVariants as t
use Rattle.sl_parse_terminals.specs.Marks.{mark_of}

abbrev pub symbol_by : TokKind → List ℕ → Sym
symbol_by t.Word bytes = word (word_of bytes)
symbol_by (t.Integer n) bytes = number n
symbol_by t.Text bytes = text bytes
symbol_by t.Mark bytes = mark (mark_of bytes)
symbol_by t.Blank bytes = blank bytes
symbol_by t.Caret bytes = caret bytes
symbol_by t.Char bytes = char bytes

-- what the grammar sees of a token
abbrev pub symbol_of : Token → Sym
symbol_of token = symbol_by token.kind token.text

abbrev pub symbols_of : List Token → List Sym
symbols_of tokens = map symbol_of tokens
