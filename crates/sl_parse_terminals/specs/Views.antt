-- view: the symbols of the program as those of the definitions.
use Rattle.std.specs.Prelude.{◌≡◌}
use Rattle.sl_ast.specs.Symbols.{word_of, plain, quoted, Sym, number, word, text, mark, blank, caret, char}
use Rattle.sl_parse_terminals.specs.declared.Symbol.{Symbol}
use Rattle.sl_parse_terminals.specs.declared.Symbol.TheVariants as s

abbrev pub sym_of : Symbol → Sym
sym_of (s.Number n) = number n
sym_of (s.Name w) = word (plain w.now)
sym_of (s.Quoted keyword w) = word (quoted keyword)
sym_of (s.Text t) = text t.now
sym_of (s.Mark m) = mark m
sym_of (s.Blank t) = blank t.now
sym_of (s.Caret t) = caret t.now
sym_of (s.Char t) = char t.now

-- a word's bytes are those of the word
abbrev pub HasItsWord : Symbol → Type 0
HasItsWord (s.Name w) = word_of w.now ≡ plain w.now
HasItsWord (s.Quoted keyword w) = word_of w.now ≡ quoted keyword
HasItsWord symbol = Unit {0}
