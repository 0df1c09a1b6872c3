-- view: the errors of the lexer.
use Rattle.std.specs.Prelude.{ℕ, List}
use Rattle.sl_lex.specs.Faults.Fault.{NoLexeme, OpenQuote, TooWide}
use Rattle.sl_lex.specs.Reading.{HasBadPlace}
use Rattle.sl_lex.specs.declared.LexError.{LexError}
use Rattle.sl_lex.specs.declared.LexError.TheVariants.{BadByte, OpenString, WideInteger, NoMemory}

-- The error tells the first bad place of the text, or that memory ran out.
abbrev pub Tells : List ℕ → LexError → Type 0
Tells text (BadByte place) = HasBadPlace text NoLexeme place
Tells text (OpenString place) = HasBadPlace text OpenQuote place
Tells text (WideInteger place) = HasBadPlace text TooWide place
Tells text NoMemory = Unit {0}
