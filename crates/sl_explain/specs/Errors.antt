-- view: errors of the lexer and of the parser.
use Rattle.std.specs.Prelude.{ℕ, List, []}
use Rattle.sl_explain.specs.Facts.{byte_facts, token_facts}
use Rattle.sl_lex.specs.Faults.Fault.{NoLexeme, OpenQuote, TooWide}
use Rattle.sl_lex.specs.Reading.{Token}
use Rattle.sl_lex.specs.declared.LexError.{LexError}
use Rattle.sl_lex.specs.declared.LexError.TheVariants as lex
use Rattle.sl_parse.specs.declared.parser.ParseError.{ParseError}
use Rattle.sl_parse.specs.declared.parser.ParseError.TheVariants as parse
use Rattle.sl_parse_faults.specs.Causes.{left_out, no_spelling, too_deep}
use Rattle.sl_preproc.specs.Expanded.{Text}

abbrev pub lex_facts : Text → LexError → List ℕ
lex_facts t (lex.BadByte at) = byte_facts t NoLexeme at
lex_facts t (lex.OpenString at) = byte_facts t OpenQuote at
lex_facts t (lex.WideInteger at) = byte_facts t TooWide at
lex_facts t lex.NoMemory = []

abbrev pub parse_facts : Text → List Token → ParseError → List ℕ
parse_facts t ts (parse.Syntax at) = token_facts t ts no_spelling at
parse_facts t ts (parse.Nesting at) = token_facts t ts too_deep at
parse_facts t ts (parse.NotSupported feature at) = token_facts t ts (left_out feature) at
parse_facts t ts parse.NoMemory = []
