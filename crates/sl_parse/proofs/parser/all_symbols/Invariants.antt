use Rattle.std.proofs.Common.{take}
use Rattle.sl_lex.specs.Views.{views}
use Rattle.sl_parse_terminals.specs.Symbols.{symbols_of}
use Rattle.sl_parse.specs.Parsing.{HasSymbols}
use Rattle.sl_parse.proofs.parser.all_symbols.Given as goal

abbrev pub invariant-tokens : goal.invariant-tokens
invariant-tokens l = HasSymbols (symbols_of (views (take l.token-index l.tokens))) l.found.items
