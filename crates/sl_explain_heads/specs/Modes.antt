-- view: modes, as the lexer has them.
use Rattle.sl_explain_heads.specs.declared.words.Mode.{Mode}
use Rattle.sl_explain_heads.specs.declared.words.Mode.TheVariants as own
use Rattle.sl_lex.specs.declared.mode.Mode as lexer
use Rattle.sl_lex.specs.declared.mode.Mode.TheVariants.{Top, Head, Plain, Body, Display, Pattern}

abbrev pub mode_view : Mode → lexer.Mode
mode_view own.Top = Top
mode_view own.Head = Head
mode_view own.Plain = Plain
mode_view own.Body = Body
mode_view own.Display = Display
mode_view own.Pattern = Pattern
