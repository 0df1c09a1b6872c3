-- view: tokens as a value of the second stage.
use Rattle.sl_lex.specs.Views.{views}
use Rattle.sl_tool_stages.specs.SourceView.{source_view}
use Rattle.sl_tool_stages.specs.Values as values
use Rattle.sl_tool_stages.specs.declared.tokens.Tokens.{Tokens}

abbrev pub tokens_view : Tokens → values.Tokens
tokens_view k = values.tokens (source_view k.source.now) (views k.tokens.items)
