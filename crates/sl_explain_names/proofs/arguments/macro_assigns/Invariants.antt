use Rattle.std.proofs.Common.{◌≡◌, drop}
use Rattle.sl_explain_names.specs.Arguments.{assigns_from, macro_assigns}
use Rattle.sl_lex.specs.Views.{views}
use Rattle.sl_explain_names.proofs.arguments.macro_assigns.Given as goal

-- what is left of the macro assigns the parameter where the whole does
abbrev pub invariant-tokens : goal.invariant-tokens
invariant-tokens l =
    assigns_from (views l.tokens) l.name l.at (views (drop l.at l.tokens)) ≡ macro_assigns (views l.tokens) l.name l.of
