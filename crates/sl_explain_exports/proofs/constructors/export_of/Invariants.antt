use Rattle.std.proofs.Common.{◌≡◌, drop}
use Rattle.sl_explain_exports.specs.Constructors.{export_from, export_of}
use Rattle.sl_explain_heads.specs.Modes.{mode_view}
use Rattle.sl_lex.specs.Views.{views}
use Rattle.sl_explain_exports.proofs.constructors.export_of.Given as goal

-- what is left of the constructor exports what the whole does
abbrev pub invariant-tokens : goal.invariant-tokens
invariant-tokens l =
    export_from (mode_view l.mode) l.at (views (drop l.at l.tokens)) ≡ export_of (views l.tokens) l.start
