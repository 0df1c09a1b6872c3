use Rattle.std.proofs.Common.{◌≡◌, drop}
use Rattle.sl_explain_exports.specs.Findings.{assigner, assigner_from}
use Rattle.sl_explain_heads.specs.Modes.{mode_view}
use Rattle.sl_lex.specs.Views.{views}
use Rattle.sl_explain_exports.proofs.findings.assigner.Given as goal

-- the first of the tokens that are left is the first of all
abbrev pub invariant-tokens : goal.invariant-tokens
invariant-tokens l =
    assigner_from (views l.tokens) l.table (mode_view l.mode) l.is_macro l.at (views (drop l.at l.tokens))
    ≡ assigner (views l.tokens) l.table
