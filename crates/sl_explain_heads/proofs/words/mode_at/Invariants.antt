use Rattle.std.proofs.Common.{◌≡◌, drop}
use Rattle.sl_explain_heads.specs.Modes.{mode_view}
use Rattle.sl_explain_heads.specs.Words.{mode_after}
use Rattle.sl_lex.specs.Views.{views}
use Rattle.sl_lex.specs.declared.mode.Mode.TheVariants.{Top}
use Rattle.sl_explain_heads.proofs.words.mode_at.Given as goal

abbrev pub invariant-tokens : goal.invariant-tokens
invariant-tokens l =
    mode_after (mode_view l.mode) (views (drop l.token-index l.front)) ≡ mode_after Top (views l.front)
