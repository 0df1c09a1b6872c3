use Rattle.std.proofs.Common.{◌≡◌, [], drop}
use Rattle.sl_explain_heads.specs.Modes.{mode_view}
use Rattle.sl_explain_heads.specs.Words.{blocks_after}
use Rattle.sl_lex.specs.Views.{views}
use Rattle.sl_lex.specs.declared.mode.Mode.TheVariants.{Top}
use Rattle.sl_explain_heads.proofs.words.blocks_round.Given as goal

abbrev pub invariant-tokens : goal.invariant-tokens
invariant-tokens l =
    blocks_after (mode_view l.mode) l.open.items l.at (views (drop l.at l.front)) ≡ blocks_after Top [] 0 (views l.front)
