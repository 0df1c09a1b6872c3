use Rattle.std.proofs.Common.{◌≡◌, drop}
use Rattle.sl_explain_heads.specs.Modes.{mode_view}
use Rattle.sl_explain_notes.specs.Uses.{used, used_from}
use Rattle.sl_lex.specs.Views.{views}
use Rattle.sl_explain_notes.proofs.uses.used.Given as goal

-- the names so far and those that are used from here on are all
abbrev pub invariant-tokens : goal.invariant-tokens
invariant-tokens l =
    used_from (views l.tokens) (mode_view l.mode) l.at l.names (views (drop l.at l.tokens)) ≡ used (views l.tokens)
