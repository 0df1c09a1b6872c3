use Rattle.std.proofs.Common.{◌≡◌, ◌++◌, drop}
use Rattle.sl_explain_exports.specs.ConstructorView.{constructors as seen}
use Rattle.sl_explain_exports.specs.Constructors.{constructors, constructors_from}
use Rattle.sl_explain_heads.specs.Modes.{mode_view}
use Rattle.sl_lex.specs.Views.{views}
use Rattle.sl_explain_exports.proofs.constructors.constructors.Given as goal

-- those so far and those that begin from here on are all
abbrev pub invariant-tokens : goal.invariant-tokens
invariant-tokens l =
    seen l.out.items ++ constructors_from (views l.tokens) (mode_view l.mode) l.blocks.items l.at (views (drop l.at l.tokens))
    ≡ constructors (views l.tokens)
