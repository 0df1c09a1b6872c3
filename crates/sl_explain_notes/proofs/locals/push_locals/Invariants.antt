use Rattle.std.proofs.Common.{◌≡◌, ◌++◌, drop}
use Rattle.sl_explain_heads.specs.Modes.{mode_view}
use Rattle.sl_explain_notes.specs.Locals.{locals, locals_from}
use Rattle.sl_lex.specs.Views.{views}
use Rattle.sl_explain_notes.proofs.locals.push_locals.Given as goal

-- what was told so far and what is told of the items from here on is all; the item's text stays
abbrev pub invariant-tokens : goal.invariant-tokens
invariant-tokens l =
    (l.out.items ++ locals_from (views l.tokens) l.fn.names.items (mode_view l.mode) l.blocks.items l.at (views (drop l.at l.tokens))
    ≡ l.initial.out.items ++ locals (views l.tokens) l.fn.names.items)
    × (l.i.tokens.now ≡ l.tokens) × (l.i.names.items ≡ l.fn.names.items)
