use Rattle.std.proofs.Common.{◌≡◌, ◌+◌, drop}
use Rattle.sl_explain_names.specs.Names.{steps_to}
use Rattle.sl_lex.specs.Views.{views}
use Rattle.sl_explain_names.proofs.names.steps_to.Given as goal

-- the tokens so far and those that are left before one are all before it
abbrev pub invariant-tokens : goal.invariant-tokens
invariant-tokens l = l.at + steps_to l.text (views (drop l.at l.tokens)) ≡ steps_to l.text (views l.tokens)
