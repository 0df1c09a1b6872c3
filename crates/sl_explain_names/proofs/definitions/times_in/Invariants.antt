use Rattle.std.proofs.Common.{◌≡◌, ◌+◌, ◌≤◌, drop}
use Rattle.sl_explain_names.specs.Definitions.{times_in}
use Rattle.sl_lex.specs.Views.{views}
use Rattle.sl_explain_names.proofs.definitions.times_in.Given as goal

abbrev pub invariant-tokens : goal.invariant-tokens
invariant-tokens l =
    (l.count + times_in l.attribute (views (drop l.token-index l.tokens)) ≡ times_in l.attribute (views l.tokens))
    × (l.count ≤ l.token-index)
